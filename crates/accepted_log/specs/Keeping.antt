-- The accepted log as it is put together, in the lists of the steps: what one step leaves there, and all steps. For the proofs only. Assumes
-- nothing.
use Rattle.std.specs.Prelude.{ℕ, ◌+◌, ◌≡◌, List, length}
use Rattle.std.proofs.lemmas.List.Edits.{sets}
use Rattle.model.specs.Readings.{Lists}
use Rattle.local_log.specs.Comparisons.{Entry, actions_in, times_in}

-- the log `log` has been put into the lists l from place `at` on, which are m now, and `next` is the place behind it
pub record Kept (log : List Entry) (at next : ℕ) (l m : Lists) : Type 0 where
  pub next_is : next ≡ at + length log
  pub times_are : m.times ≡ sets l.times at (times_in log)
  pub processes_are : m.processes ≡ l.processes
  pub actions_are : m.actions ≡ sets l.actions at (actions_in log)
