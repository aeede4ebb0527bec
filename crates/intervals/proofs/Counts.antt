-- As many intervals as the summary counts entries: each accepted crit of the log has its interval, and the log of the recorded steps is that
-- of the run. Assumes nothing.
use Prim.Native.Nat.{ℕ, ◌+◌, ◌≤◌}
use mathlib.Core.Path.{◌≡◌, ap}
use mathlib.Core.Bool.{cond}
use mathlib.Core.List.{List, [], ◌∷◌, map}
use native.Mathlib.Omega.{arith}
use lib.ListN.{length}
use Rattle.model.specs.Types.{State}
use Rattle.model.specs.declared.Counts.{Counts}
use Rattle.model.specs.Facts.{IsFresh}
use Rattle.model.specs.Folds.{log_by}
use Rattle.model.specs.Summaries.{most_acts, code_of}
use Rattle.model.specs.Tallies.{Attempt, attempted, is_entry, count_of}
use Rattle.model.specs.Texts.{Event}
use Rattle.model.specs.Executions.{attempts_of, attempts_from}
use Rattle.model.proofs.Tests.{by_test}
use Rattle.tallies.specs.Tallies.{record_all, records_of, start_of}
use Rattle.tallies.proofs.Codes.{same_codes}
use Rattle.tallies.proofs.Tallies.{along_start, every_tally}
use Rattle.intervals.specs.Intervals.{intervals_of}

-- Entries of a log

length_more : (e : Attempt) (es : List Attempt) → length (intervals_of (e ∷ es)) ≡ cond (is_entry e) 1 0 + length (intervals_of es)
unfolding intervals_of
length_more e es = by_test (is_entry e) (λ t. rw t (omega arith)) (λ f. rw f (omega arith))

entries_logged : (log : List Attempt) (es : List Event) (codes : List ℕ)
    → count_of is_entry (log_by attempted log es codes) ≡ length (intervals_of (attempts_of es codes)) + count_of is_entry log
unfolding log_by attempts_of intervals_of count_of
entries_logged log [] codes = omega arith
entries_logged log (e ∷ es) [] = omega arith
entries_logged log (e ∷ es) (code ∷ codes) =
    omega (arith, entries_logged (attempted e code ∷ log) es codes, length_more (attempted e code) (attempts_of es codes))

-- The summary's count

pub entries_counted : {s : State} → IsFresh s → (events : List Event) → length events ≤ most_acts
    → length (intervals_of (attempts_from s events)) ≡ (record_all (start_of s) events).statistics.counts.entries
unfolding count_of
entries_counted {s} f events room =
    let codes = same_codes [] (start_of s) events (along_start f) (omega arith) in
    let told = ap (λ (k : Counts). k.entries) (every_tally s f events).counts in
    omega (
      arith,
      told,
      entries_logged [] events (map code_of (records_of (start_of s) events)),
      ap (λ (l : List ℕ). length (intervals_of (attempts_of events l))) codes,
    )
