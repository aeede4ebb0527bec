-- What the call gives back of a text that is a trace: the refusals, one by one, and the log. Assumes nothing.
use Prim.Native.Nat.{ℕ, ◌≤◌, ◌<◌, min}
use mathlib.Core.Path.{◌≡◌}
use mathlib.Core.List.{List}
use native.Mathlib.Omega.{arith}
use lib.ListN.{length}
use borrow.Author.Tests.{le-leb, lt-leb, lt-ltb, le-ltb}
use Rattle.model.specs.declared.Answer.{Answer}
use Rattle.model.specs.Writings.{events_of}
use Rattle.model.specs.declared.Started.{Started}
use Rattle.model.specs.Readings.{Lists}
use Rattle.model.specs.Executions.{attempts_from}
use Rattle.grammar.specs.RoundTrips.{first_of}
use Rattle.execution.proofs.Starts.{Ready}
use Rattle.local_log.specs.Comparisons.{Entry}
use Rattle.accepted_log.specs.AcceptedLogs.{accepted_log, log_gave, unlogged, logged, logged_in, read_accepted_of}

-- it is equal where its parts are
pub log-gave : {r s : Answer} {ts us qs vs : List ℕ} → r ≡ s → ts ≡ us → qs ≡ vs → log_gave r ts qs ≡ log_gave s us vs
log-gave r ts qs = λ i. log_gave (r i) (ts i) (qs i)

-- the log of process p in what was started
abbrev pub started_log : Started → Lists → ℕ → List Entry
started_log s kept p = accepted_log p (attempts_from s.state (events_of (first_of s.found.steps kept)))

module _ {text : List ℕ} {s : Started} {kept : Lists} (r : Ready text s kept) (p : ℕ) (times actions : List ℕ) where
  -- it is no process of the trace
  pub gave_low : p ≡ 0 → read_accepted_of text p times actions ≡ unlogged 7 0 times actions
  unfolding read_accepted_of
  gave_low e = rw (r.is, lt-leb 1 p (omega arith))

  pub gave_high : 1 ≤ p → s.found.parameters.n < p → read_accepted_of text p times actions ≡ unlogged 7 0 times actions
  unfolding read_accepted_of
  gave_high some h = rw (r.is, le-leb 1 p some, lt-leb p s.found.parameters.n h)

  -- it is a process of the trace
  module _ (is : (1 ≤ p) × (p ≤ s.found.parameters.n)) where
    gave_log : read_accepted_of text p times actions ≡ logged_in (started_log s kept p) times actions
    unfolding read_accepted_of
    gave_log = rw (r.is, r.state, le-leb 1 p is.0, le-leb p s.found.parameters.n is.1)

    pub gave_short : min (length times) (length actions) < length (started_log s kept p)
        → read_accepted_of text p times actions ≡ unlogged 16 0 times actions
    unfolding logged_in
    gave_short h = rw (gave_log, lt-ltb (min (length times) (length actions)) (length (started_log s kept p)) h)

    pub gave_all : length (started_log s kept p) ≤ min (length times) (length actions)
        → read_accepted_of text p times actions ≡ logged (started_log s kept p) times actions
    unfolding logged_in
    gave_all h = rw (gave_log, le-ltb (min (length times) (length actions)) (length (started_log s kept p)) h)
