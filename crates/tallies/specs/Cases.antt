-- Section 20 of the specification, its case of a summary: the second of two processes waits while the first is critical. The numbers are
-- worked out by hand, and computed here from the definitions, those of the recorded step and those of the log. Assumes nothing.
use Rattle.std.specs.Prelude.{ℕ, ◌≡◌, List, [], ◌∷◌, ◌++◌, map}
use Rattle.model.specs.declared.Counts.{Counts}
use Rattle.model.specs.declared.Recorded.{Recorded}
use Rattle.model.specs.Acts.{try_act, test_act, set_act, check_act, crit_act, exit_act, reset_act, rem_act}
use Rattle.model.specs.States.{equal_limits, parameters_of, initial}
use Rattle.model.specs.Texts.{Event, event}
use Rattle.model.specs.Summaries.{counts_of, waited_by, code_of}
use Rattle.model.specs.Tallies.{log_of, tally_of}
use Rattle.tallies.specs.Tallies.{record_all, records_of, start_of}

-- [20.250] the acts, up to the crit of process 2
abbrev pub before_crit : List Event
before_crit =
    event 0 1 try_act
    ∷ event 1 1 test_act
    ∷ event 2 1 set_act
    ∷ event 10 1 check_act
    ∷ event 10 2 try_act
    ∷ event 12 1 crit_act
    ∷ event 12 2 test_act
    ∷ event 13 2 set_act
    ∷ event 16 1 exit_act
    ∷ event 16 2 test_act
    ∷ event 18 1 reset_act
    ∷ event 20 2 test_act
    ∷ event 21 2 set_act
    ∷ event 22 1 rem_act
    ∷ event 29 2 check_act
    ∷ []

-- [20.250] all of them
abbrev pub with_crit : List Event
with_crit = before_crit ++ event 31 2 crit_act ∷ []

-- [20.250] the codes of the answers
abbrev pub codes : List ℕ
codes = 0 ∷ 0 ∷ 0 ∷ 0 ∷ 0 ∷ 0 ∷ 0 ∷ 9 ∷ 0 ∷ 0 ∷ 0 ∷ 0 ∷ 0 ∷ 0 ∷ 0 ∷ 0 ∷ []

-- [20.250] accepted, refused, entries, exits, and the longest wait
abbrev pub counts : Counts
counts = counts_of 15 1 2 1 17

-- [20.250] a fresh state and a new summary
abbrev pub start : Recorded
start = start_of (initial (parameters_of 2 8 12 (equal_limits 2 5)))

-- [20.250]
pub record WaitCase : Type 0 where
  pub answered : map code_of (records_of start with_crit) ≡ codes
  -- the crit's own unused time is not among it yet
  pub waited : waited_by (record_all start before_crit).statistics 2 ≡ 15
  pub counted : (record_all start with_crit).statistics.counts ≡ counts
  -- from the acts and the codes alone
  pub told : tally_of (log_of with_crit codes) ≡ counts
