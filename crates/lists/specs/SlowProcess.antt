-- Section 8 of the specification, the owed wait where processes differ in a: a slow process that comes alone, and why the largest a
-- stands in the bound. antt computes the case. Assumes nothing.
use Rattle.std.specs.Prelude.{◌+◌, ◌*◌, ◌≡◌, List, [], ◌∷◌, ◌++◌, map}
use Rattle.model.specs.Types.{State}
use Rattle.model.specs.Acts.{try_act, test_act, set_act, check_act, crit_act}
use Rattle.model.specs.Facts.{IsFresh}
use Rattle.model.specs.Summaries.{code_of}
use Rattle.model.specs.Calls.{Call, results_of}
use Rattle.theory.specs.OwnDeadlines.{with_own}
use Rattle.lists.specs.Demand3.{OwedWithin, owed_wait}
use Rattle.lists.specs.Withdrawals.{example_step}

-- helper: the table that the case starts from: process 1 has the a 1, process 2 has 1000, and c is 2000
abbrev pub slow_table : State
slow_table = with_own 1 1000

-- helper: the slow process tries
abbrev pub slow_tries : List Call
slow_tries = example_step try_act 2 0 ∷ []

-- helper: it takes all the time that it has, up to its crit
abbrev pub slow_comes : List Call
slow_comes = example_step test_act 2 1000 ∷ example_step set_act 2 2000 ∷ example_step check_act 2 4000 ∷ example_step crit_act 2 5000 ∷ []

-- [8.82] [8.80] [2.92] so the a of the quick process would not do
pub record SlowComesAlone : Type 0 where
  pub fresh : IsFresh slow_table
  pub accepted : map code_of (results_of slow_table (slow_tries ++ slow_comes)) ≡ 0 ∷ 0 ∷ 0 ∷ 0 ∷ 0 ∷ []
  pub bound : owed_wait slow_table.parameters ≡ 9000
  pub too_short : OwedWithin (2 * 2000 + 5 * 1) slow_table (slow_tries ++ slow_comes) → ⊥
