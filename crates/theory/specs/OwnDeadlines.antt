-- Section 2 of the specification, deadlines by each process's own a: two processes whose values of a lie far apart try at 0, with the quick
-- one first and with the slow one first. antt computes the answers. Assumes nothing.
use Rattle.std.specs.Prelude.{ℕ, ◌≡◌, List, [], ◌∷◌, ◌++◌}
use Rattle.model.specs.Types.{State}
use Rattle.model.specs.Acts.{wait_act, try_act, test_act, set_act}
use Rattle.model.specs.States.{limits_in, parameters_of, initial}
use Rattle.model.specs.Answers.{answer_of}
use Rattle.model.specs.Facts.{IsFresh}
use Rattle.model.specs.Texts.{Event, event}
use Rattle.model.specs.Executions.{answers_from}

-- helper: a fresh state of two processes with these values of a
abbrev pub with_own : ℕ → ℕ → State
with_own first second = initial (parameters_of 2 1001 2000 (limits_in (first ∷ second ∷ [])))

-- helper: both processes try
abbrev pub both_try : List Event
both_try = event 0 1 try_act ∷ event 0 2 try_act ∷ []

-- [2.90] the process `quick` has the a 1, and `slow` has 1000
pub record OwnDeadlines (s : State) (quick slow : ℕ) : Type 0 where
  pub fresh : IsFresh s
  -- the quick one, once it is past 1
  pub quick_late : answers_from s (both_try ++ event 2 0 wait_act ∷ []) ≡ answer_of 0 0 0 ∷ answer_of 0 0 0 ∷ answer_of 8 quick 1 ∷ []
  -- it acts in time, and is checking from 2 on, by c; the slow one alone is late, past 1000 and not before
  pub slow_late : answers_from s (both_try ++ event 1 quick test_act ∷ event 2 quick set_act ∷ event 1000 0 wait_act ∷ event 1001 0 wait_act ∷ [])
      ≡ answer_of 0 0 0 ∷ answer_of 0 0 0 ∷ answer_of 0 0 1 ∷ answer_of 0 0 2 ∷ answer_of 0 0 1000 ∷ answer_of 8 slow 1000 ∷ []

-- [2.90] whichever of the two has the lower number
pub record EachItsOwn : Type 0 where
  pub quick_first : OwnDeadlines (with_own 1 1000) 1 2
  pub slow_first : OwnDeadlines (with_own 1000 1) 2 1
