-- The cases of section 20 of the specification that are about states of deadlines, and one of two processes whose values of a lie far apart, by
-- computation. Assumes nothing.
use Rattle.std.specs.Prelude.{ℕ, ◌≡◌, [], ◌∷◌, map, replicate}
use Rattle.model.specs.declared.Parameters.{Parameters}
use Rattle.model.specs.Acts.{wait_act, test_act, withdraw_act}
use Rattle.model.specs.States.{limits_in, equal_limits, parameters_of, initial}
use Rattle.model.specs.Answers.{answer_of}
use Rattle.model.specs.Texts.{event}
use Rattle.model.specs.Executions.{state_from}
use Rattle.theory.specs.OwnDeadlines.{both_try}
use Rattle.deadlines.specs.Types.{DeadlineLocation}
use Rattle.model.specs.declared.Location.TheVariants.{Testing, Checking}
use Rattle.deadlines.specs.Types.{DeadlineState}
use Rattle.deadlines.specs.Types.{DeadlineOutcome}
use Rattle.deadlines.specs.Deadlines.{period, entry_with, idle_with, initial_with, answers_with, fresh_with, step_with}
use Rattle.deadlines.specs.Matching.{to_deadlines}
use Rattle.matching.specs.Lists.{steps_with, run_with}

-- [20.260] process 1 is in a location, at the clock 0, and all others are in the remainder
abbrev pub only_first : DeadlineLocation → DeadlineState
only_first l = record { parameters = parameters_of 2 8 12 (equal_limits 2 5); clock = 0; word = 0; processes = entry_with l ∷ replicate 95 idle_with }

-- helper: a wait at the clock is answered with a code and zeros, and the state comes back
abbrev pub WaitGives : ℕ → DeadlineLocation → Type 0
WaitGives code l = step_with (only_first l) wait_act 0 0 ≡ answers_with code 0 0 (only_first l)

-- [20.260] [12.35] in the order of the clause
pub record DeadlineCases : Type 0 where
  pub of_arrival_0 : WaitGives 0 (Checking (period 8 12))
  pub one_later : WaitGives 1 (Checking (period 8 13))
  pub of_no_arrival : WaitGives 1 (Checking (period 3 7))
  pub first_below_b : WaitGives 1 (Checking (period 3 12))
  pub last_far_off : WaitGives 1 (Testing (period 0 18_446_744_073_709_551_615))
  pub first_that_wraps : WaitGives 1 (Testing (period 18_446_744_073_709_551_615 4))

-- Two values of a that lie far apart

-- helper: the parameters of two processes with these values of a
abbrev pub own_parameters : ℕ → ℕ → Parameters
own_parameters a₁ a₂ = parameters_of 2 8_000 12_000 (limits_in (a₁ ∷ a₂ ∷ []))

-- [12.60] they did: the last time of each is by its own a
abbrev pub both_testing : ℕ → ℕ → DeadlineState
both_testing a₁ a₂ = record {
  parameters = own_parameters a₁ a₂;
  clock = 0;
  word = 0;
  processes = entry_with (Testing (period 0 a₁)) ∷ entry_with (Testing (period 0 a₂)) ∷ replicate 94 idle_with;
}

-- [2.90] [12.20] [20.270] the process `quick` has the a 5, and `slow` has 5,000
pub record OwnLastTimes (a₁ a₂ quick slow : ℕ) : Type 0 where
  -- [12.40]
  pub fresh : fresh_with (own_parameters a₁ a₂) ≡ answers_with 0 0 0 (initial_with (own_parameters a₁ a₂))
  -- [12.60]
  pub written : run_with (initial_with (own_parameters a₁ a₂)) both_try ≡ both_testing a₁ a₂
  -- [12.100] of the arrivals that the same steps of the first engine leave
  pub turned : to_deadlines (state_from (initial (own_parameters a₁ a₂)) both_try) ≡ answers_with 0 0 0 (both_testing a₁ a₂)
  -- [12.50]
  pub quick_late : step_with (both_testing a₁ a₂) wait_act 0 6 ≡ answers_with 8 quick 5 (both_testing a₁ a₂)
  -- [12.50] once the quick one has withdrawn
  pub slow_late : map (λ (o : DeadlineOutcome). o.answer)
      (steps_with (both_testing a₁ a₂) (event 5 quick withdraw_act ∷ event 5_001 0 wait_act ∷ event 5_000 slow test_act ∷ []))
      ≡ answer_of 0 0 5 ∷ answer_of 8 slow 5_000 ∷ answer_of 0 0 5_000 ∷ []

-- [2.90] [12.20] whichever of the two has the lower number
pub record EachItsOwnWith : Type 0 where
  pub quick_first : OwnLastTimes 5 5_000 1 2
  pub slow_first : OwnLastTimes 5_000 5 2 1
