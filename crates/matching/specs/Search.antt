-- What the two engines find when they look for the first deadline, [4.85], in plain facts: nobody just where nobody has a deadline, and else the
-- lowest of the processes whose deadline is the smallest, which is the clock and the time left. Assumes nothing.
use Rattle.std.specs.Prelude.{ℕ, ◌+◌, ◌≤◌, ◌≡◌, ◌≢◌, ◌↔◌, true}
use Rattle.model.specs.Types.{State}
use Rattle.model.specs.States.{sound_of}
use Rattle.model.specs.Facts.{HasDeadline}
use Rattle.theory.specs.Lateness.{IsFirst}
use Rattle.rules.specs.declared.survey.Survey.{Survey}
use Rattle.rules.specs.Survey.{nothing}
use Rattle.rules.specs.Search.{searched}
use Rattle.deadlines.specs.Types.{DeadlineState}
use Rattle.deadlines.specs.Deadlines.{sound_with}
use Rattle.deadlines.specs.Search.{searched_with}
use Rattle.matching.specs.Facts.{HasTimes}

-- [4.8] [4.85] f was found of a state
pub record FindsFirst (s : State) (f : Survey) : Type 0 where
  pub none : (f.process ≡ 0) ↔ ((i d : ℕ) → HasDeadline s i d → ⊥)
  pub some : f.process ≢ 0 → IsFirst s f.process (s.clock + f.left)

-- [4.8] [4.85]
abbrev pub SearchFindsFirst : Type 0
SearchFindsFirst = (s : State) (acting : ℕ) → sound_of s ≡ true → FindsFirst s (searched s acting 1 s.processes nothing)

-- [4.85] [12.50] f was found of a state of deadlines
pub record FindsFirstWith (d : DeadlineState) (f : Survey) : Type 0 where
  pub none : (f.process ≡ 0) ↔ ((i first last : ℕ) → HasTimes d i first last → ⊥)
  pub has : f.process ≢ 0 → (first : ℕ) × HasTimes d f.process first (d.clock + f.left)
  pub smallest : f.process ≢ 0 → (i first last : ℕ) → HasTimes d i first last → d.clock + f.left ≤ last
  pub lowest : f.process ≢ 0 → (i first : ℕ) → HasTimes d i first (d.clock + f.left) → f.process ≤ i

-- [4.85] [12.50]
abbrev pub SearchFindsFirstWith : Type 0
SearchFindsFirstWith = (d : DeadlineState) (acting : ℕ) → sound_with d ≡ true
    → FindsFirstWith d (searched_with d acting 1 d.processes nothing)
