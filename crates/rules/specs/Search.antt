-- Section 4 of the specification, how the first deadline is looked for: of the smallest so far its time after the clock is kept, in 32 bits. In
-- every sound state the search tells the deadline and the process of the definition. Assumes nothing.
use Rattle.std.specs.Prelude.{◌≡◌, ℕ, ◌+◌, ◌^◌, ◌<◌, ◌≤◌, true, cond, ◌≢◌, List, [], ◌∷◌, ◌==◌}
use Rattle.model.specs.Types.{Process}
use Rattle.model.specs.Types.{State}
use Rattle.model.specs.States.{limit_of, sound_of}
use Rattle.model.specs.Answers.{Due, due, none_due, first_deadline}
use Rattle.rules.specs.declared.survey.Survey.{Survey}
use Rattle.rules.specs.Survey.{scene_of, nothing, noted}

-- [4.85] what is found of the entries from process k on, after f was found
unfoldable pub searched : State → ℕ → ℕ → List Process → Survey → Survey
searched s acting k [] f = f
searched s acting k (q ∷ qs) f =
    searched s acting (k + 1) qs (noted (scene_of s.parameters s.clock acting) k q.location (limit_of s k) f)

-- [4.85] the deadline and the process that are told by what was found: so long after the clock
abbrev pub told : ℕ → Survey → Due
told clock f = cond (f.process == 0) none_due (due f.process (clock + f.left))

-- [4.85] what was found tells `first`, by a distance that 32 bits hold, and that is not past c where there is a deadline
pub record TellsFirst (clock c : ℕ) (first : Due) (f : Survey) : Type 0 where
  pub faultless : f.faulty ≡ 0
  pub same : told clock f ≡ first
  pub narrow : f.left < 2 ^ 32
  pub within : f.process ≢ 0 → f.left ≤ c

-- [4.85] the search over the entries of a sound state, whoever acts
abbrev pub SearchTellsFirst : Type 0
SearchTellsFirst = (s : State) (acting : ℕ) → sound_of s ≡ true
    → TellsFirst s.clock s.parameters.c (first_deadline s) (searched s acting 1 s.processes nothing)
