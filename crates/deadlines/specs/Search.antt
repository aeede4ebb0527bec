-- Section 12 of the specification, how the second engine looks for the first deadline: as the first engine does, over the last times, keeping 32
-- bits of the time left to it. Assumes nothing.
use Rattle.std.specs.Prelude.{◌≡◌, ℕ, ◌+◌, true, List, [], ◌∷◌}
use Rattle.model.specs.States.{limit_in}
use Rattle.rules.specs.declared.survey.Survey.{Survey}
use Rattle.rules.specs.Survey.{scene_of, nothing}
use Rattle.rules.specs.Search.{TellsFirst}
use Rattle.deadlines.specs.Types.{DeadlineProcess}
use Rattle.deadlines.specs.Types.{DeadlineState}
use Rattle.deadlines.specs.Deadlines.{sound_with, first_last}
use Rattle.deadlines.specs.Looks.{location_noted}

-- [4.85] what is found of the entries from process k on, after f was found
unfoldable pub searched_with : DeadlineState → ℕ → ℕ → List DeadlineProcess → Survey → Survey
searched_with d acting k [] f = f
searched_with d acting k (q ∷ qs) f =
    searched_with d acting (k + 1) qs
    (location_noted (scene_of d.parameters d.clock acting) k q.location d.parameters.b (limit_in d.parameters k) f)

-- [4.85] [12.50] the search over the entries of a sound state of deadlines, whoever acts
abbrev pub SearchTellsFirstWith : Type 0
SearchTellsFirstWith = (d : DeadlineState) (acting : ℕ) → sound_with d ≡ true
    → TellsFirst d.clock d.parameters.c (first_last d) (searched_with d acting 1 d.processes nothing)
