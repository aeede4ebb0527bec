-- The text of intervals as it is put, step by step: a crit begins a line and an exit ends it. For the proofs only. Assumes nothing.
use Rattle.std.specs.Prelude.{ℕ, Bool, true, false, cond, List, [], ◌∷◌, ◌++◌}
use Rattle.model.specs.Types.{State}
use Rattle.model.specs.Tallies.{Attempt, is_entry, is_exit}
use Rattle.model.specs.Texts.{bytes, comma, newline, number_text, Event}
use Rattle.model.specs.Executions.{attempts_from}
use Rattle.intervals.specs.Intervals.{interval_names}

-- what one attempt puts: the first two fields of a line, the last one, or nothing
unfoldable pub part_text : Attempt → List ℕ
part_text e =
    cond (is_entry e) (number_text comma e.process ++ number_text comma e.time)
    (cond (is_exit e) (number_text newline e.time) [])

-- what all of them put
unfoldable pub parts_text : List Attempt → List ℕ
parts_text [] = []
parts_text (e ∷ es) = part_text e ++ parts_text es

-- whether a line is begun after one more
unfoldable pub open_with : Bool → Attempt → Bool
open_with opened e = cond (is_entry e) true (cond (is_exit e) false opened)

-- and after all of them
unfoldable pub open_after : Bool → List Attempt → Bool
open_after opened [] = opened
open_after opened (e ∷ es) = open_after (open_with opened e) es

-- what ends a line that is begun at the end
abbrev pub last_text : Bool → List ℕ
last_text opened = cond opened (bytes "-\n") []

-- all that is put for these attempts after the names line, where a line is begun or not
abbrev pub rest_text : Bool → List Attempt → List ℕ
rest_text opened es = parts_text es ++ last_text (open_after opened es)

-- all that is put for steps, the first of which is taken in the state s
unfoldable pub pass_text : State → List Event → List ℕ
pass_text s events = interval_names ++ rest_text false (attempts_from s events)
