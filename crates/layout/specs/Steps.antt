-- What is found of a lent table, and what an action makes of it, on the numbers themselves. For the proofs only. `proofs/` relates
-- these definitions to the step of the model. Assumes nothing.
use Rattle.std.specs.Prelude.{ℕ, ◌+◌, cond, not, List, [], ◌∷◌, ◌==◌}
use Rattle.model.specs.declared.Transition.{Transition}
use Rattle.model.specs.declared.Answer.{Answer}
use Rattle.model.specs.Acts.{wait_act}
use Rattle.model.specs.States.{stage_of, limit_at}
use Rattle.rules.specs.declared.survey.Scene.{Scene}
use Rattle.rules.specs.declared.survey.Survey.{Survey}
use Rattle.rules.specs.Survey.{numbers_stand, scene_of, nothing, unsound, numbers_noted}
use Rattle.rules.specs.Judging.{slot_of, check_from, row_of, judged}
use Rattle.values.specs.Bits.{are_zero}
use Rattle.layout.specs.Encodings.{count_in, b_in, limits_told, table_parameters, clock_in, word_in}
use Rattle.layout.specs.Interface.{Lent, lent_gave}
use Rattle.layout.specs.Places.{EntryNumbers, entries_in, entries_from, first_entries, location_in, clocked, placed_at}

-- What is found

-- the entries from process k on, after f was found, with the values of a from process 1 on; a fault ends the pass
unfoldable pub entries_noted : List ℕ → Scene → ℕ → List EntryNumbers → Survey → Survey
entries_noted a x k [] f = f
entries_noted a x k (e ∷ es) f =
    cond ((numbers_noted x k e.stage e.since (limit_at a k) f).faulty == 0)
    (entries_noted a x (k + 1) es (numbers_noted x k e.stage e.since (limit_at a k) f))
    unsound

-- the entries of the processes from 1 to n
abbrev pub entries_up_to : ℕ → List ℕ → List EntryNumbers
entries_up_to n l = entries_in (first_entries n (entries_from l 0))

-- what all looks at entries of a table have in common
abbrev pub scene_in : List ℕ → ℕ → Scene
scene_in l acting = scene_of (table_parameters l) (clock_in l) acting

-- what the pass over the entries up to n finds
abbrev pub pass_in : List ℕ → ℕ → Survey
pass_in l acting = entries_noted (limits_told l) (scene_in l acting) 1 (entries_up_to (count_in l) l) nothing

-- of just the numbers of a table
unfoldable pub survey_in : List ℕ → ℕ → Survey
survey_in l acting =
    cond (not (numbers_stand (table_parameters l) (clock_in l) (word_in l))) unsound
    (cond (not ((pass_in l acting).faulty == 0)) unsound
    (cond (not (are_zero (entries_from l (count_in l)))) unsound
    (pass_in l acting)))

-- What an action makes of it

-- what is written of an accepted action with the row t
unfoldable pub action_put : List ℕ → ℕ → ℕ → Transition → ℕ → List ℕ
action_put l slot act t m = cond (act == wait_act) (clocked l m t.word) (placed_at (clocked l m t.word) slot t.to)

-- the row of the action
abbrev pub row_in : List ℕ → ℕ → ℕ → ℕ → Transition
row_in l act p m = row_of act p m (word_in l)

-- the answer, from what was found
abbrev pub answer_in : List ℕ → Survey → ℕ → ℕ → ℕ → Answer
answer_in l f act p m =
    judged f (scene_in l p) (stage_of (location_in l (slot_of p))) (check_from (location_in l (slot_of p)) (b_in l)) (row_in l act p m) act m

-- the answer, and the numbers
unfoldable pub acted_in : List ℕ → Survey → ℕ → ℕ → ℕ → Lent
acted_in l f act p m =
    lent_gave (answer_in l f act p m) (cond ((answer_in l f act p m).code == 0) (action_put l (slot_of p) act (row_in l act p m) m) l)
