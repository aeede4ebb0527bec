-- What is found of a lent deadline table, and what an action makes of it, on the numbers themselves. For the proofs only. `proofs/` relates these
-- definitions to the step of the second engine. Assumes nothing.
use Rattle.std.specs.Prelude.{ℕ, ◌+◌, ◌^◌, ◌≤◌, ◌<◌, ◌≡◌, Bool, cond, not, List, [], ◌∷◌, eqb, get_or}
use Rattle.model.specs.declared.Transition.{Transition}
use Rattle.model.specs.declared.Answer.{Answer}
use Rattle.model.specs.Acts.{wait_act}
use Rattle.model.specs.Stages.{remainder, critical}
use Rattle.model.specs.States.{limit_at}
use Rattle.values.specs.Bits.{are_zero}
use Rattle.rules.specs.declared.survey.Scene.{Scene}
use Rattle.rules.specs.declared.survey.Survey.{Survey}
use Rattle.rules.specs.Survey.{numbers_stand, nothing, unsound, critical_noted, due_noted}
use Rattle.rules.specs.Judging.{slot_of, judged}
use Rattle.layout.specs.Encodings.{limit_place, count_in, b_in, c_in, limits_told, table_parameters, clock_in, word_in}
use Rattle.layout.specs.Interface.{Lent, lent_gave}
use Rattle.layout.specs.Places.{clocked}
use Rattle.layout.specs.Steps.{scene_in, row_in}
use Rattle.deadlines.specs.Deadlines.{deadline_at}
use Rattle.deadlines.specs.Looks.{dated_with, location_noted, settled_by}
use Rattle.deadline_layout.specs.Encodings.{stage_place_with, first_place, tells_times}
use Rattle.deadline_layout.specs.Places.{entries_from, first_entries, placed_with}

-- What is found

-- a look at the numbers of the entry of process k, whose a is `limit`, after f was found: at the location that they tell, or there is a fault
unfoldable pub numbers_noted_with : Scene → ℕ → ℕ → ℕ → ℕ → ℕ → ℕ → Survey → Survey
numbers_noted_with x k stage first last b limit f =
    cond (tells_times stage first last) (location_noted x k (deadline_at stage first last) b limit f) unsound

-- the entries from process k on, after f was found, with the values of a from process 1 on; a fault ends the pass
unfoldable pub entries_noted_with : ℕ → List ℕ → Scene → ℕ → List ℕ → Survey → Survey
entries_noted_with b a x k [] f = f
entries_noted_with b a x k (stage ∷ []) f = f
entries_noted_with b a x k (stage ∷ first ∷ []) f = f
entries_noted_with b a x k (stage ∷ first ∷ last ∷ rest) f =
    cond (eqb (numbers_noted_with x k stage first last b (limit_at a k) f).faulty 0)
    (entries_noted_with b a x (k + 1) rest (numbers_noted_with x k stage first last b (limit_at a k) f))
    unsound

-- The numbers of an entry

-- its stage
abbrev pub stage_in : List ℕ → ℕ
stage_in e = get_or e 0 0

-- its first time
abbrev pub first_in : List ℕ → ℕ
first_in e = get_or e 1 0

-- its last time
abbrev pub last_in : List ℕ → ℕ
last_in e = get_or e 2 0

-- a look at them, where they are the entry of process k, whose a is `limit`
abbrev pub look_at : List ℕ → Scene → ℕ → ℕ → ℕ → Survey → Survey
look_at e x k b limit f = numbers_noted_with x k (stage_in e) (first_in e) (last_in e) b limit f

-- the same, where they tell a location and the times of one arrival up to the clock
unfoldable pub standing_noted : List ℕ → Scene → ℕ → Survey → Survey
standing_noted e x k f =
    cond (eqb (stage_in e) remainder) f (cond (eqb (stage_in e) critical) (critical_noted x.acting k f) (due_noted x.clock k (last_in e) f))

-- whether the two times are of one arrival up to the clock; the last is a number of 64 bits
pub record OfArrival (e : List ℕ) (clock opens closes : ℕ) (r : Bool) : Type 0 where
  pub is : r ≡ settled_by 0 clock (first_in e) (last_in e) opens closes
  pub fits : last_in e < 2 ^ 64

-- whether they are such, so that there is no fault in a look at them but that of a last time before the clock
pub record Stands (e : List ℕ) (limit b : ℕ) (x : Scene) (r : Bool) : Type 0 where
  pub look : (k : ℕ) (f : Survey) → k ≤ x.n → look_at e x k b limit f ≡ cond r (standing_noted e x k f) unsound

-- The whole table

-- what the pass over the entries up to n finds
abbrev pub pass_with : List ℕ → ℕ → Survey
pass_with l acting =
    entries_noted_with (b_in l) (limits_told l) (scene_in l acting) 1 (first_entries (count_in l) (entries_from l 0)) nothing

-- of just the numbers of a deadline table
unfoldable pub survey_with : List ℕ → ℕ → Survey
survey_with l acting =
    cond (not (numbers_stand (table_parameters l) (clock_in l) (word_in l))) unsound
    (cond (not (eqb (pass_with l acting).faulty 0)) unsound
    (cond (not (are_zero (entries_from l (count_in l)))) unsound
    (pass_with l acting)))

-- What an action makes of it

-- what is written of an accepted action with the row t
unfoldable pub action_put_with : List ℕ → ℕ → ℕ → Transition → ℕ → List ℕ
action_put_with l slot act t m =
    clocked (cond (eqb act wait_act) l (placed_with l slot (dated_with (b_in l) (c_in l) (get_or l (limit_place slot) 0) t.to))) m t.word

-- the answer, from what was found
abbrev pub answer_in : List ℕ → Survey → ℕ → ℕ → ℕ → Answer
answer_in l f act p m =
    judged f (scene_in l p) (get_or l (stage_place_with (slot_of p)) 0) (get_or l (first_place (slot_of p)) 0) (row_in l act p m) act m

-- the answer, and the numbers
unfoldable pub acted_with : List ℕ → Survey → ℕ → ℕ → ℕ → Lent
acted_with l f act p m =
    lent_gave (answer_in l f act p m)
    (cond (eqb (answer_in l f act p m).code 0) (action_put_with l (slot_of p) act (row_in l act p m) m) l)
