-- What the step gives back on a lent list, of which the first numbers are the deadline table. Assumes nothing.
use Prim.Native.Nat.{ℕ, ◌≤◌, ◌<◌}
use mathlib.Core.Path.{◌≡◌, refl, sym, ap, ◌∙◌}
use mathlib.Core.Bool.{true, false}
use mathlib.Core.List.{List, ◌++◌}
use lib.Dec.{eqb}
use lib.ListN.{length, take, drop, length-set, take-append-drop}
use lib.Seq.{length-take-le}
use borrow.Author.Tests.{le-leb, lt-leb, eq-eqb, ne_eqb}
use Rattle.model.specs.declared.Answer.{Answer}
use Rattle.model.specs.Acts.{wait_act}
use Rattle.model.specs.Answers.{answer_of}
use Rattle.model.proofs.Tests.{by_test}
use Rattle.rules.specs.declared.survey.Survey.{Survey}
use Rattle.layout.specs.Interface.{Lent, lent_gave}
use Rattle.layout.proofs.Lists.{front_over}
use Rattle.layout.proofs.Acts.{lent-gave}
use Rattle.deadlines.specs.Types.{DeadlineOutcome}
use Rattle.deadlines.specs.Deadlines.{step_with}
use Rattle.deadline_layout.specs.Encodings.{deadline_length, is_deadline_table, deadline_table_in, is_sound_deadline_table}
use Rattle.deadline_layout.specs.Interface.{lent_step_with}
use Rattle.deadline_layout.specs.Steps.{answer_in, action_put_with, acted_with, survey_with}
use Rattle.deadline_layout.proofs.Surveys.{tell_sound, Found, faulty, whole, survey_found}
use Rattle.deadline_layout.proofs.Acts.{outcome_numbers, step_acted}

-- Whether a lent deadline table is sound

-- too few numbers tell none
pub short_unsound : (table : List ℕ) → length table < deadline_length → is_sound_deadline_table table ≡ false
unfolding is_sound_deadline_table is_deadline_table
short_unsound table h = rw (lt-leb deadline_length (length table) h)

-- of enough, the first tell it
pub first_sound : (table : List ℕ) → deadline_length ≤ length table → is_sound_deadline_table table ≡ tell_sound (take deadline_length table)
unfolding is_sound_deadline_table is_deadline_table
first_sound table h = rw (le-leb deadline_length (length table) h)

-- the pass over them finds a fault just where they tell none
pub found_sound : (table : List ℕ) → deadline_length ≤ length table → (acting : ℕ) {f : Survey} → f ≡ survey_with (take deadline_length table) acting
    → eqb f.faulty 0 ≡ is_sound_deadline_table table
found_sound table h acting {f} e = go (rw e (survey_found (take deadline_length table) (length-take-le deadline_length table h) acting))
  where
    go : Found (take deadline_length table) acting f → eqb f.faulty 0 ≡ is_sound_deadline_table table
    go (faulty u n) = ne_eqb f.faulty 0 n ∙ sym (first_sound table h ∙ u)
    go (whole u w) = eq-eqb f.faulty 0 w.faultless ∙ sym (first_sound table h ∙ u)

-- The step

pub step_unsound : (table : List ℕ) (act p m : ℕ) → is_sound_deadline_table table ≡ false → {r : Answer} → r ≡ answer_of 1 0 0
    → lent_gave r table ≡ lent_step_with table act p m
unfolding lent_step_with
step_unsound table act p m e f = rw (f, e)

-- an action leaves as many numbers
acted_length : (l : List ℕ) (f : Survey) (act p m : ℕ) → length (acted_with l f act p m).table ≡ length l
unfolding acted_with action_put_with
acted_length l f act p m =
    by_test (eqb (answer_in l f act p m).code 0)
    (λ e. rw e (by_test (eqb act wait_act) (λ w. rw w (simp length-set)) (λ w. rw w (simp length-set))))
    (λ e. rw e)

module _ (table : List ℕ) (fits : deadline_length ≤ length table) (act p m : ℕ) where
  abbrev first : List ℕ
  first = take deadline_length table

  abbrev o : DeadlineOutcome
  o = step_with (deadline_table_in table) act p m

  first_long : length first ≡ deadline_length
  first_long = length-take-le deadline_length table fits

  -- the first numbers give what the step in place gives of them
  module _ {j : Answer} {new : List ℕ} (e : lent_gave j new ≡ acted_with first (survey_with first p) act p m) where
    new_long : length new ≡ deadline_length
    new_long = ap (λ (g : Lent). length g.table) e ∙ acted_length first (survey_with first p) act p m ∙ first_long

    unsound_front : is_sound_deadline_table table ≡ false → lent_gave j (new ++ drop deadline_length table) ≡ lent_step_with table act p m
    unsound_front u =
        let g : lent_gave j new ≡ lent_gave (answer_of 1 0 0) first =
        e ∙ step_acted first first_long act p m ∙ rw (sym (first_sound table fits) ∙ u) in
        ap (λ (g : Lent). lent_gave g.answer (g.table ++ drop deadline_length table)) g
        ∙ lent-gave refl (take-append-drop deadline_length table) ∙ step_unsound table act p m u refl

    sound_front : is_sound_deadline_table table ≡ true → lent_gave j (new ++ drop deadline_length table) ≡ lent_step_with table act p m
    unfolding lent_step_with
    sound_front s =
        let g : lent_gave j new ≡ outcome_numbers o = e ∙ step_acted first first_long act p m ∙ rw (sym (first_sound table fits) ∙ s) in
        lent-gave (ap (λ (g : Lent). g.answer) g) (front_over deadline_length table (ap (λ (g : Lent). g.table) g) new_long) ∙ rw s

    pub step_front : lent_gave j (new ++ drop deadline_length table) ≡ lent_step_with table act p m
    step_front = by_test (is_sound_deadline_table table) sound_front unsound_front
