-- What the step gives back on a lent list, of which the first numbers are the table. Assumes nothing.
use Rattle.std.proofs.Common.{◌≡◌, ℕ, ◌<◌, ◌≤◌, true, false, eqb, List, ◌++◌, length, take, drop, sym, refl, ap, ◌∙◌, length-set}
use Rattle.std.proofs.Common.{take-append-drop, length-take-le, eq-eqb, ne_eqb, le-leb}
use borrow.Author.Tests.{lt-leb}
use Rattle.model.specs.declared.Answer.{Answer}
use Rattle.model.specs.Types.{Outcome}
use Rattle.model.specs.Acts.{wait_act}
use Rattle.model.specs.Answers.{answer_of, step_of}
use Rattle.model.specs.Readings.{over}
use Rattle.layout.specs.Encodings.{table_length, state_numbers, is_table, table_in, is_sound_table}
use Rattle.layout.specs.Interface.{Lent, lent_gave, lent_step}
use Rattle.model.proofs.Tests.{by_test}
use Rattle.rules.specs.declared.survey.Survey.{Survey}
use Rattle.layout.specs.Steps.{answer_in, action_put, acted_in, survey_in}
use Rattle.layout.proofs.Lists.{front_over}
use Rattle.layout.proofs.Surveys.{tell_sound, Found, faulty, whole, survey_found}
use Rattle.layout.proofs.Acts.{lent-gave, outcome_numbers, step_acted}

-- Whether a lent table is sound

-- too few numbers tell none
pub short_unsound : (table : List ℕ) → length table < table_length → is_sound_table table ≡ false
unfolding is_sound_table is_table
short_unsound table h = rw (lt-leb table_length (length table) h)

-- of enough, the first tell it
pub first_sound : (table : List ℕ) → table_length ≤ length table → is_sound_table table ≡ tell_sound (take table_length table)
unfolding is_sound_table is_table
first_sound table h = rw (le-leb table_length (length table) h)

-- the pass over them finds a fault just where they tell none
pub found_sound : (table : List ℕ) → table_length ≤ length table → (acting : ℕ) {f : Survey} → f ≡ survey_in (take table_length table) acting
    → eqb f.faulty 0 ≡ is_sound_table table
found_sound table h acting {f} e = go (rw e (survey_found (take table_length table) (length-take-le table_length table h) acting))
  where
    go : Found (take table_length table) acting f → eqb f.faulty 0 ≡ is_sound_table table
    go (faulty u n) = ne_eqb f.faulty 0 n ∙ sym (first_sound table h ∙ u)
    go (whole u w) = eq-eqb f.faulty 0 w.faultless ∙ sym (first_sound table h ∙ u)

pub step_unsound : (table : List ℕ) (act p m : ℕ) → is_sound_table table ≡ false → {r : Answer} → r ≡ answer_of 1 0 0
    → lent_gave r table ≡ lent_step table act p m
unfolding lent_step
step_unsound table act p m e f = rw (f, e)

-- an act leaves as many numbers
acted_length : (l : List ℕ) (f : Survey) (act p m : ℕ) → length (acted_in l f act p m).table ≡ length l
unfolding acted_in action_put
acted_length l f act p m =
    by_test (eqb (answer_in l f act p m).code 0)
    (λ e. rw e (by_test (eqb act wait_act) (λ w. rw w (simp length-set)) (λ w. rw w (simp length-set))))
    (λ e. rw e)

module _ (table : List ℕ) (fits : table_length ≤ length table) (act p m : ℕ) where
  abbrev first : List ℕ
  first = take table_length table

  abbrev o : Outcome
  o = step_of (table_in table) act p m

  first_long : length first ≡ table_length
  first_long = length-take-le table_length table fits

  -- the first numbers give what the step in place gives of them
  module _ {j : Answer} {new : List ℕ} (e : lent_gave j new ≡ acted_in first (survey_in first p) act p m) where
    pub new_long : length new ≡ table_length
    new_long = ap (λ (g : Lent). length g.table) e ∙ acted_length first (survey_in first p) act p m ∙ first_long

    unsound_front : is_sound_table table ≡ false → lent_gave j (new ++ drop table_length table) ≡ lent_step table act p m
    unsound_front u =
        let g : lent_gave j new ≡ lent_gave (answer_of 1 0 0) first =
        e ∙ step_acted first first_long act p m ∙ rw (sym (first_sound table fits) ∙ u) in
        ap (λ (g : Lent). lent_gave g.answer (g.table ++ drop table_length table)) g
        ∙ lent-gave refl (take-append-drop table_length table) ∙ step_unsound table act p m u refl

    module _ (sound : is_sound_table table ≡ true) where
      is_step : lent_gave j new ≡ outcome_numbers o
      is_step = e ∙ step_acted first first_long act p m ∙ rw (sym (first_sound table fits) ∙ sound)

      pub new_numbers : new ≡ state_numbers o.state
      new_numbers = ap (λ (g : Lent). g.table) is_step

      pub answer_front : j ≡ o.answer
      answer_front = ap (λ (g : Lent). g.answer) is_step

      pub table_front : new ++ drop table_length table ≡ over (state_numbers o.state) table
      table_front = front_over table_length table new_numbers new_long

    pub step_front : lent_gave j (new ++ drop table_length table) ≡ lent_step table act p m
    unfolding lent_step
    step_front = by_test (is_sound_table table) (λ s. lent-gave (answer_front s) (table_front s) ∙ rw s) unsound_front
