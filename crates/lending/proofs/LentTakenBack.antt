-- A try that is taken back, on lent numbers: a step on the numbers of a table is the step at the table, where nothing is left of the
-- two acts but the clock. Assumes nothing.
use Prim.Native.Nat.{ℕ}
use mathlib.Core.Path.{◌≡◌, sym, ap, subst, ◌∙◌}
use mathlib.Core.Logic.{◌≢◌}
use mathlib.Core.Bool.{true, false}
use mathlib.Core.List.{List, ◌++◌}
use native.Mathlib.Omega.{arith}
use lib.ListN.{length, drop, set}
use Rattle.model.specs.Types.{State}
use Rattle.model.specs.Acts.{try_act, withdraw_act}
use Rattle.model.specs.Answers.{step_of}
use Rattle.model.specs.Facts.{Accepted}
use Rattle.theory.specs.Acceptance.{ClockOnly}
use Rattle.layout.specs.Encodings.{clock_place, state_numbers, table_in, is_sound_table}
use Rattle.layout.specs.Interface.{Lent, lent_step}
use Rattle.lending.specs.Guarantees.{LentTakenBack, LentWithdrawUndoesTry}
use Rattle.model.proofs.Tests.{by_test}
use Rattle.theory.proofs.TakenBack.{withdraw_undoes_try}
use Rattle.layout.specs.Numbers.{IsWhole}
use Rattle.layout.proofs.Encodings.{sound_is_table, table_is_whole, step_whole, numbers_come_back}
use Rattle.lending.proofs.LentLists.{step_in_numbers, step_code}

-- the try and the withdraw of process p on the numbers `table`
abbrev Undone : ℕ → ℕ → List ℕ → Type 0
Undone p m table = LentTakenBack table m (lent_step (lent_step table try_act p m).table withdraw_act p m)

clock_set : {s t : State} {m : ℕ} (rest : List ℕ) → ClockOnly s m t → state_numbers t ++ rest ≡ set (state_numbers s ++ rest) clock_place m
unfolding state_numbers
clock_set rest c = rw (c.parameters_stay, c.clock_is, c.word_stays, c.entries_stay)

module _ (s : State) (whole : IsWhole s) (rest : List ℕ) (p m : ℕ) where
  undone : Accepted (step_of s try_act p m) → Undone p m (state_numbers s ++ rest)
  undone a =
      let s' = (step_of s try_act p m).state in
      let whole' = step_whole s try_act p m a whole in
      let back = withdraw_undoes_try s whole.entries p m a in
      let second =
      ap (λ (g : Lent). lent_step g.table withdraw_act p m) (step_in_numbers s whole rest try_act p m)
      ∙ step_in_numbers s' whole' rest withdraw_act p m in
      record {
        accepted = ap (λ (g : Lent). g.answer.code) second ∙ back.accepted;
        clock_only = ap (λ (g : Lent). g.table) second ∙ clock_set rest back.state;
      }

module _ (table : List ℕ) (p m : ℕ) where
  of_sound : is_sound_table table ≡ true → (lent_step table try_act p m).answer.code ≡ 0 → Undone p m table
  of_sound e =
      let told = sound_is_table table e in
      let s = table_in table in
      let whole = table_is_whole table told in
      let rest = drop (length (state_numbers s)) table in
      subst (λ (l : List ℕ). (lent_step l try_act p m).answer.code ≡ 0 → Undone p m l) (numbers_come_back table told)
      (λ a. undone s whole rest p m (sym (step_code s whole rest try_act p m) ∙ a))

  -- numbers that tell no sound table are refused
  of_unsound : is_sound_table table ≡ false → (lent_step table try_act p m).answer.code ≢ 0
  unfolding lent_step
  of_unsound e = rw e (omega arith)

pub lent_withdraw_undoes_try : LentWithdrawUndoesTry
lent_withdraw_undoes_try table p m a =
    by_test (is_sound_table table) (λ e. of_sound table p m e a) (λ e. absurd (of_unsound table p m e a))
