-- A list of calls on lent numbers is the list of calls of demand 3: each call gives back the numbers of what it gives back at the
-- table. Assumes nothing.
use Prim.Native.Nat.{ℕ, ◌+◌}
use mathlib.Core.Path.{◌≡◌, refl, sym, ap, subst, ◌∙◌}
use mathlib.Core.List.{List, [], ◌∷◌, ◌++◌, map}
use lib.ListN.{drop}
use Rattle.model.specs.declared.Parameters.{Parameters}
use Rattle.model.specs.Types.{State}
use Rattle.model.specs.declared.Recorded.{Recorded}
use Rattle.model.specs.Acts.{wait_act}
use Rattle.model.specs.States.{sound_of}
use Rattle.model.specs.Answers.{answer_of, fresh_of, step_of}
use Rattle.model.specs.Folds.{end_by, results_by}
use Rattle.model.specs.Calls.{Call, call_of, table_of, run_of, results_of}
use Rattle.model.specs.Readings.{over}
use Rattle.layout.specs.Encodings.{table_length, state_numbers, is_sound_table}
use Rattle.model.proofs.Lists.{over_seam}
use Rattle.theory.proofs.Soundness.{fresh_is}
use Rattle.lists.specs.Demand3.{Demand3}
use Rattle.lists.proofs.Calls.{unsound_call}
use Rattle.lists.proofs.Demand3.{every_list}
use Rattle.layout.specs.Numbers.{IsWhole}
use Rattle.layout.proofs.Encodings.{table-length, table_comes_back}
use Rattle.layout.proofs.Starting.{fresh_whole}
use Rattle.layout.specs.Interface.{Lent, lent_gave, lent_step, LentBoth, record_gave}
use Rattle.lending.specs.Guarantees.{LentCall, lent_call, lent_results, lent_run, call_lent, summary_after}
use Rattle.lending.specs.Guarantees.{in_numbers, all_in_numbers, LentNotStuck, LentDemand3, EveryLentList}
use Rattle.lending.proofs.Sizes.{call_whole, run_whole}
use Rattle.lending.proofs.LentSteps.{FreshGiven, fresh_given, step_call, summary_kept, CallGiven, given}

-- One call

module _ (s : State) (whole : IsWhole s) (rest : List ℕ) where
  abbrev numbers : List ℕ
  numbers = state_numbers s ++ rest

  sound_told : is_sound_table numbers ≡ sound_of s
  unfolding is_sound_table
  sound_told = rw ((table_comes_back s whole rest).0, (table_comes_back s whole rest).1)

  -- the numbers of a table as large take the place of these
  takes_place : (t : State) → IsWhole t → over (state_numbers t) numbers ≡ state_numbers t ++ rest
  takes_place t h = over_seam (state_numbers t) (state_numbers s) rest (table-length t h ∙ sym (table-length s whole))

  module _ (d : LentCall) where
    given_in_numbers : {g : LentBoth} → CallGiven numbers d.summary (call_of s (call_lent d)) g
        → g ≡ in_numbers rest d (call_of s (call_lent d))
    given_in_numbers (CallGiven.no_table e) =
        sym (ap (in_numbers rest d) (unsound_call s (call_lent d) (sym sound_told ∙ e))
        ∙ ap (record_gave (answer_of 1 0 0) numbers) (summary_kept d))
    given_in_numbers (CallGiven.taken _) =
        let r = call_of s (call_lent d) in
        ap (λ (l : List ℕ). record_gave r.outcome.answer l (summary_after d.summary r.statistics))
        (takes_place r.outcome.state (call_whole s whole (call_lent d)))

    pub call_in_numbers : lent_call numbers d ≡ in_numbers rest d (call_of s (call_lent d))
    call_in_numbers =
        given_in_numbers
        (subst (λ (t : State). CallGiven numbers d.summary (call_of t (call_lent d)) (lent_call numbers d))
        (table_comes_back s whole rest).1 (given numbers d))

  -- a step on them is the step at the table
  pub step_in_numbers : (act p m : ℕ)
      → lent_step numbers act p m ≡ lent_gave (step_of s act p m).answer (state_numbers (step_of s act p m).state ++ rest)
  unfolding lent_call call_of
  step_in_numbers act p m = ap (λ (g : LentBoth). lent_gave g.answer g.table) (call_in_numbers (step_call act p m))

  pub step_code : (act p m : ℕ) → (lent_step numbers act p m).answer.code ≡ (step_of s act p m).answer.code
  step_code act p m = ap (λ (g : Lent). g.answer.code) (step_in_numbers act p m)

  not_stuck : {t : State} {ds : List Call} {rs : List Recorded} → Demand3 t ds rs s → LentNotStuck s numbers
  not_stuck d = record {
    waits = λ h. rw (step_code wait_act 0 (s.clock + 1)) (d.waits h);
    acts = λ i due. let may = d.acts i due in (may.0, may.1, step_code may.0 i s.clock ∙ may.2);
  }

-- A list of calls

module _ (rest : List ℕ) where
  results_in_numbers : (s : State) → IsWhole s → (ds : List LentCall)
      → lent_results (state_numbers s ++ rest) ds ≡ all_in_numbers rest ds (results_of s (map call_lent ds))
  unfolding results_by all_in_numbers
  results_in_numbers s whole [] = refl
  results_in_numbers s whole (d ∷ ds) =
      ap (λ (g : LentBoth). g ∷ lent_results g.table ds) (call_in_numbers s whole rest d)
      ∙ ap (λ (gs : List LentBoth). in_numbers rest d (call_of s (call_lent d)) ∷ gs)
      (results_in_numbers (table_of s (call_lent d)) (call_whole s whole (call_lent d)) ds)

  run_in_numbers : (s : State) → IsWhole s → (ds : List LentCall)
      → lent_run (state_numbers s ++ rest) ds ≡ state_numbers (run_of s (map call_lent ds)) ++ rest
  unfolding end_by
  run_in_numbers s whole [] = refl
  run_in_numbers s whole (d ∷ ds) =
      ap (λ (g : LentBoth). lent_run g.table ds) (call_in_numbers s whole rest d)
      ∙ run_in_numbers (table_of s (call_lent d)) (call_whole s whole (call_lent d)) ds

-- From a fresh table

module _ (k : Parameters) (table : List ℕ) (ds : List LentCall) where
  abbrev From : List ℕ → Type 0
  From l = LentDemand3 (fresh_of k).state l (drop table_length table) ds

  fresh_list : {g : Lent} → FreshGiven k table g → g.answer.code ≡ 0 → From g.table
  fresh_list (FreshGiven.refused n) e = absurd (n e)
  fresh_list (FreshGiven.made _ _) e =
      let s = (fresh_of k).state in
      let rest = drop table_length table in
      let whole = fresh_whole k e in
      let last = run_of s (map call_lent ds) in
      let last_is = run_in_numbers rest s whole ds in
      let demand3 = every_list s (fresh_is k e) (map call_lent ds) in
      rw (table-length s whole)
      (record {
        results = results_of s (map call_lent ds);
        last = last;
        results_are = results_in_numbers rest s whole ds;
        last_is = last_is;
        demand3 = demand3;
        not_stuck = rw last_is (not_stuck last (run_whole s whole (map call_lent ds)) rest demand3);
      })

pub every_lent_list : EveryLentList
every_lent_list k table ds = fresh_list k table ds (fresh_given k table)
