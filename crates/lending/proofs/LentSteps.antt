-- What is given back on lent numbers, and why: a refusal of the numbers, or what is given at the table and the summary that they
-- tell. For lists of calls the definitions of the interface are taken apart here. Assumes nothing.
use Prim.Native.Nat.{ℕ, ◌≤◌, ◌<◌}
use mathlib.Core.Path.{◌≡◌, refl, subst}
use mathlib.Core.Logic.{◌≢◌}
use mathlib.Core.Bool.{Bool, true, false, cond, not}
use mathlib.Core.List.{List, []}
use native.Mathlib.Omega.{arith}
use lib.Dec.{ltb, eqb}
use lib.ListN.{length}
use borrow.Author.Tests.{ltb-true, ltb-false, eqb-true, eqb-false, lt-ltb, le-ltb, not-true, not-false}
use Rattle.model.specs.declared.Parameters.{Parameters}
use Rattle.model.specs.Types.{State}
use Rattle.model.specs.declared.Answer.{Answer}
use Rattle.model.specs.declared.Recorded.{Recorded}
use Rattle.model.specs.Answers.{answer_of, fresh_of, step_of}
use Rattle.model.specs.Facts.{Accepted}
use Rattle.model.specs.Readings.{over}
use Rattle.model.specs.Summaries.{new_statistics, statistics_sound, beside, recorded_of}
use Rattle.model.specs.Calls.{call_of}
use Rattle.layout.specs.Encodings.{table_length, state_numbers, table_in, is_sound_table, summary_length, statistics_numbers, summary_in}
use Rattle.model.proofs.Tests.{by_test, by_cond}
use Rattle.theory.proofs.RecordedSteps.{summary_refused}
use Rattle.layout.proofs.Encodings.{numbers_come_back, sound_is_table, table_is_sound, summary_numbers_come_back}
use Rattle.layout.specs.Interface.{Lent, lent_gave, outcome_lent, lent_fresh, lent_step}
use Rattle.layout.specs.Interface.{LentSummary, summary_gave, lent_summary, LentBoth, record_gave, recorded_lent, lent_record}
use Rattle.lending.specs.Guarantees.{LentCall, lent_call, no_summary, call_lent, summary_after}

-- A fresh table

module _ (k : Parameters) (table : List ℕ) where
  pub data FreshGiven : Lent → Type 0 where
    refused : {r : Answer} → r.code ≢ 0 → FreshGiven (lent_gave r table)
    made : Accepted (fresh_of k) → table_length ≤ length table → FreshGiven (outcome_lent (fresh_of k) table)

  pub fresh_given : FreshGiven (lent_fresh k table)
  unfolding lent_fresh
  fresh_given =
      by_cond FreshGiven (not (eqb (fresh_of k).answer.code 0)) (λ e. refused (eqb-false _ _ (not-true _ e)))
      (λ g. by_cond FreshGiven (ltb (length table) table_length) (λ _. refused (omega arith))
      (λ e. made (eqb-true _ _ (not-false _ g)) (ltb-false _ _ e)))

-- A new summary

module _ (summary : List ℕ) where
  pub data NewGiven : LentSummary → Type 0 where
    refused : NewGiven (summary_gave (answer_of 16 0 0) summary)
    made : summary_length ≤ length summary → NewGiven (summary_gave (answer_of 0 0 0) (over (statistics_numbers new_statistics) summary))

  pub new_given : NewGiven (lent_summary summary)
  unfolding lent_summary
  new_given = by_cond NewGiven (ltb (length summary) summary_length) (λ _. refused) (λ e. made (ltb-false _ _ e))

-- A recorded step

module _ (table summary : List ℕ) (act p m : ℕ) where
  pub data RecordGiven : LentBoth → Type 0 where
    no_table : is_sound_table table ≡ false → RecordGiven (record_gave (answer_of 1 0 0) table summary)
    no-summary : is_sound_table table ≡ true → length summary < summary_length
        → RecordGiven (record_gave (answer_of 2 0 0) table summary)
    taken : is_sound_table table ≡ true → summary_length ≤ length summary
        → RecordGiven (recorded_lent (recorded_of (table_in table) (summary_in summary) act p m) table summary)

  pub record_given : RecordGiven (lent_record table summary act p m)
  unfolding lent_record
  record_given =
      by_cond RecordGiven (not (is_sound_table table)) (λ e. no_table (not-true _ e))
      (λ g. by_cond RecordGiven (ltb (length summary) summary_length) (λ e. no-summary (not-false _ g) (ltb-true _ _ e))
      (λ e. taken (not-false _ g) (ltb-false _ _ e)))

-- A call: a step or a recorded step, as one

abbrev pub step_call : ℕ → ℕ → ℕ → LentCall
step_call act p m = record { recorded = false; action = act; process = p; time = m; summary = [] }

abbrev pub record_call : List ℕ → ℕ → ℕ → ℕ → LentCall
record_call summary act p m = record { recorded = true; action = act; process = p; time = m; summary = summary }

-- where the table is sound, the numbers of what the call of demand 3 gave back, r, stand over those that were lent
module _ (table summary : List ℕ) (r : Recorded) where
  abbrev over_lent : LentBoth
  over_lent =
      record_gave r.outcome.answer (over (state_numbers r.outcome.state) table) (summary_after summary r.statistics)

  pub data CallGiven : LentBoth → Type 0 where
    no_table : is_sound_table table ≡ false → CallGiven (record_gave (answer_of 1 0 0) table summary)
    taken : is_sound_table table ≡ true → CallGiven over_lent

  taken_as : {g : LentBoth} → is_sound_table table ≡ true → over_lent ≡ g → CallGiven g
  taken_as e f = subst CallGiven f (taken e)

-- a test between calls is one between what they give
either_given : {table summary : List ℕ} (t : Bool) {r r' : Recorded} {g g' : LentBoth} → CallGiven table summary r g
    → CallGiven table summary r' g' → CallGiven table summary (cond t r r') (cond t g g')
either_given true e f = e
either_given false e f = f

-- the summary that a list tells leaves the list, which may be too short to tell one
pub summary_kept : (d : LentCall) → summary_after d.summary (call_lent d).lent ≡ d.summary
summary_kept d =
    by_test (ltb (length d.summary) summary_length) (λ e. rw e)
    (λ e. rw e (summary_numbers_come_back d.summary (ltb-false _ _ e)))

module _ (table : List ℕ) (d : LentCall) where
  abbrev s : State
  s = table_in table

  abbrev Gives : Recorded → LentBoth → Type 0
  Gives = CallGiven table d.summary

  abbrev pub Given : LentBoth → Type 0
  Given = Gives (call_of s (call_lent d))

  abbrev step_gave : Lent → LentBoth
  step_gave g = record_gave g.answer g.table d.summary

  step_gives : Gives (beside (call_lent d).lent (step_of s d.action d.process d.time))
      (step_gave (lent_step table d.action d.process d.time))
  unfolding lent_step
  step_gives =
      let o = step_of s d.action d.process d.time in
      let r = beside (call_lent d).lent o in
      by_cond (λ (g : Lent). Gives r (step_gave g)) (not (is_sound_table table)) (λ e. CallGiven.no_table (not-true _ e))
      (λ e. taken_as table d.summary r (not-false _ e)
      (λ i. record_gave o.answer (over (state_numbers o.state) table) (summary_kept d i)))

  record_gives : {g : LentBoth} → RecordGiven table d.summary d.action d.process d.time g
      → Gives (recorded_of s (call_lent d).lent d.action d.process d.time) g
  unfolding statistics_sound
  record_gives (RecordGiven.no_table e) = CallGiven.no_table e
  record_gives (RecordGiven.no-summary e h) =
      rw (lt-ltb _ _ h, summary_refused s no_summary d.action d.process d.time (table_is_sound table e) refl)
      (taken_as table d.summary _ e (rw (lt-ltb _ _ h, numbers_come_back table (sound_is_table table e))))
  record_gives (RecordGiven.taken e h) = rw (le-ltb _ _ h) (taken_as table d.summary _ e (rw (le-ltb _ _ h)))

  pub given : Given (lent_call table d)
  unfolding lent_call call_of
  given =
      either_given d.recorded (record_gives (record_given table d.summary d.action d.process d.time)) step_gives
