-- A refusal leaves the lent numbers: a refused call gives back the table that they tell, and that has these numbers. A refused act
-- that is counted raises one of them. And what the calls that are lent only an output answer otherwise. Assumes nothing.
use Prim.Native.Nat.{ℕ, ◌+◌, ◌≤◌}
use mathlib.Core.Path.{◌≡◌, refl, ◌∙◌}
use mathlib.Core.Logic.{◌≢◌}
use mathlib.Core.List.{List}
use native.Mathlib.Omega.{arith}
use lib.ListN.{length, get_or, set}
use lib.Seq.{get_or-take}
use borrow.Author.Tests.{eq-eqb, le-ltb}
use Rattle.model.specs.declared.Parameters.{Parameters}
use Rattle.model.specs.Types.{State}
use Rattle.model.specs.Types.{Outcome}
use Rattle.model.specs.Answers.{answer_of, fresh_of}
use Rattle.model.specs.Readings.{over}
use Rattle.model.specs.Summaries.{refused_counted}
use Rattle.model.specs.Calls.{Call}
use Rattle.theory.specs.Soundness.{ParametersStand}
use Rattle.layout.specs.Encodings.{table_length, table_in, refused_place, summary_length, statistics_numbers, statistics_in, summary_in}
use Rattle.model.proofs.Lists.{over_set}
use Rattle.layout.proofs.Numbers.{length_summary}
use Rattle.layout.proofs.Storing.{refused_stored}
use Rattle.lists.proofs.Calls.{Called, called}
use Rattle.theory.proofs.Soundness.{fresh_is_plain}
use Rattle.theory.proofs.RecordedSteps.{judged, refused-counted}
use Rattle.theory.proofs.Summaries.{recorded_is_plain}
use Rattle.layout.proofs.Encodings.{sound_is_table, numbers_come_back, summary_numbers_come_back}
use Rattle.layout.specs.Interface.{Lent, lent_fresh, LentSummary, lent_summary, LentBoth}
use Rattle.lending.specs.Guarantees.{RefusedFreshStays, RefusedStepStays, RefusedSummaryStays, RefusedRecordStays}
use Rattle.lending.specs.Guarantees.{SummaryStays, RefusedIsCounted, LentSuccesses, LentCall, lent_call, call_lent}
use Rattle.lending.proofs.LentSteps.{FreshGiven, fresh_given, NewGiven, new_given, RecordGiven, record_given}
use Rattle.lending.proofs.LentSteps.{step_call, record_call, CallGiven, Given, given}

-- A fresh table and a new summary

fresh_stays : {k : Parameters} {table : List ℕ} {r : Lent} → FreshGiven k table r → r.answer.code ≢ 0 → r.table ≡ table
fresh_stays (FreshGiven.refused _) n = refl
fresh_stays (FreshGiven.made e _) n = absurd (n e)

new_stays : {summary : List ℕ} {r : LentSummary} → NewGiven summary r → r.answer.code ≢ 0 → r.summary ≡ summary
new_stays NewGiven.refused n = refl
new_stays (NewGiven.made _) n = absurd (n refl)

fresh_answers : {k : Parameters} {table : List ℕ} {r : Lent} → FreshGiven k table r → r.answer.code ≡ 0 → r.answer ≡ answer_of 0 0 0
fresh_answers (FreshGiven.refused n) e = absurd (n e)
fresh_answers {k} (FreshGiven.made accepted _) e = (fresh_is_plain k).answer accepted

new_answers : {summary : List ℕ} {r : LentSummary} → NewGiven summary r → r.answer.code ≡ 0 → r.answer ≡ answer_of 0 0 0
new_answers NewGiven.refused e = absurd (omega arith)
new_answers (NewGiven.made _) e = refl

pub refused_fresh_stays : RefusedFreshStays
refused_fresh_stays k table = fresh_stays (fresh_given k table)

pub refused_summary_stays : RefusedSummaryStays
refused_summary_stays summary = new_stays (new_given summary)

-- where they succeed

fresh_was : {k : Parameters} {table : List ℕ} {r : Lent} → FreshGiven k table r → r.answer.code ≡ 0
    → ParametersStand k × (table_length ≤ length table)
fresh_was (FreshGiven.refused n) e = absurd (n e)
fresh_was {k} (FreshGiven.made accepted fits) e = ((fresh_is_plain k).accepted.0 accepted, fits)

fresh_succeeds : (k : Parameters) (table : List ℕ) → ParametersStand k → table_length ≤ length table → (lent_fresh k table).answer.code ≡ 0
unfolding lent_fresh
fresh_succeeds k table stand fits =
    let accepted = (fresh_is_plain k).accepted.1 stand in
    rw (eq-eqb (fresh_of k).answer.code 0 accepted, le-ltb (length table) table_length fits) accepted

new_was : {summary : List ℕ} {r : LentSummary} → NewGiven summary r → r.answer.code ≡ 0 → summary_length ≤ length summary
new_was NewGiven.refused e = absurd (omega arith)
new_was (NewGiven.made fits) e = fits

new_succeeds : (summary : List ℕ) → summary_length ≤ length summary → (lent_summary summary).answer.code ≡ 0
unfolding lent_summary
new_succeeds summary fits = rw (le-ltb (length summary) summary_length fits)

pub lent_successes : LentSuccesses
lent_successes = record {
  fresh_iff = λ k table. (fresh_was (fresh_given k table), λ h. fresh_succeeds k table h.0 h.1);
  new_summary_iff = λ summary. (new_was (new_given summary), new_succeeds summary);
  fresh = λ k table. fresh_answers (fresh_given k table);
  new-summary = λ summary. new_answers (new_given summary);
}

-- The table of a step and of a recorded step

same_table : {s : State} {d : Call} {o : Outcome} → Called s d o → o.answer.code ≢ 0 → o.state ≡ s
same_table (Called.accepted e) n = absurd (n e)
same_table (Called.refused _ e) n = e

module _ (table : List ℕ) (d : LentCall) where
  given_stays : {g : LentBoth} → Given table d g → g.answer.code ≢ 0 → g.table ≡ table
  given_stays (CallGiven.no_table _) n = refl
  given_stays (CallGiven.taken e) n =
      rw (same_table (called (table_in table) (call_lent d)) n) (numbers_come_back table (sound_is_table table e))

  call_stays : (lent_call table d).answer.code ≢ 0 → (lent_call table d).table ≡ table
  call_stays = given_stays (given table d)

pub refused_step_stays : RefusedStepStays
unfolding lent_call
refused_step_stays table act p m = call_stays table (step_call act p m)

pub refused_record_stays : RefusedRecordStays
unfolding lent_call
refused_record_stays table summary act p m = call_stays table (record_call summary act p m)

-- The summary of a recorded step

-- to count a refused act in the summary that a list tells is to raise one of its numbers
one_more : (l : List ℕ) → summary_length ≤ length l
    → over (statistics_numbers (refused_counted (summary_in l))) l ≡ set l refused_place (get_or l refused_place 0 + 1)
unfolding statistics_in
one_more l fits =
    let x = summary_in l in
    rw (refused_stored x)
    (over_set (statistics_numbers x) l refused_place (x.counts.refused + 1) (omega (arith, length_summary x))
    ∙ (λ i. set (summary_numbers_come_back l fits i) refused_place (get_or-take summary_length l refused_place 0 (omega arith) i + 1)))

module _ {table summary : List ℕ} {act p m : ℕ} where
  leaves_summary : {r : LentBoth} → RecordGiven table summary act p m r
      → r.answer.code ≢ 0 → r.answer.code ≤ 3 → r.summary ≡ summary
  leaves_summary (RecordGiven.no_table _) n h = refl
  leaves_summary (RecordGiven.no-summary _ _) n h = refl
  leaves_summary (RecordGiven.taken _ fits) n h =
      rw ((recorded_is_plain (table_in table) (summary_in summary) act p m).unchanged (omega arith) h).2
      (summary_numbers_come_back summary fits)

  counts_refused : {r : LentBoth} → RecordGiven table summary act p m r
      → 4 ≤ r.answer.code → r.summary ≡ set summary refused_place (get_or summary refused_place 0 + 1)
  counts_refused (RecordGiven.no_table _) h = absurd (omega arith)
  counts_refused (RecordGiven.no-summary _ _) h = absurd (omega arith)
  counts_refused (RecordGiven.taken _ fits) h =
      let s = table_in table in
      let x = summary_in summary in
      rw (refused-counted s x act p m (judged s x act p m) h) (one_more summary fits)

pub summary_stays : SummaryStays
summary_stays table summary act p m = leaves_summary (record_given table summary act p m)

pub refused_is_counted : RefusedIsCounted
refused_is_counted table summary act p m = counts_refused (record_given table summary act p m)
