-- Section 9 of the specification, from a second side: a refusal leaves the lent numbers, a call that is lent only an output succeeds where
-- it has room, an act writes its own places only, a list of calls on lent numbers is the list of calls of demand 3, after which nobody is
-- stuck, and one summary lent to all tells their tally. Assumes nothing.
use Rattle.std.specs.Prelude.{ℕ, ◌+◌, ◌*◌, ◌-◌, ◌≤◌, ◌<◌, ◌≡◌, ◌≢◌, ◌↔◌, Bool, cond, List, [], ◌∷◌, ◌++◌, map, length, get_or, drop, set, ltb}
use Rattle.model.specs.declared.Parameters.{Parameters}
use Rattle.model.specs.Types.{State}
use Rattle.model.specs.declared.Statistics.{Statistics}
use Rattle.model.specs.declared.Recorded.{Recorded}
use Rattle.model.specs.Acts.{wait_act, try_act, withdraw_act}
use Rattle.model.specs.States.{last_time}
use Rattle.model.specs.Answers.{answer_of, fresh_of}
use Rattle.model.specs.Facts.{IsCritical, IsTrying, LeadsOn, HasDeadline}
use Rattle.model.specs.Readings.{over}
use Rattle.model.specs.Summaries.{counts_of, statistics_of, most_acts}
use Rattle.layout.specs.Encodings.{header_length, stride, table_length, clock_place, word_place, state_numbers, table_in}
use Rattle.layout.specs.Encodings.{counts_length, waited_place, summary_length, statistics_numbers, summary_in}
use Rattle.model.specs.Folds.{end_by, results_by, itself}
use Rattle.model.specs.Calls.{Call}
use Rattle.model.specs.Texts.{Event}
use Rattle.model.specs.Tallies.{log_of}
use Rattle.theory.specs.Soundness.{ParametersStand}
use Rattle.lists.specs.Demand3.{Demand3}
use Rattle.tallies.specs.Tallies.{record_all, records_of, Tallied, start_of}
use Rattle.layout.specs.Interface.{Lent, LentBoth, record_gave, lent_fresh, lent_step, lent_summary, lent_record}

-- Refusals

-- [9.120]
abbrev pub RefusedFreshStays : Type 0
RefusedFreshStays = (k : Parameters) (table : List ℕ)
    → (lent_fresh k table).answer.code ≢ 0 → (lent_fresh k table).table ≡ table

-- [9.120]
abbrev pub RefusedStepStays : Type 0
RefusedStepStays = (table : List ℕ) (act p m : ℕ)
    → (lent_step table act p m).answer.code ≢ 0 → (lent_step table act p m).table ≡ table

-- [9.120]
abbrev pub RefusedSummaryStays : Type 0
RefusedSummaryStays = (summary : List ℕ) → (lent_summary summary).answer.code ≢ 0 → (lent_summary summary).summary ≡ summary

-- [9.120] the table, whatever becomes of the summary
abbrev pub RefusedRecordStays : Type 0
RefusedRecordStays = (table summary : List ℕ) (act p m : ℕ)
    → (lent_record table summary act p m).answer.code ≢ 0 → (lent_record table summary act p m).table ≡ table

-- [9.120] 1, 2 and 3 leave the summary too
abbrev pub SummaryStays : Type 0
SummaryStays = (table summary : List ℕ) (act p m : ℕ)
    → (lent_record table summary act p m).answer.code ≢ 0 → (lent_record table summary act p m).answer.code ≤ 3
    → (lent_record table summary act p m).summary ≡ summary

-- [9.120] 4 to 10 raise the number that stands after that of accepted acts
abbrev pub RefusedIsCounted : Type 0
RefusedIsCounted = (table summary : List ℕ) (act p m : ℕ)
    → 4 ≤ (lent_record table summary act p m).answer.code
    → (lent_record table summary act p m).summary ≡ set summary 1 (get_or summary 1 0 + 1)

-- Successes

-- [4.70] [9.50] [9.70] when the two calls that are lent only an output succeed, and what they then answer; what they write is `FreshIsPlain`
-- in numbers, and zeros
pub record LentSuccesses : Type 0 where
  pub fresh_iff : (k : Parameters) (table : List ℕ)
      → ((lent_fresh k table).answer.code ≡ 0) ↔ (ParametersStand k × (table_length ≤ length table))
  pub new_summary_iff : (summary : List ℕ) → ((lent_summary summary).answer.code ≡ 0) ↔ (summary_length ≤ length summary)
  pub fresh : (k : Parameters) (table : List ℕ) → (lent_fresh k table).answer.code ≡ 0 → (lent_fresh k table).answer ≡ answer_of 0 0 0
  pub new-summary : (summary : List ℕ) → (lent_summary summary).answer.code ≡ 0 → (lent_summary summary).answer ≡ answer_of 0 0 0

-- An act writes the clock, the word and the entry of its process; and of a summary the counts, the wait so far of its process and, where nobody
-- is critical before it, those of the processes that are trying

-- [9.130] place k of a table is another than these, for an act of process p
pub record Elsewhere (p k : ℕ) : Type 0 where
  pub not_clock : k ≢ clock_place
  pub not_word : k ≢ word_place
  pub not_stage : 1 ≤ p → k ≢ header_length + stride * (p - 1)
  pub not_since : 1 ≤ p → k ≢ header_length + stride * (p - 1) + 1

-- [9.130]
abbrev pub StepWritesItsOwn : Type 0
StepWritesItsOwn = (table : List ℕ) (act p m k : ℕ) → Elsewhere p k
    → get_or (lent_step table act p m).table k 0 ≡ get_or table k 0

-- [9.130]
abbrev pub RecordWritesItsOwn : Type 0
RecordWritesItsOwn = (table summary : List ℕ) (act p m k : ℕ) → Elsewhere p k
    → get_or (lent_record table summary act p m).table k 0 ≡ get_or table k 0

-- [9.130] place k of a summary is another than these, for an act of process p in the state s
pub record WaitElsewhere (s : State) (p k : ℕ) : Type 0 where
  pub not_count : counts_length ≤ k
  pub not_own : 1 ≤ p → k ≢ waited_place (p - 1)
  -- its process is not trying, unless somebody is critical
  pub not_trying : IsTrying s (k - counts_length + 1) → (i : ℕ) × IsCritical s i

-- [9.130]
abbrev pub SummaryWritesItsOwn : Type 0
SummaryWritesItsOwn = (table summary : List ℕ) (act p m k : ℕ) → WaitElsewhere (table_in table) p k
    → get_or (lent_record table summary act p m).summary k 0 ≡ get_or summary k 0

-- [9.130] of every function that is lent a table or a summary
pub record LengthsStay : Type 0 where
  pub fresh : (k : Parameters) (table : List ℕ) → length (lent_fresh k table).table ≡ length table
  pub step : (table : List ℕ) (act p m : ℕ) → length (lent_step table act p m).table ≡ length table
  pub new-summary : (summary : List ℕ) → length (lent_summary summary).summary ≡ length summary
  pub record_table : (table summary : List ℕ) (act p m : ℕ) → length (lent_record table summary act p m).table ≡ length table
  pub record_summary : (table summary : List ℕ) (act p m : ℕ) → length (lent_record table summary act p m).summary ≡ length summary

-- [9.135] a withdraw that gave back g takes back the try, at the time m, that was made on the numbers `table`
pub record LentTakenBack (table : List ℕ) (m : ℕ) (g : Lent) : Type 0 where
  pub accepted : g.answer.code ≡ 0
  pub clock_only : g.table ≡ set table clock_place m

-- [9.135] of process p, directly after the try
abbrev pub LentWithdrawUndoesTry : Type 0
LentWithdrawUndoesTry = (table : List ℕ) (p m : ℕ) → (lent_step table try_act p m).answer.code ≡ 0
    → LentTakenBack table m (lent_step (lent_step table try_act p m).table withdraw_act p m)

-- Lists of calls, each on the numbers that the call before it left

-- [9.140] a step or a recorded step; the list that stands for a summary may be any, and a step leaves it alone
pub record LentCall : Type 0 where
  pub recorded : Bool
  pub action : ℕ
  pub process : ℕ
  pub time : ℕ
  pub summary : List ℕ

-- helper: what such a call gives back
unfoldable pub lent_call : List ℕ → LentCall → LentBoth
lent_call table d =
    cond d.recorded (lent_record table d.summary d.action d.process d.time)
    (record_gave (lent_step table d.action d.process d.time).answer (lent_step table d.action d.process d.time).table d.summary)

-- helper: the numbers that a call hands on to the next
abbrev pub table_after : LentBoth → List ℕ
table_after r = r.table

-- [9.140] what each of them gives back
abbrev pub lent_results : List ℕ → List LentCall → List LentBoth
lent_results table ds = results_by lent_call table_after table ds

-- [9.140] the numbers that the last one leaves
abbrev pub lent_run : List ℕ → List LentCall → List ℕ
lent_run table ds = end_by lent_call table_after table ds

-- [9.35] a list that is too short is a summary that is not sound
abbrev pub no_summary : Statistics
no_summary = statistics_of (counts_of (most_acts + 1) 0 0 0 0) []

-- helper: the call of demand 3 that it is
abbrev pub call_lent : LentCall → Call
call_lent d = record {
  recorded = d.recorded;
  action = d.action;
  process = d.process;
  time = d.time;
  lent = cond (ltb (length d.summary) summary_length) no_summary (summary_in d.summary);
}

-- helper: the summary x in numbers; a list that is too short stays
abbrev pub summary_after : List ℕ → Statistics → List ℕ
summary_after summary x = cond (ltb (length summary) summary_length) summary (over (statistics_numbers x) summary)

-- helper: what such a call gave back, as numbers before `rest`
abbrev pub in_numbers : List ℕ → LentCall → Recorded → LentBoth
in_numbers rest d r =
    record_gave r.outcome.answer (state_numbers r.outcome.state ++ rest) (summary_after d.summary r.statistics)

-- helper: of each call
unfoldable pub all_in_numbers : List ℕ → List LentCall → List Recorded → List LentBoth
all_in_numbers rest [] rs = []
all_in_numbers rest (d ∷ ds) [] = []
all_in_numbers rest (d ∷ ds) (r ∷ rs) = in_numbers rest d r ∷ all_in_numbers rest ds rs

-- [9.140] [8.110] [8.120] nobody is stuck: of the exported step on the numbers `table`, where they tell the table s
pub record LentNotStuck (s : State) (table : List ℕ) : Type 0 where
  -- [8.110]
  pub waits : s.clock < last_time
      → ((lent_step table wait_act 0 (s.clock + 1)).answer.code ≡ 0) ↔ ((i : ℕ) → HasDeadline s i s.clock → ⊥)
  -- [8.120]
  pub acts : (i : ℕ) → HasDeadline s i s.clock
      → (act : ℕ) × LeadsOn act × ((lent_step table act i s.clock).answer.code ≡ 0)

-- [9.140] from the table s, in numbers before `rest`, the calls gave back the numbers of results that meet demand 3
pub record LentDemand3 (s : State) (table rest : List ℕ) (ds : List LentCall) : Type 0 where
  pub results : List Recorded
  pub last : State
  pub results_are : lent_results table ds ≡ all_in_numbers rest ds results
  pub last_is : lent_run table ds ≡ state_numbers last ++ rest
  pub demand3 : Demand3 s (map call_lent ds) results last
  pub not_stuck : LentNotStuck last (lent_run table ds)

-- [9.140]
abbrev pub EveryLentList : Type 0
EveryLentList = (k : Parameters) (table : List ℕ) (ds : List LentCall)
    → (lent_fresh k table).answer.code ≡ 0
    → LentDemand3 (fresh_of k).state (lent_fresh k table).table (drop table_length table) ds

-- Recorded steps, each on the table and the summary that the one before it left

-- helper: one step, after the one that gave back r
abbrev pub lent_next : LentBoth → Event → LentBoth
lent_next r e = lent_record r.table r.summary e.action e.process e.time

-- helper: the last one
abbrev pub lent_all : LentBoth → List Event → LentBoth
lent_all r es = end_by lent_next itself r es

-- helper: each one
abbrev pub lent_records : LentBoth → List Event → List LentBoth
lent_records r es = results_by lent_next itself r es

-- [9.150] a fresh table and a new summary
abbrev pub lent_start : Parameters → List ℕ → List ℕ → LentBoth
lent_start k table summary =
    record_gave (lent_fresh k table).answer (lent_fresh k table).table (lent_summary summary).summary

-- helper: what a recorded step gave back, as numbers before `rest` and before `spare`
abbrev pub both_in_numbers : List ℕ → List ℕ → Recorded → LentBoth
both_in_numbers rest spare r =
    record_gave r.outcome.answer (state_numbers r.outcome.state ++ rest) (statistics_numbers r.statistics ++ spare)

-- helper: the code of the answer that a call on lent numbers gave back
abbrev pub lent_code : LentBoth → ℕ
lent_code r = r.answer.code

-- [9.150] the steps gave back the numbers of recorded steps, and what the last one left is tallied
pub record LentTally (k : Parameters) (table summary : List ℕ) (es : List Event) : Type 0 where
  pub results_are :
      lent_records (lent_start k table summary) es
      ≡ map (both_in_numbers (drop table_length table) (drop summary_length summary)) (records_of (start_of (fresh_of k).state) es)
  pub last_is :
      lent_all (lent_start k table summary) es
      ≡ both_in_numbers (drop table_length table) (drop summary_length summary) (record_all (start_of (fresh_of k).state) es)
  pub tallied :
      Tallied (log_of es (map lent_code (lent_records (lent_start k table summary) es))) (record_all (start_of (fresh_of k).state) es)

-- [9.150]
abbrev pub EveryLentTally : Type 0
EveryLentTally = (k : Parameters) (table summary : List ℕ) (es : List Event)
    → (lent_fresh k table).answer.code ≡ 0 → (lent_summary summary).answer.code ≡ 0
    → LentTally k table summary es
