-- Section 9 of the specification, of the code's own calls: of every chain of calls on lent numbers demand 3 holds, and of every chain of
-- recorded steps the tally, where a result for each call is one that the contract of the exported function allows. Assumes nothing.
use Rattle.std.specs.Prelude.{ℕ, ◌+◌, ◌≤◌, ◌<◌, ◌≡◌, ◌↔◌, true, false, List, ◌++◌, map, length, drop}
use Rattle.model.specs.declared.Parameters.{Parameters}
use Rattle.model.specs.Types.{State}
use Rattle.model.specs.declared.Recorded.{Recorded}
use Rattle.model.specs.Acts.{wait_act, try_act, withdraw_act}
use Rattle.model.specs.States.{last_time}
use Rattle.model.specs.Answers.{fresh_of}
use Rattle.model.specs.Facts.{LeadsOn, HasDeadline}
use Rattle.model.specs.Folds.{Chained, last_of, itself}
use Rattle.model.specs.Texts.{Event}
use Rattle.model.specs.Tallies.{log_of}
use Rattle.theory.specs.Soundness.{ParametersStand}
use Rattle.lists.specs.Demand3.{Demand3}
use Rattle.tallies.specs.Tallies.{record_all, records_of, Tallied, start_of}
use Rattle.layout.specs.Encodings.{table_length, state_numbers, summary_length}
use Rattle.layout.specs.Interface.{Lent, lent_gave, LentSummary, LentBoth, record_gave}
use Rattle.lending.specs.Guarantees.{LentTakenBack, LentCall, table_after, call_lent, all_in_numbers, both_in_numbers, lent_code}
use Rattle.recent.specs.Tellings.{LentTold}
use Rattle.exported.specs.Lending.{Starts, StartsSummary, StepsTo, RecordsTo, TellsTo}

-- Chains

-- [9.152] a result of one call on the numbers l; a step is not lent the list that stands for a summary, which stays; and a recorded step may
-- tell a board, whatever numbers that has
pub data MadeOnTable (l : List ℕ) (d : LentCall) (r : LentBoth) : Type 0 where
  by_step : d.recorded ≡ false → StepsTo l d.action d.process d.time (lent_gave r.answer r.table)
      → r.summary ≡ d.summary → MadeOnTable l d r
  by_record : d.recorded ≡ true → RecordsTo l d.summary d.action d.process d.time r → MadeOnTable l d r
  by_tell : d.recorded ≡ true → (board : List ℕ) (t : LentTold) → TellsTo l d.summary board d.action d.process d.time t
      → r ≡ record_gave t.answer t.table t.summary → MadeOnTable l d r

-- [9.152] each on the numbers that the one before it left
abbrev pub TableChain : List ℕ → List LentCall → List LentBoth → Type 0
TableChain l ds rs = Chained MadeOnTable table_after l ds rs

-- Demand 3

-- [8.110] [8.120] [9.152] nobody is stuck: on the numbers l, where they tell the table s, of every result that the contract of
-- `funnelfawn_step` allows
pub record NotStuckOn (s : State) (l : List ℕ) : Type 0 where
  -- [8.110]
  pub waits : s.clock < last_time → (g : Lent) → StepsTo l wait_act 0 (s.clock + 1) g
      → (g.answer.code ≡ 0) ↔ ((i : ℕ) → HasDeadline s i s.clock → ⊥)
  -- [8.120]
  pub acts : (i : ℕ) → HasDeadline s i s.clock
      → (act : ℕ) × LeadsOn act × ((g : Lent) → StepsTo l act i s.clock g → g.answer.code ≡ 0)

-- [9.152] the calls ds gave back rs and left l, which are the numbers, before `rest`, of results that meet demand 3: the plain table beside
-- them is fresh with the parameters k
pub record TableChainHolds (k : Parameters) (rest : List ℕ) (ds : List LentCall) (rs : List LentBoth) (l : List ℕ) : Type 0 where
  pub results : List Recorded
  pub last : State
  pub results_are : rs ≡ all_in_numbers rest ds results
  pub last_is : l ≡ state_numbers last ++ rest
  pub demand3 : Demand3 (fresh_of k).state (map call_lent ds) results last
  pub not_stuck : NotStuckOn last l

-- [9.152] whoever makes the calls, from a list in which `funnelfawn_fresh` put a table for k with the answer 0
abbrev pub EveryTableChain : Type 0
EveryTableChain = (k : Parameters) (table : List ℕ) (f : Lent) (ds : List LentCall) (rs : List LentBoth)
    → Starts k table f → f.answer.code ≡ 0 → TableChain f.table ds rs
    → TableChainHolds k (drop table_length table) ds rs (last_of table_after f.table rs)

-- [9.135] [9.152] whoever makes the two calls, on any numbers: a try that is accepted, and directly after it the withdraw
abbrev pub EveryTakenBack : Type 0
EveryTakenBack = (table : List ℕ) (p m : ℕ) (f g : Lent)
    → StepsTo table try_act p m f → f.answer.code ≡ 0 → StepsTo f.table withdraw_act p m g → LentTakenBack table m g

-- The tally

-- [9.154] a result q of a recorded step, told or not, on the table and the summary that the result r before it left
pub data MadeOnBoth (r : LentBoth) (e : Event) (q : LentBoth) : Type 0 where
  by_record : RecordsTo r.table r.summary e.action e.process e.time q → MadeOnBoth r e q
  by_tell : (board : List ℕ) (t : LentTold) → TellsTo r.table r.summary board e.action e.process e.time t
      → q ≡ record_gave t.answer t.table t.summary → MadeOnBoth r e q

-- [9.154] each on the table and the summary that the one before it left
abbrev pub RecordedTableChain : LentBoth → List Event → List LentBoth → Type 0
RecordedTableChain r es rs = Chained MadeOnBoth itself r es rs

-- [9.154] a table and a summary to start with
abbrev pub starts_both : Lent → LentSummary → LentBoth
starts_both f x = record_gave f.answer f.table x.summary

-- [9.154] the acts es gave back rs and left r, which are the numbers, before `rest` and before `spare`, of recorded steps from a fresh table and
-- with a new summary; and the table and the summary whose numbers are left are tallied, beside the log of the acts and of the codes in rs
pub record TableTallyHolds (k : Parameters) (rest spare : List ℕ) (es : List Event) (rs : List LentBoth) (r : LentBoth) : Type 0 where
  pub results_are : rs ≡ map (both_in_numbers rest spare) (records_of (start_of (fresh_of k).state) es)
  pub last : Recorded
  pub last_is : r ≡ both_in_numbers rest spare last
  pub last_plain : last ≡ record_all (start_of (fresh_of k).state) es
  pub tallied : Tallied (log_of es (map lent_code rs)) last

-- [9.154] whoever makes the calls, from lists in which `funnelfawn_fresh` and `funnelfawn_new_summary` put a table for k and a summary with
-- the answer 0
abbrev pub EveryRecordedTableChain : Type 0
EveryRecordedTableChain = (k : Parameters) (table summary : List ℕ) (f : Lent) (x : LentSummary) (es : List Event) (rs : List LentBoth)
    → Starts k table f → StartsSummary summary x → f.answer.code ≡ 0 → x.answer.code ≡ 0
    → RecordedTableChain (starts_both f x) es rs
    → TableTallyHolds k (drop table_length table) (drop summary_length summary) es rs (last_of itself (starts_both f x) rs)

-- The premises are not empty ones

-- [9.156] `funnelfawn_fresh` may answer 0 for whatever parameters stand, in whatever list is long enough
abbrev pub SomeTableStart : Type 0
SomeTableStart = (k : Parameters) (table : List ℕ) → ParametersStand k → table_length ≤ length table
    → (f : Lent) × Starts k table f × (f.answer.code ≡ 0)

-- [9.156] and `funnelfawn_new_summary` in whatever list is long enough
abbrev pub SomeSummaryStart : Type 0
SomeSummaryStart = (summary : List ℕ) → summary_length ≤ length summary
    → (x : LentSummary) × StartsSummary summary x × (x.answer.code ≡ 0)

-- [9.156] every list of calls has a chain, whatever numbers it starts from
abbrev pub SomeTableChain : Type 0
SomeTableChain = (l : List ℕ) (ds : List LentCall) → (rs : List LentBoth) × TableChain l ds rs

-- [9.156] and every list of acts one of recorded steps
abbrev pub SomeRecordedTableChain : Type 0
SomeRecordedTableChain = (r : LentBoth) (es : List Event) → (rs : List LentBoth) × RecordedTableChain r es rs
