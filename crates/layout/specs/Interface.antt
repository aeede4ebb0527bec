-- Section 9 of the specification: what the exported functions that are lent a table or a summary give back, the lent numbers included.
-- The others are lent texts and lists of steps, and give back what `read_to_of` of `trace`, and `write_of` and `report_of` of the model say. Assumes
-- nothing.
use Rattle.std.specs.Prelude.{ℕ, cond, not, List, length, ◌==◌, nat_lt}
use Rattle.model.specs.declared.Parameters.{Parameters}
use Rattle.model.specs.declared.Answer.{Answer}
use Rattle.model.specs.Types.{Outcome}
use Rattle.model.specs.declared.Recorded.{Recorded}
use Rattle.model.specs.Answers.{answer_of, fresh_of, step_of}
use Rattle.model.specs.Readings.{over}
use Rattle.model.specs.Summaries.{new_statistics, wait_of, recorded_of}
use Rattle.layout.specs.Encodings.{table_length, state_numbers, table_in, is_sound_table, summary_length, statistics_numbers, summary_in}

-- A lent table: the answer, and its numbers

-- helper: both as one
pub record Lent : Type 0 where
  pub answer : Answer
  pub table : List ℕ

-- helper: from its parts
abbrev pub lent_gave : Answer → List ℕ → Lent
lent_gave r table = record { answer = r; table = table }

-- helper: the table of an outcome stands where one was lent, and what stood after it stays
abbrev pub outcome_lent : Outcome → List ℕ → Lent
outcome_lent o table = lent_gave o.answer (over (state_numbers o.state) table)

-- [9.50] [4.16] `funnelfawn_fresh`: 11, 12, and then 16, as the table is only an output
unfoldable pub lent_fresh : Parameters → List ℕ → Lent
lent_fresh k table =
    cond (not ((fresh_of k).answer.code == 0)) (lent_gave (fresh_of k).answer table)
    (cond (nat_lt (length table) table_length) (lent_gave (answer_of 16 0 0) table)
    (outcome_lent (fresh_of k) table))

-- [9.20] [9.60] `funnelfawn_step`: 1 where the numbers are those of no sound table, or too few
unfoldable pub lent_step : List ℕ → ℕ → ℕ → ℕ → Lent
lent_step table act p m =
    cond (not (is_sound_table table)) (lent_gave (answer_of 1 0 0) table)
    (outcome_lent (step_of (table_in table) act p m) table)

-- A lent summary: the answer, and its numbers

-- helper: both as one
pub record LentSummary : Type 0 where
  pub answer : Answer
  pub summary : List ℕ

-- helper: from its parts
abbrev pub summary_gave : Answer → List ℕ → LentSummary
summary_gave r summary = record { answer = r; summary = summary }

-- [9.70] [4.16] `funnelfawn_new_summary`: 16 where the numbers are too few
unfoldable pub lent_summary : List ℕ → LentSummary
lent_summary summary =
    cond (nat_lt (length summary) summary_length) (summary_gave (answer_of 16 0 0) summary)
    (summary_gave (answer_of 0 0 0) (over (statistics_numbers new_statistics) summary))

-- Both

-- helper: the answer, and the numbers of table and summary
pub record LentBoth : Type 0 where
  pub answer : Answer
  pub table : List ℕ
  pub summary : List ℕ

-- helper: from its parts
abbrev pub record_gave : Answer → List ℕ → List ℕ → LentBoth
record_gave r table summary = record { answer = r; table = table; summary = summary }

-- helper: as an outcome, with the summary too
abbrev pub recorded_lent : Recorded → List ℕ → List ℕ → LentBoth
recorded_lent r table summary =
    record_gave r.outcome.answer (over (state_numbers r.outcome.state) table) (over (statistics_numbers r.statistics) summary)

-- [9.20] [9.35] [9.80] `funnelfawn_record`: 1 as above, and 2 where the summary's numbers are too few; the rest is the recorded step's
unfoldable pub lent_record : List ℕ → List ℕ → ℕ → ℕ → ℕ → LentBoth
lent_record table summary act p m =
    cond (not (is_sound_table table)) (record_gave (answer_of 1 0 0) table summary)
    (cond (nat_lt (length summary) summary_length) (record_gave (answer_of 2 0 0) table summary)
    (recorded_lent (recorded_of (table_in table) (summary_in summary) act p m) table summary))

-- The wait besides, for a board

-- helper: what a recorded step gives back, and the wait
pub record LentEntry : Type 0 where
  pub recorded : LentBoth
  pub wait : ℕ

-- helper: from its parts
abbrev pub entry_gave : LentBoth → ℕ → LentEntry
entry_gave r wait = record { recorded = r; wait = wait }

-- [5.90] [10.200] the recorded step, and beside an accepted action the wait that it ends, if it is a crit
unfoldable pub lent_entry : List ℕ → List ℕ → ℕ → ℕ → ℕ → LentEntry
lent_entry table summary act p m =
    entry_gave (lent_record table summary act p m)
    (cond ((lent_record table summary act p m).answer.code == 0) (wait_of (table_in table) (summary_in summary) p m) 0)
