-- Sections 5 and 8 of the specification: recorded steps as rows of numbers, each lent the summary that the one before it left, as
-- `run_recorded` makes them, and all that it gives back. Assumes nothing.
use Rattle.std.specs.Prelude.{ℕ, List, [], map, length, get_or, set, take}
use Rattle.model.specs.declared.Parameters.{Parameters}
use Rattle.model.specs.declared.Recorded.{Recorded}
use Rattle.model.specs.Answers.{fresh_of}
use Rattle.model.specs.Summaries.{new_statistics, beside}
use Rattle.model.specs.Texts.{Event, event}
use Rattle.model.specs.Tallies.{Attempt, log_of}
use Rattle.tallies.specs.Tallies.{record_next, record_all, records_of}
use Rattle.model.specs.Readings.{over}
use Rattle.history.specs.Lists.{Tuple, answer_row, ending}

-- [8.160] action, process, time
abbrev pub event_in_row : Tuple → Event
event_in_row row = event (get_or row 2 0) (get_or row 1 0) (get_or row 0 0)

-- [8.160] as many as the shorter list has rows
abbrev pub events_in_rows : List Tuple → List Tuple → List Event
events_in_rows acts answers = take (length answers) (map event_in_row acts)

-- [8.162] the code in a row of an answer
abbrev pub code_in : Tuple → ℕ
code_in row = get_or row 0 0

-- [5.120] [5.125] the log of rows of acts and of the rows that have the answers to them
abbrev pub log_in : List Tuple → List Tuple → List Attempt
log_in acts answers = log_of (map event_in_row acts) (map code_in answers)

-- All that `run_recorded` gives back: the answer to the fresh table, the table and the summary after the last step, and the answers

-- helper: these as one
pub record RecordedRun : Type 0 where
  pub recorded : Recorded
  pub answers : List Tuple

-- helper: from its parts
abbrev pub recorded_run_gave : Recorded → List Tuple → RecordedRun
recorded_run_gave r answers = record { recorded = r; answers = answers }

-- [8.164] the answer of the first, the table and the summary of the second
abbrev pub started : Recorded → Recorded → Recorded
started r t = record { outcome = ending r.outcome t.outcome.state; statistics = t.statistics }

-- [8.160] [8.162] [8.164] r is the fresh table beside the new summary
abbrev pub recorded_run_from : Recorded → List Event → List Tuple → RecordedRun
recorded_run_from r es answers = recorded_run_gave (started r (record_all r es)) (over (map answer_row (records_of r es)) answers)

-- [8.160] [8.164] as a whole
unfoldable pub recorded_run_of : Parameters → List Tuple → List Tuple → RecordedRun
recorded_run_of k acts answers = recorded_run_from (beside new_statistics (fresh_of k)) (events_in_rows acts answers) answers

-- One turn of the loop: the step in row i

-- helper: r is what the step before it gave back
abbrev pub record_at : Recorded → List Tuple → List Tuple → ℕ → RecordedRun
record_at r acts answers i =
    let t = record_next r (event_in_row (get_or acts i [])) in recorded_run_gave t (set answers i (answer_row t))
