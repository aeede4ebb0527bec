-- Section 8 of the specification: calls as rows of numbers, as `run` is lent them, and all that it gives back. A call is a row of
-- `calls` with a row of `counts` and one of `waited`, the summary that it is lent; its answer goes to a row of `answers`. Assumes nothing.
use Rattle.std.specs.Prelude.{ℕ, ◌≡◌, Bool, true, false, not, List, [], ◌∷◌, map, eqb, length, get_or, set, take}
use Rattle.std.specs.Borrow.{MutBor}
use Rattle.model.specs.declared.Parameters.{Parameters}
use Rattle.model.specs.Types.{State}
use Rattle.model.specs.Types.{Outcome}
use Rattle.model.specs.declared.Statistics.{Statistics}
use Rattle.model.specs.declared.Recorded.{Recorded}
use Rattle.model.specs.Readings.{over}
use Rattle.model.specs.Answers.{answer_numbers, fresh_of}
use Rattle.model.specs.Facts.{Accepted}
use Rattle.model.specs.Summaries.{statistics_of}
use Rattle.model.specs.Summaries.{counts_in, counts_numbers}
use Rattle.model.specs.Calls.{Call, call_of, run_of, results_of}
use Rattle.history.specs.declared.Kind.{Kind}
use Rattle.history.specs.declared.Kind.TheVariants as kind
use Rattle.lists.specs.Demand3.{Demand3}

-- Rows of numbers

-- helper: a row
abbrev pub Tuple : Type 0
Tuple = List ℕ

-- [8.152] a summary is a row of counts, and one of waits so far
abbrev pub summary_of : Tuple → Tuple → Statistics
summary_of row waited = statistics_of (counts_in row) waited

-- [8.150] kind, action, process, time: kind 0 is a step without a summary
abbrev pub call_in_row : Tuple → Statistics → Call
call_in_row row x = record {
  recorded = not (eqb (get_or row 0 0) 0);
  action = get_or row 1 0;
  process = get_or row 2 0;
  time = get_or row 3 0;
  lent = x;
}

-- [8.150] whether a call of this kind is a recorded step
abbrev pub is_recorded : Kind → Bool
is_recorded kind.Step = false
is_recorded kind.Recorded = true

-- What is lent to `run` and comes back

-- [8.152] [8.154] the lists of rows that `run` may change
pub record Rows : Type 0 where
  pub counts : List Tuple
  pub waited : List Tuple
  pub answers : List Tuple

-- helper: from its parts
abbrev pub rows : List Tuple → List Tuple → List Tuple → Rows
rows counts waited answers = record { counts = counts; waited = waited; answers = answers }

-- helper: three lists of rows as they are lent
abbrev pub lent_rows : MutBor (List Tuple) → MutBor (List Tuple) → MutBor (List Tuple) → Rows
lent_rows counts waited answers = rows counts.now waited.now answers.now

-- [8.156] as many calls as the shortest of the first three lists has rows
unfoldable pub calls_in : List Tuple → List Tuple → List Tuple → List Call
calls_in [] cs ts = []
calls_in (r ∷ rs) [] ts = []
calls_in (r ∷ rs) (c ∷ cs) [] = []
calls_in (r ∷ rs) (c ∷ cs) (t ∷ ts) = call_in_row r (summary_of c t) ∷ calls_in rs cs ts

-- [8.156] the list of answers may be the shortest too
abbrev pub calls_of : List Tuple → Rows → List Call
calls_of calls l = take (length l.answers) (calls_in calls l.counts l.waited)

-- [8.152] the counts of a call's summary after it
abbrev pub counts_row : Recorded → Tuple
counts_row r = counts_numbers r.statistics.counts

-- [8.152] the waits so far of a call's summary after it
abbrev pub waited_row : Recorded → Tuple
waited_row r = r.statistics.waited

-- [8.154] the answer to a call
abbrev pub answer_row : Recorded → Tuple
answer_row r = answer_numbers r.outcome.answer

-- [8.152] [8.154] [8.156] each result in the rows of its call
abbrev pub overwritten : List Recorded → Rows → Rows
overwritten rs l =
    rows (over (map counts_row rs) l.counts) (over (map waited_row rs) l.waited) (over (map answer_row rs) l.answers)

-- All that `run` gives back: the answer to the fresh table, the table after the last call, and the rows

-- helper: these as one
pub record Run : Type 0 where
  pub outcome : Outcome
  pub kept : Rows

-- helper: from its parts
abbrev pub run_gave : Outcome → Rows → Run
run_gave o l = record { outcome = o; kept = l }

-- [8.158] the outcome o with the table s instead
abbrev pub ending : Outcome → State → Outcome
ending o s = record { answer = o.answer; state = s }

-- [8.158] o is the outcome of the fresh table, be it accepted or not
abbrev pub ran_from : Outcome → List Call → Rows → Run
ran_from o ds l = run_gave (ending o (run_of o.state ds)) (overwritten (results_of o.state ds) l)

-- [8.150] [8.158] as a whole
unfoldable pub ran_of : Parameters → List Tuple → Rows → Run
ran_of k calls l = ran_from (fresh_of k) (calls_of calls l) l

-- Demand 3, of what `run` is lent and gives back: from the table s, with the calls ds, the rows l became l', and the last table is t

-- [8.135] for `run`
pub record Ran (s : State) (ds : List Call) (l l' : Rows) (t : State) : Type 0 where
  -- what each call gave back: its answer and its summary stand in its row
  pub results : List Recorded
  pub written : l' ≡ overwritten results l
  pub demand3 : Demand3 s ds results t

-- [8.10] [8.135] of whatever numbers and rows `run` is lent: a fresh table that was refused starts no list
abbrev pub MeetsDemand3 : Parameters → List Tuple → Rows → Rows → State → Type 0
MeetsDemand3 k calls l l' t =
    Accepted (fresh_of k) → Ran (fresh_of k).state (calls_of calls l) l l' t

-- One turn of the loop: the call in row i

-- helper: the call as the rows have it
abbrev pub call_at : List Tuple → Rows → ℕ → Call
call_at calls l i = call_in_row (get_or calls i []) (summary_of (get_or l.counts i []) (get_or l.waited i []))

-- helper: what it gives back at the table s
abbrev pub result_at : State → List Tuple → Rows → ℕ → Recorded
result_at s calls l i = call_of s (call_at calls l i)

-- helper: the rows with its result in their places
abbrev pub stored_at : Rows → ℕ → Recorded → Rows
stored_at l i r = rows (set l.counts i (counts_row r)) (set l.waited i (waited_row r)) (set l.answers i (answer_row r))

-- helper: the table after it, and the rows
pub record Turn : Type 0 where
  pub state : State
  pub kept : Rows

-- helper: from its parts
abbrev pub turn_gave : State → Rows → Turn
turn_gave s l = record { state = s; kept = l }

-- helper: the whole turn
abbrev pub turn_of : State → List Tuple → Rows → ℕ → Turn
turn_of s calls l i = turn_gave (result_at s calls l i).outcome.state (stored_at l i (result_at s calls l i))
