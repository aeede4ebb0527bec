-- Section 11 of the specification, what the call answers: exactly when it writes intervals, and what it writes; exactly why it is refused;
-- that the report of the same text has the same answers and faults; and what holds of the intervals of every trace. Assumes nothing.
use Rattle.std.specs.Prelude.{ℕ, ◌≤◌, ◌<◌, ◌≡◌, ◌≢◌, ◌↔◌, List, [], ◌∷◌, ◌++◌, map, Some, length, drop}
use Rattle.model.specs.declared.Refusal.{Refusal}
use Rattle.model.specs.declared.Parameters.{Parameters}
use Rattle.model.specs.declared.Answer.{Answer}
use Rattle.model.specs.Refusals.{code_of}
use Rattle.model.specs.Answers.{answer_numbers, fresh_of}
use Rattle.model.specs.Texts.{bytes, comma, newline, Event, numbers_text}
use Rattle.model.specs.Readings.{parsed, number_at}
use Rattle.model.specs.Writings.{unwritten, fitted}
use Rattle.model.specs.Reports.{answer_names, rows_text, report_text}
use Rattle.model.specs.Executions.{attempts_of}
use Rattle.grammar.specs.Exact.{Says}
use Rattle.grammar.specs.Faults.{Fault}
use Rattle.grammar.specs.Answers.{Wrote, RefusedWrite}
use Rattle.tallies.specs.Tallies.{record_all, start_of}
use Rattle.intervals.specs.Intervals.{End, ongoing, until, Interval, intervals_of, trace_intervals, interval_text, intervals_text, write_intervals_of}
use Rattle.intervals.specs.Runs.{RunIntervals}

-- The text

-- [11.47] [6.60] read as the numbers of a trace are, a text s starts with the number v and the byte `end`, and then comes the text t
pub record ReadsNumber (end v : ℕ) (s t : List ℕ) : Type 0 where
  pub size : ℕ
  pub reads : (bound : ℕ) → v < bound → number_at bound end s ≡ Some (parsed v size)
  pub then : drop size s ≡ t

-- [11.47] [11.45] and so with what stands for the end of an interval
abbrev pub ReadsEnd : End → List ℕ → List ℕ → Type 0
ReadsEnd ongoing s t = s ≡ bytes "-\n" ++ t
ReadsEnd (until m) s t = ReadsNumber newline m s t

-- [11.47] [11.45] a line is read, field by field, as its interval, whatever follows it
abbrev pub LineReads : Type 0
LineReads = (i : Interval) (rest : List ℕ) → (s t : List ℕ)
    × ReadsNumber comma i.process (interval_text i ++ rest) s × ReadsNumber comma i.from s t × ReadsEnd i.to t rest

-- [11.47] it tells the intervals
abbrev pub TextTellsAll : Type 0
TextTellsAll = (is js : List Interval) → intervals_text is ≡ intervals_text js → is ≡ js

-- [11.65] it is no longer than the trace
abbrev pub IntervalsShort : Type 0
IntervalsShort = (text : List ℕ) (line : ℕ) (k : Parameters) (events : List Event) → Says text line k events
    → length (intervals_text (trace_intervals k events)) ≤ length text

-- Where it is written

-- [11.50] [11.60] a text is a trace, and the lent bytes have room for the text of its intervals
pub record Writable (text out : List ℕ) (line : ℕ) (k : Parameters) (events : List Event) : Type 0 where
  pub says : Says text line k events
  pub fits : length (intervals_text (trace_intervals k events)) ≤ length out

-- [4.70] [11.50]
abbrev pub IntervalsTell : Type 0
IntervalsTell = (text out : List ℕ) (line : ℕ) (k : Parameters) (events : List Event) → Writable text out line k events
    → Wrote (intervals_text (trace_intervals k events)) out (write_intervals_of text out)

-- [11.50] [11.60] it is written exactly then
abbrev pub IntervalsIff : Type 0
IntervalsIff = (text out : List ℕ)
    → ((write_intervals_of text out).answer.code ≡ 0) ↔ ((line : ℕ) × (k : Parameters) × (events : List Event) × Writable text out line k events)

-- Where it is refused

-- [11.55] [11.60] why nothing is written: the code, and the line that is told
pub data Unwritable (text out : List ℕ) : ℕ → ℕ → Type 0 where
  -- [11.55] a fault of the text, with the line that the report prints for it
  faulty : {why : Refusal} {line : ℕ} → Fault text why line → Unwritable text out (code_of why) line
  -- [11.60] [4.16] after all others: the text is faultless
  no_room : (line : ℕ) (k : Parameters) (events : List Event) → Says text line k events
      → length out < length (intervals_text (trace_intervals k events)) → Unwritable text out 16 0

-- [11.55] [11.60] it is refused exactly so
abbrev pub IntervalsRefusedExactly : Type 0
IntervalsRefusedExactly = (text out : List ℕ) (code line : ℕ) → code ≢ 0
    → RefusedWrite out code line (write_intervals_of text out) ↔ Unwritable text out code line

-- [11.65] lent bytes that are as many as those of the text are never too few
abbrev pub IntervalsRoom : Type 0
IntervalsRoom = (text out : List ℕ) → length text ≤ length out → (write_intervals_of text out).answer.code ≢ 16

-- The report of the same text

-- [11.10] of a trace, both come from the same answers, one to each step
abbrev pub SameAnswers : Type 0
SameAnswers = (text out : List ℕ) (line : ℕ) (k : Parameters) (events : List Event) → Says text line k events
    → (given : List Answer) × (length given ≡ length events)
    × (report_text text ≡ answer_names ++ rows_text line (map answer_numbers given))
    × (write_intervals_of text out ≡ fitted (intervals_text (intervals_of (attempts_of events (map (λ (a : Answer). a.code) given)))) out)

-- [11.55] [7.30] of a fault, both have the code and the line
abbrev pub SameFault : Type 0
SameFault = (text out : List ℕ) (why : Refusal) (line : ℕ) → Fault text why line
    → (report_text text ≡ answer_names ++ numbers_text line (code_of why ∷ 0 ∷ 0 ∷ []))
    × (write_intervals_of text out ≡ unwritten (code_of why) line out)

-- Every trace

-- [11.70] [11.80] [11.85] [11.90]
abbrev pub EveryTrace : Type 0
EveryTrace = (text : List ℕ) (line : ℕ) (k : Parameters) (events : List Event) → Says text line k events
    → RunIntervals (fresh_of k).state events (trace_intervals k events)

-- [11.75] no trace has so many steps that a summary fills up
abbrev pub IntervalsCounted : Type 0
IntervalsCounted = (text : List ℕ) (line : ℕ) (k : Parameters) (events : List Event) → Says text line k events
    → length (trace_intervals k events) ≡ (record_all (start_of (fresh_of k).state) events).statistics.counts.entries
