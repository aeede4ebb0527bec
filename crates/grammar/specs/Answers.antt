-- Sections 4, 6 and 7 of the specification, what readings, writings and reports answer: exactly when they succeed, exactly why a reading is
-- refused, and what the answer and the lent lists and bytes then hold. Assumes nothing.
use Rattle.std.specs.Prelude.{ℕ, ◌≤◌, ◌<◌, ◌≡◌, ◌↔◌, List, Ok, Err, length, take, drop}
use Rattle.model.specs.declared.Parameters.{Parameters}
use Rattle.model.specs.declared.Reading.{Reading}
use Rattle.model.specs.declared.Refusal.{Refusal}
use Rattle.model.specs.declared.Refusal.TheVariants.{BadCount, BadLimits, BadNames, BadLine, BadLength}
use Rattle.model.specs.Refusals.{code_of}
use Rattle.model.specs.Answers.{answer_of}
use Rattle.model.specs.Texts.{Event, trace_text}
use Rattle.model.specs.Readings.{Lists, room, stored, Read, reading_of, read_of}
use Rattle.model.specs.Writings.{Written, write_of}
use Rattle.model.specs.Reports.{report_text, report_of}
use Rattle.grammar.specs.Exact.{Formed, Says}
use Rattle.grammar.specs.Faults.{Fault}

-- Readings that succeed

-- [6.133] [6.190] a text says a trace, and the lent lists have room for its steps
pub record Readable (text : List ℕ) (l : Lists) (line : ℕ) (k : Parameters) (events : List Event) : Type 0 where
  pub says : Says text line k events
  pub fits : length events ≤ room l

-- [4.70] [6.130] [6.136] what a reading then gives back: the parameters, how many steps there are, and the steps in the lists
pub record ReadAll (k : Parameters) (events : List Event) (l : Lists) (r : Read) : Type 0 where
  pub reading : r.reading ≡ Ok (reading_of k (length events))
  pub kept : r.kept ≡ stored events l

-- [4.70] [6.130] [6.133] [6.136]
abbrev pub ReadTells : Type 0
ReadTells = (text : List ℕ) (l : Lists) (line : ℕ) (k : Parameters) (events : List Event) → Readable text l line k events
    → ReadAll k events l (read_of text l)

-- [6.133] [6.190] a reading is accepted exactly then
abbrev pub ReadIff : Type 0
ReadIff = (text : List ℕ) (l : Lists)
    → ((q : Reading) × ((read_of text l).reading ≡ Ok q)) ↔ ((line : ℕ) × (k : Parameters) × (events : List Event) × Readable text l line k events)

-- Readings that are refused

-- [6.110] a refusal that is reported at one line tells its caller another: none for 11 and 12
pub data TellsLine : Refusal → ℕ → ℕ → Type 0 where
  of_count : TellsLine BadCount 2 0
  of-limits : {line : ℕ} → TellsLine BadLimits line 0
  of_names : {line : ℕ} → TellsLine BadNames line line
  of_line : {line : ℕ} → TellsLine BadLine line line
  of_text : TellsLine BadLength 0 0

-- [6.90] [6.195] why a text is not read into these lists: the code, and the line that the caller is told
pub data Unreadable (text : List ℕ) (l : Lists) : ℕ → ℕ → Type 0 where
  faulty : {why : Refusal} {line told : ℕ} → Fault text why line → TellsLine why line told → Unreadable text l (code_of why) told
  -- [4.16] [6.133] after all others: the text is faultless
  no_room : (line : ℕ) (k : Parameters) (events : List Event) → Says text line k events → room l < length events → Unreadable text l 16 0

-- [6.110] [6.140] what a refused reading gives back: its answer, and the lists as they were lent
pub record RefusedRead (l : Lists) (code time : ℕ) (r : Read) : Type 0 where
  pub reading : r.reading ≡ Err (answer_of code 0 time)
  pub lists_stay : r.kept ≡ l

-- [6.90] [6.110] [6.133] [6.140] [6.195] a reading is refused exactly so
abbrev pub ReadRefusedExactly : Type 0
ReadRefusedExactly = (text : List ℕ) (l : Lists) (code time : ℕ) → RefusedRead l code time (read_of text l) ↔ Unreadable text l code time

-- Writings and reports

-- [4.70] [6.153] [6.156] [7.50] [11.50] a text was put into lent bytes: 0, 0 and how many bytes it has; they start with it, and the others stay
pub record Wrote (text out : List ℕ) (w : Written) : Type 0 where
  pub answer : w.answer ≡ answer_of 0 0 (length text)
  pub text_is : take (length text) w.out ≡ text
  pub rest_stays : drop (length text) w.out ≡ drop (length text) out

-- [4.110] [11.55] [11.60] nothing was put: a code, 0 and a line, and the lent bytes as they were
pub record RefusedWrite (out : List ℕ) (code line : ℕ) (w : Written) : Type 0 where
  pub answer : w.answer ≡ answer_of code 0 line
  pub bytes_stay : w.out ≡ out

-- [4.70] [6.153] [6.156] of a trace that has a form, and lent bytes with room for its text
abbrev pub WriteTells : Type 0
WriteTells = (k : Parameters) (events : List Event) (out : List ℕ) → Formed k events → length (trace_text k events) ≤ length out
    → Wrote (trace_text k events) out (write_of k events out)

-- [6.170] a writing is accepted exactly then
abbrev pub WriteIff : Type 0
WriteIff = (k : Parameters) (events : List Event) (out : List ℕ) → ((write_of k events out).answer.code ≡ 0)
    ↔ (Formed k events × (length (trace_text k events) ≤ length out))

-- [4.70] [7.50] of any bytes, and lent bytes with room for their report
abbrev pub ReportTells : Type 0
ReportTells = (text out : List ℕ) → length (report_text text) ≤ length out → Wrote (report_text text) out (report_of text out)

-- [7.50] a report is accepted exactly then
abbrev pub ReportIff : Type 0
ReportIff = (text out : List ℕ) → ((report_of text out).answer.code ≡ 0) ↔ (length (report_text text) ≤ length out)
