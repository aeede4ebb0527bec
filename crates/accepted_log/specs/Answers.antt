-- Section 13 of the specification, what the call for an accepted log answers: exactly when it gives the log, and exactly why it is refused; what
-- holds of the log of every trace, in plain facts; and what a comparison with it tells. Assumes nothing.
use Rattle.std.specs.Prelude.{ℕ, ◌≤◌, ◌<◌, min, ◌≡◌, ◌≢◌, ◌↔◌, List, [], ◌∷◌, ◌++◌, map, length, take, drop}
use Rattle.model.specs.declared.Parameters.{Parameters}
use Rattle.model.specs.declared.Refusal.{Refusal}
use Rattle.model.specs.Refusals.{code_of}
use Rattle.model.specs.States.{last_time}
use Rattle.model.specs.Acts.{withdraw_act}
use Rattle.model.specs.Tallies.{Attempt}
use Rattle.model.specs.Texts.{Event}
use Rattle.model.specs.declared.Answer.{Answer}
use Rattle.model.specs.Answers.{answer_of, answer_numbers, fresh_of}
use Rattle.model.specs.Reports.{answer_names, rows_text, report_text}
use Rattle.model.specs.Executions.{attempts_of, attempts_from}
use Rattle.grammar.specs.Exact.{Says}
use Rattle.grammar.specs.Faults.{Fault}
use Rattle.local_log.specs.declared.Comparison.{Comparison}
use Rattle.local_log.specs.Comparisons.{Entry, entries_of, most_shift, InTime, Compared}
use Rattle.accepted_log.specs.AcceptedLogs.{accepted_log, trace_log, LogRead, unlogged, logged_in, read_accepted_of}

-- Where the log is given

-- [13.120] [13.125] a text is a trace, p is a process of it, and both lists have room for its log
pub record Readable (text : List ℕ) (p : ℕ) (times actions : List ℕ) (line : ℕ) (k : Parameters) (events : List Event) : Type 0 where
  pub says : Says text line k events
  pub from : 1 ≤ p
  pub to : p ≤ k.n
  pub fits : length (trace_log k events p) ≤ min (length times) (length actions)

-- [13.120] the log is in the first places of the lists, the answer has their count, and all later places are as they were
pub record Gave (log : List Entry) (times actions : List ℕ) (r : LogRead) : Type 0 where
  pub answer : r.answer ≡ answer_of 0 0 (length log)
  pub log_is : entries_of (take (length log) r.times) (take (length log) r.actions) ≡ log
  pub times_after : drop (length log) r.times ≡ drop (length log) times
  pub actions_after : drop (length log) r.actions ≡ drop (length log) actions

-- [13.120]
abbrev pub AcceptedTell : Type 0
AcceptedTell = (text : List ℕ) (p : ℕ) (times actions : List ℕ) (line : ℕ) (k : Parameters) (events : List Event)
    → Readable text p times actions line k events → Gave (trace_log k events p) times actions (read_accepted_of text p times actions)

-- [13.120] [13.125] it is given exactly then
abbrev pub AcceptedIff : Type 0
AcceptedIff = (text : List ℕ) (p : ℕ) (times actions : List ℕ)
    → ((read_accepted_of text p times actions).answer.code ≡ 0)
    ↔ ((line : ℕ) × (k : Parameters) × (events : List Event) × Readable text p times actions line k events)

-- Where it is refused

-- [13.125] why: the code, and the line that is told
pub data Unreadable (text : List ℕ) (p : ℕ) (times actions : List ℕ) : ℕ → ℕ → Type 0 where
  -- [11.55] a fault of the text, with the line that the report prints for it
  faulty : {why : Refusal} {line : ℕ} → Fault text why line → Unreadable text p times actions (code_of why) line
  -- [4.7] the text is faultless
  no_process : (line : ℕ) (k : Parameters) (events : List Event) → Says text line k events → (1 ≤ p → p ≤ k.n → ⊥)
      → Unreadable text p times actions 7 0
  -- [4.16] after all others
  no_room : (line : ℕ) (k : Parameters) (events : List Event) → Says text line k events → 1 ≤ p → p ≤ k.n
      → min (length times) (length actions) < length (trace_log k events p) → Unreadable text p times actions 16 0

-- [13.125] it is refused exactly so, and then both lists are as they were
abbrev pub AcceptedRefusedExactly : Type 0
AcceptedRefusedExactly = (text : List ℕ) (p : ℕ) (times actions : List ℕ) (code line : ℕ) → code ≢ 0
    → (read_accepted_of text p times actions ≡ unlogged code line times actions) ↔ Unreadable text p times actions code line

-- [13.130] there is no more in the log than there are steps
abbrev pub LogShort : Type 0
LogShort = (k : Parameters) (events : List Event) (p : ℕ) → length (trace_log k events p) ≤ length events

-- [13.130] and lists of 8,187 places are never too short
abbrev pub AcceptedRoom : Type 0
AcceptedRoom = (text : List ℕ) (p : ℕ) (times actions : List ℕ) → 8187 ≤ length times → 8187 ≤ length actions
    → (read_accepted_of text p times actions).answer.code ≢ 16

-- The report of the same text

-- [13.110] [11.10] of a trace, both come from the same answers, one to each step
abbrev pub SameAnswers : Type 0
SameAnswers = (text : List ℕ) (p : ℕ) (times actions : List ℕ) (line : ℕ) (k : Parameters) (events : List Event) → Says text line k events
    → 1 ≤ p → p ≤ k.n
    → (given : List Answer) × (length given ≡ length events)
    × (report_text text ≡ answer_names ++ rows_text line (map answer_numbers given))
    × (read_accepted_of text p times actions
    ≡ logged_in (accepted_log p (attempts_of events (map (λ (a : Answer). a.code) given))) times actions)

-- Every trace

-- [13.110] an accepted action of process p
pub record AcceptedOf (p : ℕ) (e : Attempt) : Type 0 where
  pub accepted : e.code ≡ 0
  pub process : e.process ≡ p

-- [13.135] each accepted action of p has an entry and each entry such an action, one for one, in the same order
pub data OneForEach (p : ℕ) : List Attempt → List Entry → Type 0 where
  none : OneForEach p [] []
  skipped : {e : Attempt} {es : List Attempt} {log : List Entry} → (AcceptedOf p e → ⊥) → OneForEach p es log → OneForEach p (e ∷ es) log
  logged : {e : Attempt} {es : List Attempt} {x : Entry} {log : List Entry} → AcceptedOf p e → x.time ≡ e.time → x.action ≡ e.action
      → OneForEach p es log → OneForEach p (e ∷ es) (x ∷ log)

-- [13.140] no time falls, from this one on, or is past the clock's end; and all are actions of a process
abbrev pub InOrder : ℕ → List Entry → Type 0
InOrder from [] = Unit {0}
InOrder from (x ∷ log) = (from ≤ x.time) × (x.time ≤ last_time) × (1 ≤ x.action) × (x.action ≤ withdraw_act) × InOrder x.time log

-- [13.135] [13.140]
abbrev pub EveryLog : Type 0
EveryLog = (text : List ℕ) (line : ℕ) (k : Parameters) (events : List Event) → Says text line k events → (p : ℕ) → 1 ≤ p
    → OneForEach p (attempts_from (fresh_of k).state events) (trace_log k events p) × InOrder 0 (trace_log k events p)

-- [13.145] so only d, e and the local times can be past their bounds where a local log is held against it
abbrev pub BoundsLocal : Type 0
BoundsLocal = (text : List ℕ) (line : ℕ) (k : Parameters) (events : List Event) → Says text line k events → (p : ℕ) → 1 ≤ p
    → (d e : ℕ) (local : List Entry) (r : Comparison) → Compared d e local (trace_log k events p) r
    → (r.code ≡ 19) ↔ ((d ≤ most_shift) × (e ≤ most_shift) × InTime local → ⊥)
