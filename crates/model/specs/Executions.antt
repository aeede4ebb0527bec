-- Sections 7 and 11 of the specification, a trace that is run: its steps from a fresh state on, the answer to each, and what was attempted.
-- Assumes nothing.
use Rattle.std.specs.Prelude.{ℕ, List, [], ◌∷◌, Result, Ok, Err, map, length, take}
use Rattle.model.specs.Types.{State}
use Rattle.model.specs.declared.Answer.{Answer}
use Rattle.model.specs.Types.{Outcome}
use Rattle.model.specs.declared.Fault.{Fault}
use Rattle.model.specs.declared.Found.{Found}
use Rattle.model.specs.declared.Started.{Started}
use Rattle.model.specs.Answers.{answer_numbers, step_of, fresh_of}
use Rattle.model.specs.Folds.{end_by, results_by}
use Rattle.model.specs.Texts.{Event}
use Rattle.model.specs.Readings.{Lists, over, scanned_of}
use Rattle.model.specs.Tallies.{Attempt, attempted}

-- [7.45] a step of a trace, without a summary
abbrev pub step_by : State → Event → Outcome
step_by s e = step_of s e.action e.process e.time

-- helper: the state that it hands on to the next
abbrev pub state_after : Outcome → State
state_after o = o.state

-- [7.45] the state after these steps, the first of which is taken in the state s
abbrev pub state_from : State → List Event → State
state_from s events = end_by step_by state_after s events

-- [7.40] [7.45] the answers to them
abbrev pub answers_from : State → List Event → List Answer
answers_from s events = map (λ (o : Outcome). o.answer) (results_by step_by state_after s events)

-- [11.10] the codes of these answers
abbrev pub codes_from : State → List Event → List ℕ
codes_from s events = map (λ (a : Answer). a.code) (answers_from s events)

-- [11.10] steps with the codes of the answers to them, the first step first; they end with the shorter list
unfoldable pub attempts_of : List Event → List ℕ → List Attempt
attempts_of [] codes = []
attempts_of (e ∷ es) [] = []
attempts_of (e ∷ es) (code ∷ codes) = attempted e code ∷ attempts_of es codes

-- [11.10] what comes of these steps, the first of which is taken in the state s
abbrev pub attempts_from : State → List Event → List Attempt
attempts_from s events = attempts_of events (codes_from s events)

-- Starting a text

-- helper: what was found of it with the state that its first step is taken in, and the lent lists
pub record Start : Type 0 where
  pub started : Result Started Fault
  pub kept : Lists

-- helper: of its parts
abbrev pub start_gave : Result Started Fault → Lists → Start
start_gave r l = record { started = r; kept = l }

-- [7.45] a fresh state of the trace's parameters
abbrev pub first_state : Found → State
first_state f = (fresh_of f.parameters).state

-- [7.46] where it was not refused
abbrev pub started_from : Result Found Fault → Result Started Fault
started_from (Ok f) = Ok (record { found = f; state = first_state f })
started_from (Err f) = Err f

-- [7.46] as a whole
unfoldable pub started_of : List ℕ → Lists → Start
started_of text l = start_gave (started_from (scanned_of text l).scan) (scanned_of text l).kept

-- Running steps

-- helper: the state after them, and the rows of their answers
pub record Executed : Type 0 where
  pub state : State
  pub answers : List (List ℕ)

-- helper: of its parts
abbrev pub executed_gave : State → List (List ℕ) → Executed
executed_gave s rows = record { state = s; answers = rows }

-- helper: all of these steps, with a row for each
abbrev pub executed_all : State → List Event → List (List ℕ) → Executed
executed_all s events rows = executed_gave (state_from s events) (over (map answer_numbers (answers_from s events)) rows)

-- [7.47] as many of them as there are rows
unfoldable pub executed_of : State → List Event → List (List ℕ) → Executed
executed_of s events rows = executed_all s (take (length rows) events) rows
