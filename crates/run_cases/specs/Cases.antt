-- Section 20 of the specification, what a row of the table of cases means: the call that it makes, what must come of it, and that
-- all rows of a table hold. A state is said by what differs from a fresh one. Assumes nothing.
use Rattle.std.specs.Prelude.{ℕ, ◌-◌, ◌≡◌, List, [], ◌∷◌, Option, Some, None, set, drop}
use Rattle.model.specs.declared.Parameters.{Parameters}
use Rattle.model.specs.Types.{State}
use Rattle.model.specs.declared.Answer.{Answer}
use Rattle.model.specs.Types.{Outcome}
use Rattle.model.specs.States.{parameters_of, equal_limits, entry, initial}
use Rattle.model.specs.Actions.{changed}
use Rattle.model.specs.Answers.{answer_of, fresh_of, step_of}
use Rattle.model.specs.Refusals.{code_of}
use Rattle.run_cases.specs.declared.calls.Asked.{Asked}
use Rattle.run_cases.specs.declared.calls.Call.{Call}
use Rattle.run_cases.specs.declared.calls.Call.TheVariants.{Fresh, Step}
use Rattle.run_cases.specs.declared.calls.Told.{Told}
use Rattle.run_cases.specs.declared.calls.Told.TheVariants.{Accepted, Refused}
use Rattle.run_cases.specs.declared.calls.Row.{Row}

-- The call

-- helper: values of a: the same for processes 1 to n, but another for a process that has its own
unfoldable pub limits_with : ℕ → ℕ → Option (ℕ × ℕ) → List ℕ
limits_with n a None = equal_limits n a
limits_with n a (Some own) = set (equal_limits n a) (own.0 - 1) own.1

-- helper: parameters, by what is asked or told of them
abbrev pub parameters_with : Asked → Parameters
parameters_with asked = parameters_of asked.n asked.b asked.c (limits_with asked.n asked.a asked.own)

-- helper: what a call gives back, a step from the state s
abbrev pub made_of : State → Call → Outcome
made_of s (Fresh asked) = fresh_of (parameters_with asked)
made_of s (Step action process time) = step_of s action process time

-- [20.120] what a row's call gives back, a step from the state s
unfoldable pub called_of : State → Row → Outcome
called_of s row = made_of s row.call

-- What must come of it

-- helper: the answer
abbrev pub answer_told : Told → Answer
answer_told (Accepted process time) = answer_of 0 process time
answer_told (Refused refusal process time) = answer_of (code_of refusal) process time

-- helper: the fresh state that the told one is compared with
abbrev pub start_told : Row → State
start_told row = initial (parameters_with row.parameters)

-- helper: clock, word, and the entries of processes 1 and 2; all else is as in a fresh state
abbrev pub state_told : Row → State
state_told row =
    changed (start_told row) row.clock row.word (entry row.first ∷ entry row.second ∷ drop 2 (start_told row).processes)

-- [20.120] the outcome that a row tells
unfoldable pub expected_of : Row → Outcome
expected_of row = record { answer = answer_told row.answer; state = state_told row }

-- [20.120] Each row's call, at the state that the row before it gave back, has the whole outcome that the row tells; the first at
-- the state s.
unfoldable pub Hold : State → List Row → Type 0
Hold s [] = Unit
Hold s (row ∷ rows) = (called_of s row ≡ expected_of row) × Hold (called_of s row).state rows
