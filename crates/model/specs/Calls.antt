-- Section 8 of the specification, up to the plain state: a list of calls, the plain state beside it, and what each call gives back.
-- Assumes nothing.
use Rattle.std.specs.Prelude.{ℕ, Bool, cond, List}
use Rattle.model.specs.Types.{State}
use Rattle.model.specs.Types.{Outcome}
use Rattle.model.specs.declared.Statistics.{Statistics}
use Rattle.model.specs.declared.Recorded.{Recorded}
use Rattle.model.specs.Answers.{step_of}
use Rattle.model.specs.Summaries.{beside, recorded_of}
use Rattle.model.specs.Folds.{end_by, results_by}

-- [8.20] [8.30] A step without a summary has one too, and leaves it alone.
pub record Call : Type 0 where
  pub recorded : Bool
  pub action : ℕ
  pub process : ℕ
  pub time : ℕ
  pub lent : Statistics

-- [8.55] what a call gives back at a state: the outcome, and the summary
unfoldable pub call_of : State → Call → Recorded
call_of s d =
    cond d.recorded (recorded_of s d.lent d.action d.process d.time)
    (beside d.lent (step_of s d.action d.process d.time))

-- helper: its outcome
abbrev pub outcome_of : State → Call → Outcome
outcome_of s d = (call_of s d).outcome

-- [8.55] the state after it
abbrev pub table_of : State → Call → State
table_of s d = (outcome_of s d).state

-- helper: the state that a call hands on to the next
abbrev pub handed_on : Recorded → State
handed_on r = r.outcome.state

-- [8.50] the plain state after a list
abbrev pub run_of : State → List Call → State
run_of s ds = end_by call_of handed_on s ds

-- [8.55] what each call of a list gives back, judged in the plain state
abbrev pub results_of : State → List Call → List Recorded
results_of s ds = results_by call_of handed_on s ds
