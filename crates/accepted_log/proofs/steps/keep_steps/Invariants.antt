-- The loop of `accepted_log::steps::keep_steps`: what is left to put, and that the steps yet to be taken are as they were. Assumes nothing.
use Rattle.std.proofs.Common.{◌-◌, ◌≤◌, drop, take}
use Rattle.model.specs.Writings.{events_of}
use Rattle.model.specs.Executions.{attempts_from}
use Rattle.execution.specs.Steps.{lists_in}
use Rattle.accepted_log.specs.AcceptedLogs.{accepted_log}
use Rattle.accepted_log.proofs.Keeping.{Left}
use Rattle.accepted_log.proofs.steps.keep_steps.Given as goal

abbrev pub invariant-loop-block : goal.invariant-loop-block
invariant-loop-block l =
    let events = take l.count (events_of (lists_in l.initial.steps)) in
    let all = accepted_log l.process (attempts_from l.initial.run.state events) in
    let rest = accepted_log l.process (attempts_from l.run.state (drop l.run.taken events)) in
    (l.run.taken ≤ l.count) × Left all 0 rest l.kept l.run.taken (lists_in l.initial.steps) (lists_in l.steps)

abbrev pub decreases-loop-block : goal.decreases-loop-block
decreases-loop-block l = l.count - l.run.taken
