-- The loop of `report::put_run`: what is left to put, after the blocks of steps that have been taken. Assumes nothing.
use Rattle.std.proofs.Common.{◌+◌, ◌*◌, ◌-◌, ◌≤◌, length, drop}
use Rattle.text.proofs.Putting.{Left}
use Rattle.execution.specs.Steps.{steps_of}
use Rattle.report.specs.Runs.{run_text}
use Rattle.report.proofs.put_run.Given as goal

abbrev pub invariant-loop-count : goal.invariant-loop-count
invariant-loop-count l =
    let events = steps_of l.steps in
    (l.run.taken ≤ length l.steps.times.now)
    × (l.size ≤ 84 * l.run.taken)
    × Left l.initial.out 26 (run_text l.line l.initial.run.state events) l.out (26 + l.size)
    (run_text (l.line + l.run.taken) l.run.state (drop l.run.taken events))

abbrev pub decreases-loop-count : goal.decreases-loop-count
decreases-loop-count l = length l.steps.times.now - l.run.taken
