-- The loop of `intervals::parts::put_steps`: what is left to put, and whether a line is begun, after the blocks of steps that have been taken.
-- Assumes nothing.
use Rattle.std.proofs.Common.{◌≡◌, ◌+◌, ◌*◌, ◌-◌, ◌≤◌, length, drop}
use Rattle.model.specs.Executions.{attempts_from}
use Rattle.text.proofs.Putting.{Left}
use Rattle.execution.specs.Steps.{steps_of}
use Rattle.intervals.specs.Parts.{parts_text, open_after}
use Rattle.intervals.proofs.parts.put_steps.Given as goal

abbrev pub invariant-loop-count : goal.invariant-loop-count
invariant-loop-count l =
    let all = attempts_from l.initial.run.state (steps_of l.steps) in
    let rest = attempts_from l.run.state (drop l.run.taken (steps_of l.steps)) in
    (l.run.taken ≤ length l.steps.times.now)
    × (l.size ≤ 42 * l.run.taken)
    × Left l.initial.out 15 (parts_text all) l.out (15 + l.size) (parts_text rest)
    × (open_after l.opened rest ≡ open_after l.initial.opened all)

abbrev pub decreases-loop-count : goal.decreases-loop-count
decreases-loop-count l = length l.steps.times.now - l.run.taken
