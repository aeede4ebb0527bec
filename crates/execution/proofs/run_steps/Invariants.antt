-- `execution::run_steps` meets its contract: the invariant is what the first i steps give. Assumes nothing.
use Rattle.model.specs.Readings.{lists}
use Rattle.execution.proofs.Turns.{Taking}
use Rattle.execution.proofs.run_steps.Given as goal

abbrev pub invariant-loop-i : goal.invariant-loop-i
invariant-loop-i l =
    Taking l.initial.state (lists l.times l.processes l.actions) l.initial.answers l.count l.i l.state l.answers
