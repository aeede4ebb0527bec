-- `execution::running::take_steps` meets its contract: the invariant is what the first i steps give. Assumes nothing.
use mathlib.Core.List.{map}
use Rattle.model.specs.Answers.{answer_numbers}
use Rattle.execution.specs.Steps.{lists_of}
use Rattle.execution.proofs.Turns.{Taking}
use Rattle.execution.proofs.running.take_steps.Given as goal

abbrev pub invariant-loop-i : goal.invariant-loop-i
invariant-loop-i l =
    Taking l.initial.state (lists_of l.steps) (map answer_numbers l.initial.answers) l.count l.i l.state (map answer_numbers l.answers)
