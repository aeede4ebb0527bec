-- `deadlines::step` meets its contract: the entries before the place of the pass are passed. Assumes nothing.
use Rattle.std.proofs.Common.{◌-◌}
use Rattle.deadlines.proofs.Passing.{PassedWith}
use Rattle.deadlines.proofs.step.Given as goal

abbrev pub invariant-loop-at : goal.invariant-loop-at
invariant-loop-at l = PassedWith l.state l.process l.at l.found

abbrev pub decreases-loop-at : goal.decreases-loop-at
decreases-loop-at l = 96 - l.at
