-- `machine::step` meets its contract. At process `at`, the entries before it are passed. Assumes nothing.
use Rattle.std.proofs.Common.{◌-◌}
use Rattle.rules.proofs.Pass.{Passed}
use Rattle.machine.proofs.step.Given as goal

abbrev pub invariant-loop-at : goal.invariant-loop-at
invariant-loop-at l = Passed l.state l.process (l.at - 1) l.found
