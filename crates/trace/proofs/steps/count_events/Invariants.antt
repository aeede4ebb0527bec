-- The loop of `steps::count_events`: a walk from line to line, which has come to where `rest` starts. Assumes nothing.
use Rattle.std.proofs.Common.{length}
use Rattle.trace.proofs.Rows.{Walk}
use Rattle.trace.proofs.steps.count_events.Given as goal

abbrev pub invariant-loop-rest : goal.invariant-loop-rest
invariant-loop-rest l = Walk l.s l.first l.rest l.count

abbrev pub decreases-loop-rest : goal.decreases-loop-rest
decreases-loop-rest l = length l.rest
