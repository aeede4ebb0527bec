-- The loop of `steps::store_events`: the walk from line to line with what the lists have become. Assumes nothing.
use Rattle.std.proofs.Common.{length}
use Rattle.model.specs.Readings.{lists}
use Rattle.trace.proofs.Stores.{StoreWalk}
use Rattle.trace.proofs.steps.store_events.Given as goal

abbrev pub invariant-loop-rest : goal.invariant-loop-rest
invariant-loop-rest l =
    let i = l.initial in
    StoreWalk l.s l.first l.rest l.count (lists i.times i.processes i.actions) (lists l.times l.processes l.actions)

abbrev pub decreases-loop-rest : goal.decreases-loop-rest
decreases-loop-rest l = length l.rest
