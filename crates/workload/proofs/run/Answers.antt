-- The step that was made, and those that are left.
use Rattle.std.proofs.Common.{◌<◌, subst}
use Rattle.workload.specs.Work.{steps_in}
use Rattle.workload.proofs.Steps.{sums_more}
use Rattle.workload.proofs.run.Goals as goal

pub loop-i-preserved : goal.loop-i-preserved
loop-i-preserved g c =
    let below : c.loop-i.i < steps_in c.args.case = subst (λ n. c.loop-i.i < n) c.steps_of-i-end.ensures c.loop-i-test.true in
    λ last total rest. c.loop-i.invariant last total (
    sums_more g.M.Machine.step c.args.case c.loop-i.i (steps_in c.args.case) c.loop-i.sum _ total c.loop-i.machine c.step-answer.new.self last
    c.act_of.result c.step-answer.result c.step-answer.ensures c.act_of.ensures c.added-sum.ensures below rest)
