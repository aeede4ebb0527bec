-- What the check of `waiting::wait_on` does not find alone. Assumes nothing.
use Rattle.std.proofs.Common.{get_or, refl, arith}
use Rattle.statistics.specs.Waitings.{gains_of, stage_at, longer_by, waited_from}
use Rattle.statistics.proofs.Waits.{one_more_gone, waited_from_all}
use Rattle.statistics.proofs.waiting.wait_on.Goals as goal

pub loop-i-init : goal.loop-i-init
unfolding waited_from
loop-i-init g c = refl

pub loop-i-preserved : goal.loop-i-preserved
loop-i-preserved g c =
    let a = c.args in
    let v = c.loop-i in
    one_more_gone (gains_of a.unused) (stage_at (g.S.Stages.entries a.stages.now)) v.i _ a.waited.now v.waited v.invariant
    (λ i. longer_by (get_or (c.gains_of-gains.ensures i) (c.stage.ensures i) 0) (get_or v.waited v.i 0))

pub returns : goal.returns
returns g c fits =
    let a = c.args in
    let v = c.loop-i in
    let qs = g.S.Stages.entries a.stages.now in
    rw v.invariant (waited_from_all a.unused qs a.waited.now fits (stage_at qs) (λ i. refl) _ v.i (omega arith) c.count.ensures.rest)
