-- What the check of `limits::all_faults` does not find alone. Assumes nothing.
use Rattle.std.proofs.Common.{sym, ◌∙◌, arith}
use Rattle.values.proofs.Values.{within_next, within_end}
use Rattle.values.proofs.limits.all_faults.Goals as goal

pub loop-limit-preserved : goal.loop-limit-preserved
loop-limit-preserved c =
    let v = c.loop-limit in
    let args = c.args in
    within_next args.b v.bits c.faults-bits.result args.a.now v.limit-index (omega arith) c.faults-bits.ensures ∙ v.invariant

pub returns : goal.returns
returns c =
    let v = c.loop-limit in
    let args = c.args in
    sym (within_end args.b v.bits args.a.now v.limit-index (omega arith)) ∙ v.invariant
