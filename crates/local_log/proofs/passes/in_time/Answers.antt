-- What the check of `passes::in_time` does not find alone. Assumes nothing.
use Rattle.std.proofs.Common.{sym, ◌∙◌, arith}
use Rattle.local_log.proofs.Turns.{in_time_next, in_time_end}
use Rattle.local_log.proofs.passes.in_time.Goals as goal

pub loop-time-preserved : goal.loop-time-preserved
loop-time-preserved c =
    let v = c.loop-time in
    in_time_next v.bits c.fault-bits.result c.args.times.now v.time-index (omega arith) c.fault-bits.ensures ∙ v.invariant

pub returns : goal.returns
returns c =
    let v = c.loop-time in
    sym (in_time_end v.bits c.args.times.now v.time-index (omega arith)) ∙ v.invariant
