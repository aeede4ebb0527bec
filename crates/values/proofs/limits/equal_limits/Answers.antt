-- `values::limits::equal_limits` meets its contract: as `limits_in` of n equal values. Assumes nothing.
use Rattle.std.proofs.Common.{arith, length-take-le}
use Rattle.values.proofs.Values.{filled_over}
use Rattle.values.proofs.limits.equal_limits.Goals as goal

pub returns : goal.returns
returns c =
    let args = c.args in
    filled_over args.n args.limit c.min-count.result _ c.fill.new.self c.min-count.ensures (length-take-le _ _ (omega arith)) (c.fill.ensures.after (λ y h. h))
