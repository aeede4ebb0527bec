-- `values::limits::faults` meets its contract: both differences are taken as they wrap. Assumes nothing.
use Rattle.std.proofs.Common.{arith, rules}
use Rattle.values.proofs.Values.{top_tells}
use Rattle.values.proofs.limits.faults.Goals as goal

pub returns : goal.returns
returns c =
    let less = c.wrapping_sub_u64-less in
    let over = c.wrapping_sub_u64 in
    let args = c.args in
    top_tells args.x args.b less.result over.result (omega arith) (omega arith) (search rules) (search rules) less.ensures.value over.ensures.value
