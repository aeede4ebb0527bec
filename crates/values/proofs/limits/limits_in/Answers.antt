-- `values::limits::limits_in` meets its contract: the values that there are, over the first of 96 zeros. Assumes nothing.
use Rattle.values.proofs.Values.{written_over}
use Rattle.values.proofs.limits.limits_in.Goals as goal

pub returns : goal.returns
returns c = written_over c.args.list.now c.copy_from_slice.new.self c.min-count.result c.min-count.ensures c.copy_from_slice.ensures.after
