-- `local_log::shift_of` meets its contract: the number and the difference both fit. Assumes nothing.
use Rattle.local_log.proofs.Integers.{shift_fits, shift_is}
use Rattle.local_log.proofs.shift_of.Goals as goal

pub overflow_sub-result : goal.overflow_sub-result
overflow_sub-result c = shift_fits c.args.number c.requires

pub returns : goal.returns
returns c = shift_is c.args.number c.requires
