-- `local_log::passes::fault` meets its contract: the difference is taken as it wraps. Assumes nothing.
use Rattle.local_log.proofs.Turns.{fault_tells}
use Rattle.local_log.proofs.passes.fault.Goals as goal

pub returns : goal.returns
returns c = fault_tells c.args.time c.ranges.time.fits
