-- `local_log::passes::in_time` meets its contract: the top bit of what is passed, and what is left, come to all times. Assumes nothing.
use Rattle.std.proofs.Common.{◌≡◌, ◌&&◌, ltb, drop}
use Rattle.values.specs.Within.{top_bit}
use Rattle.local_log.specs.Formulas.{in_time}
use Rattle.local_log.proofs.passes.in_time.Given as goal

abbrev pub invariant-loop-time : goal.invariant-loop-time
invariant-loop-time l = (ltb l.bits top_bit && in_time (drop l.time-index l.times)) ≡ in_time l.times
