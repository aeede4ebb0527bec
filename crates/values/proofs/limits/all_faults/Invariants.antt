-- `values::limits::all_faults` meets its contract: the top bit of what is passed, and what is left, come to all of them. Assumes nothing.
use Rattle.std.proofs.Common.{◌≡◌, ◌&&◌, ltb, drop}
use Rattle.values.specs.Within.{top_bit, within}
use Rattle.values.proofs.limits.all_faults.Given as goal

abbrev pub invariant-loop-limit : goal.invariant-loop-limit
invariant-loop-limit l = (ltb l.bits top_bit && within l.b (drop l.limit-index l.a)) ≡ within l.b l.a
