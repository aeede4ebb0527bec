-- The loop of `lines::limits_at`: the lines that are left give the same as all. Assumes nothing.
use Rattle.std.proofs.Common.{◌≡◌, ◌+◌, ◌-◌, ◌≤◌, length, drop, replicate}
use Rattle.model.specs.Readings.{limits_from}
use Rattle.trace.proofs.lines.limits_at.Given as goal

abbrev pub invariant-loop-i : goal.invariant-loop-i
invariant-loop-i l =
    (l.at ≤ length l.s) × (limits_from (l.n - l.i) (l.i + 1) l.at l.a (drop l.at l.s) ≡ limits_from l.n 1 0 (replicate 96 0) l.s)
