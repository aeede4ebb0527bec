-- `values::copy` meets its contract: after i turns the first i numbers are stored. Assumes nothing.
use Rattle.std.proofs.Common.{◌≡◌, length, take}
use Rattle.model.specs.Readings.{over}
use Rattle.values.proofs.copy.Given as goal

abbrev pub invariant-loop-i : goal.invariant-loop-i
invariant-loop-i l = (length l.to ≡ length l.initial.to) × (l.to ≡ over (take l.i l.from) l.initial.to)
