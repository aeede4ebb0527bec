-- The loop of `numbers::numbers_at`: the numbers that are left read what is left of the text. Assumes nothing.
use Rattle.std.proofs.Common.{◌≡◌, ◌-◌, ◌≤◌, length, drop}
use Rattle.model.specs.Readings.{numbers_from, numbers_at}
use Rattle.text.proofs.numbers.numbers_at.Given as goal

abbrev pub invariant-loop-i : goal.invariant-loop-i
invariant-loop-i l =
    (l.at ≤ length l.s) × (numbers_from l.line (l.more - l.i) l.i l.at l.numbers (drop l.at l.s) ≡ numbers_at l.line l.more l.s)
