-- The loop of `fields::number_below`: the number is read from what is left, after the digits so far. Assumes nothing.
use Rattle.std.proofs.Common.{◌≡◌, ◌<◌, drop}
use Rattle.model.specs.Readings.{number_from, number_at}
use Rattle.text.proofs.fields.number_below.Given as goal

abbrev pub invariant-loop-i : goal.invariant-loop-i
invariant-loop-i l =
    (l.value < 10000000000000) × (number_from l.bound l.end l.value l.i (drop l.i l.s) ≡ number_at l.bound l.end l.s)
