-- `values::bits_of` meets its contract: the bits passed and those left come to all of them. Assumes nothing.
use Rattle.std.proofs.Common.{◌≡◌, drop}
use Rattle.values.specs.Bits.{bits_on, bits_of}
use Rattle.values.proofs.bits_of.Given as goal

abbrev pub invariant-loop-number : goal.invariant-loop-number
invariant-loop-number l = bits_on l.bits (drop l.number-index l.numbers) ≡ bits_of l.numbers
