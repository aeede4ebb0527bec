-- What the check of `bits_of` does not find alone. Assumes nothing.
use Rattle.std.proofs.Common.{sym, ◌∙◌, arith}
use Rattle.values.proofs.Bits.{bits_next, bits_end}
use Rattle.values.proofs.bits_of.Goals as goal

pub loop-number-preserved : goal.loop-number-preserved
loop-number-preserved c =
    let v = c.loop-number in
    bits_next c.args.numbers.now v.bits v.number-index (omega arith) ∙ v.invariant

pub returns : goal.returns
returns c =
    let v = c.loop-number in
    sym (bits_end c.args.numbers.now v.bits v.number-index (omega arith)) ∙ v.invariant
