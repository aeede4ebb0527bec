-- `values::are_zero` meets its contract: the bits of numbers come to 0 just where all of them are. Assumes nothing.
use Rattle.std.proofs.Common.{eqb, ap, ◌∙◌}
use Rattle.values.proofs.Zeros.{bits_zero}
use Rattle.values.proofs.are_zero.Goals as goal

pub returns : goal.returns
returns c = ap (λ k. eqb k 0) c.bits_of.ensures ∙ bits_zero c.args.numbers.now
