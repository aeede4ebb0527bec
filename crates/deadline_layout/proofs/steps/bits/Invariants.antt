-- `deadline_layout::steps::bits` meets its contract: the bits so far and the numbers that are left tell whether all are 0. Assumes nothing.
use Rattle.std.proofs.Common.{◌≡◌, ◌+◌, ◌++◌, drop}
use Rattle.std.specs.List.{concat}
use Rattle.values.specs.Bits.{are_zero}
use Rattle.deadline_layout.proofs.Zeros.{zero_left, of_chunks}
use Rattle.deadline_layout.proofs.steps.bits.Given as goal

abbrev pub invariant-loop-a : goal.invariant-loop-a
invariant-loop-a l =
    zero_left l.even l.odd (concat (drop l.a-index l.a-items) ++ (of_chunks (drop (l.four-index + 1) l.fours) ++ concat l.rest))
    ≡ are_zero (concat l.entries)

abbrev pub invariant-loop-four : goal.invariant-loop-four
invariant-loop-four l = zero_left l.even l.odd (of_chunks (drop l.four-index l.fours) ++ concat l.rest) ≡ are_zero (concat l.entries)

abbrev pub invariant-loop-a-2 : goal.invariant-loop-a-2
invariant-loop-a-2 l = zero_left l.even l.odd (concat (drop l.a-index l.rest)) ≡ are_zero (concat l.entries)
