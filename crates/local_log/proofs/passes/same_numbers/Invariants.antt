-- `local_log::passes::same_numbers` meets its contract: the bits of the differences passed, and what is left, tell of all. Assumes nothing.
use Rattle.std.proofs.Common.{◌≡◌, ◌&&◌, eqb, length}
use Rattle.std.specs.Slice.Iter.{iter_rest}
use Rattle.std.specs.Iterator.Adapters.{zip_first, zip_second}
use Rattle.local_log.specs.Formulas.{same_numbers}
use Rattle.local_log.proofs.passes.same_numbers.Given as goal

abbrev pub invariant-loop-claim : goal.invariant-loop-claim
invariant-loop-claim l =
    let xs = iter_rest (zip_first l.claim-iterator) in
    let ys = iter_rest (zip_second l.claim-iterator) in
    (length xs ≡ length ys) × ((eqb l.bits 0 && same_numbers xs ys) ≡ same_numbers l.claims l.actions)
