-- What the check of `steps::bits` does not find alone. Assumes nothing.
use Prim.Native.Nat.{ℕ, ◌+◌, ◌/◌}
use mathlib.Core.Path.{◌≡◌, refl, sym, ap, ◌∙◌}
use mathlib.Core.List.{List, [], ◌++◌}
use borrow.Author.Rules.{rules}
use lib.ListN.{length, get_or, drop}
use Rattle.std.specs.List.{concat}
use Rattle.model.proofs.Lists.{drop_end}
use Rattle.values.specs.Bits.{are_zero}
use Rattle.deadline_layout.proofs.Zeros.{zero_left, of_chunks, chunks_all, four_next, pair_next, entry_next, zero_end}
use Rattle.deadline_layout.proofs.steps.bits.Goals as goal

pub loop-four-init : goal.loop-four-init
loop-four-init c =
    let l = c.args.entries.now in
    ap are_zero (rw (c.as_chunks.ensures.front, c.as_chunks.ensures.back) (chunks_all 4 (length l / 4) l))

pub loop-a-init : goal.loop-a-init
loop-a-init c =
    let v = c.loop-four in
    let parts = c.as_chunks.result in
    let size : length c.as_flattened.result.now ≡ 12 = search rules in
    ap (zero_left v.even v.odd)
    (sym (four_next parts.0.now v.four-index c.loop-four-test.true c.as_flattened.result.now c.as_flattened.ensures.value size
    c.as_chunks-in-loop-four.ensures.front (concat parts.1.now)))
    ∙ v.invariant

pub loop-a-preserved : goal.loop-a-preserved
loop-a-preserved c =
    let v = c.loop-a in
    let pairs = c.as_chunks-in-loop-four.result.0.now in
    let two : length (get_or pairs v.a-index []) ≡ 2 = search rules in
    pair_next v.even v.odd v.a-index pairs c.loop-a-test.true _ refl two _ ∙ v.invariant

pub loop-four-preserved : goal.loop-four-preserved
loop-four-preserved c =
    let v = c.loop-a in
    let more = of_chunks (drop (c.loop-four.four-index + 1) c.as_chunks.result.0.now) ++ concat c.as_chunks.result.1.now in
    ap (λ (l : List (List ℕ)). zero_left v.even v.odd (concat l ++ more))
    (sym (drop_end c.as_chunks-in-loop-four.result.0.now v.a-index c.loop-a-test.false v.auto.a-index-end))
    ∙ v.invariant

pub loop-a-2-preserved : goal.loop-a-2-preserved
loop-a-2-preserved c =
    let v = c.loop-a-2 in
    let rest = c.as_chunks.result.1.now in
    let three : length (get_or rest v.a-index []) ≡ 3 = search rules in
    entry_next v.even c.loop-four.odd v.a-index rest c.loop-a-2-test.true (get_or rest v.a-index []) refl three ∙ v.invariant

pub returns : goal.returns
returns c =
    let v = c.loop-a-2 in
    zero_end v.even c.loop-four.odd
    ∙ ap (λ (l : List (List ℕ)). zero_left v.even c.loop-four.odd (concat l))
    (sym (drop_end c.as_chunks.result.1.now v.a-index c.loop-a-2-test.false v.auto.a-index-end))
    ∙ v.invariant
