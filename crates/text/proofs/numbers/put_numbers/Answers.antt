-- `numbers::put_numbers` meets its contract: the numbers are put one after the other, and each takes 20 digits at most. Assumes nothing.
use Rattle.std.proofs.Common.{ℕ, ◌≡◌, ◌+◌, ◌^◌, ◌<◌, min, List, length, get_or, take, sym, ◌∙◌, arith}
use native.Mathlib.Nat.{add_assoc}
use lib.ListN.{length-take}
use lib.Seq.{get_or-take, take_all}
use Rattle.model.proofs.Tests.{if_lt}
use Rattle.text.specs.Puts.{most_numbers}
use Rattle.text.proofs.Putting.{put_one, left_all, left_next, left_after, left_last, digits_first, tail_at, tail_end, digits_narrow}
use Rattle.text.proofs.numbers.put_numbers.Goals as goal

-- as many numbers follow the first as are put
counted : (rest : List ℕ) (n : ℕ) → n ≡ min (length rest) 4_294_967_295 → take n rest ≡ take most_numbers rest
unfolding most_numbers
counted rest n e =
    if_lt 4_294_967_295 (length rest)
    (λ h. let q : n ≡ 4_294_967_295 = omega arith in rw q)
    (λ h. take_all n rest (omega arith) ∙ sym (take_all 4_294_967_295 rest h))

-- each of them fits its type
narrow : (rest : List ℕ) (n i : ℕ) → i < length (take n rest) → get_or rest i 0 < 2 ^ 64 → get_or (take n rest) i 0 < 2 ^ 64
narrow rest n i h g = rw (get_or-take n rest i 0 (omega (arith, length-take n rest))) g

pub loop-number-init : goal.loop-number-init
loop-number-init c = (digits_narrow c.args.first (omega arith) c.put_digits-size.ensures, left_all)

pub overflow_add-size-in-loop-number : goal.overflow_add-size-in-loop-number
overflow_add-size-in-loop-number c =
    let i = c.loop-number.number-index in
    let rest = c.args.rest.now in
    let fits = narrow rest c.min-count.result i c.loop-number-test.true (omega (arith, c.type_inv.rest i)) in
    omega (arith, digits_narrow _ fits c.put_digits-size-in-loop-number.ensures, length-take c.min-count.result rest)

pub loop-number-preserved : goal.loop-number-preserved
loop-number-preserved c =
    let v = c.loop-number in
    let i = v.number-index in
    let a = c.args in
    let rest = a.rest.now in
    let k = c.put_digits-size-in-loop-number in
    let all = counted rest c.min-count.result c.min-count.ensures in
    let fits = narrow rest c.min-count.result i c.loop-number-test.true (omega (arith, c.type_inv.rest i)) in
    let more = rw all at c.loop-number-test.true in
    let left = left_next (rw (tail_at (take most_numbers rest) i more, ← all) at v.invariant.1) (put_one c.put_byte.ensures) in (
      omega (arith, digits_narrow _ fits k.ensures),
      rw (← all, ← add_assoc a.at (v.size + 1) k.result) (left_next (rw (add_assoc a.at v.size 1) at left) k.ensures),
    )

pub returns-clause-put : goal.returns-clause-put
returns-clause-put c =
    let v = c.loop-number in
    let a = c.args in
    let ws : List ℕ = take most_numbers a.rest.now in
    let past = rw (counted a.rest.now c.min-count.result c.min-count.ensures) at c.loop-number-test.false in
    let within = rw (counted a.rest.now c.min-count.result c.min-count.ensures) at v.auto.number-index-end in
    let left = left_after c.put_digits-size.ensures (rw (tail_end ws v.number-index past within) at v.invariant.1) in
    rw (digits_first a.first ws) (left_last left (put_one c.put_byte-2.ensures) (omega arith))
