-- Laws of decimal digits. Assumes nothing.
use Prim.Native.Nat.{ℕ, zero, suc, ◌+◌, ◌*◌, ◌/◌, ◌%◌, ◌^◌, ◌≤◌, ◌<◌}
use mathlib.Core.Path.{◌≡◌, sym, ap, ◌∙◌}
use mathlib.Core.Logic.{◌↔◌}
use mathlib.Core.List.{[], ◌∷◌, ◌++◌}
use native.Mathlib.Omega.{arith}
use native.Mathlib.Nat.{pow-suc}
use lib.ListN.{length, length-append}
use borrow.Author.Tests.{lt-ltb, le-ltb}
use Rattle.model.specs.Texts.{decimal_in, decimal}
use Rattle.model.proofs.Tests.{if_lt, tests}
use Rattle.grammar.specs.Digits.{digits_of, DigitsIffBelow, BoundsAreDigits, FormIffDigits}

in_small : (k v : ℕ) → v < 10 → decimal_in (suc k) v ≡ (48 + v) ∷ []
unfolding decimal_in
in_small k v h = rw (lt-ltb v 10 h, decimal_in)

in_more : (k v : ℕ) → 10 ≤ v → decimal_in (suc k) v ≡ decimal_in k (v / 10) ++ ((48 + v % 10) ∷ [])
unfolding decimal_in
in_more k v h = rw (le-ltb v 10 h, decimal_in)

-- as many digits as may be are the same digits
enough : (k j v : ℕ) → v < k → v < j → decimal_in k v ≡ decimal_in j v
enough zero j v h g = absurd (omega arith)
enough (suc k) zero v h g = absurd (omega arith)
enough (suc k) (suc j) v h g =
    if_lt v 10
    (λ h. in_small k v h ∙ sym (in_small j v h))
    (λ m. rw (in_more k v m, in_more j v m, enough k j (v / 10) (omega arith) (omega arith)))

pub decimal_small : (v : ℕ) → v < 10 → decimal v ≡ (48 + v) ∷ []
unfolding decimal
decimal_small v h = in_small v v h

pub decimal_more : (v : ℕ) → 10 ≤ v → decimal v ≡ decimal (v / 10) ++ ((48 + v % 10) ∷ [])
unfolding decimal
decimal_more v h =
    rw (in_more v v h, enough v (suc (v / 10)) (v / 10) (omega arith) (omega arith))

-- one digit more
pub decimal_next : (v d : ℕ) → 0 < v → d < 10 → decimal (v * 10 + d) ≡ decimal v ++ ((48 + d) ∷ [])
decimal_next v d h g =
    let q : (v * 10 + d) / 10 ≡ v = omega arith in
    let r : (v * 10 + d) % 10 ≡ d = omega arith in
    decimal_more (v * 10 + d) (omega arith) ∙ rw (q, r)

digits_more : (v : ℕ) → 10 ≤ v → digits_of v ≡ digits_of (v / 10) + 1
digits_more v h = rw (decimal_more v h) (length-append (decimal (v / 10)) ((48 + v % 10) ∷ []))

pub some_digit : (v : ℕ) → 0 < digits_of v
some_digit v = if_lt v 10 (λ h. rw (decimal_small v h) (omega arith)) (λ m. omega (arith, digits_more v m))

-- a number has no more digits than it may
below_few : (d v : ℕ) → v < 10 ^ suc d → digits_of v ≤ suc d
below_few zero v h = rw (decimal_small v h) (omega arith)
below_few (suc d) v h =
    if_lt v 10
    (λ h. rw (decimal_small v h) (omega arith))
    (λ m.
    let q : 10 ^ suc (suc d) ≡ 10 ^ suc d * 10 = pow-suc 10 (suc d) in
    let g : v / 10 < 10 ^ suc d = omega arith in
    omega (arith, digits_more v m, below_few d (v / 10) g))

-- and one with so few is so small
few_below : (d v : ℕ) → digits_of v ≤ suc d → v < 10 ^ suc d
few_below zero v h = if_lt v 10 (λ l. l) (λ m. absurd (omega (arith, digits_more v m, some_digit (v / 10))))
few_below (suc d) v h =
    let q : 10 ^ suc (suc d) ≡ 10 ^ suc d * 10 = pow-suc 10 (suc d) in
    if_lt v 10
    (λ l. omega (arith, few_below d 0 (omega (arith, ap length (decimal_small 0 (omega arith))))))
    (λ m. omega (arith, few_below d (v / 10) (omega (arith, digits_more v m))))

pub digits_iff_below : DigitsIffBelow
digits_iff_below zero v h = absurd (omega arith)
digits_iff_below (suc d) v h = (few_below d v, below_few d v)

-- a u64 has at most 20 digits
pub digits_word : (v : ℕ) → v < 2 ^ 64 → digits_of v ≤ 20
digits_word v h = (digits_iff_below 20 v (omega arith)).1 (omega arith)

-- The two bounds

-- a bound that is such a power
exactly : (d v : ℕ) → 1 ≤ d → (v < 10 ^ d) ↔ (digits_of v ≤ d)
exactly d v h = let i = digits_iff_below d v h in (i.1, i.0)

pub bounds_are_digits : BoundsAreDigits
bounds_are_digits = record { time = λ v. exactly _ v (omega arith); number = λ v. exactly _ v (omega arith) }

pub form_iff_digits : FormIffDigits
form_iff_digits e =
    let t = bounds_are_digits.time e.time in
    let p = bounds_are_digits.number e.process in (
      λ h. let f = simp tests at h in record { time = t.0 f.0.0; process = p.0 f.0.1; action = omega arith },
      λ f. simp tests ((t.1 f.time, p.1 f.process), omega arith),
    )
