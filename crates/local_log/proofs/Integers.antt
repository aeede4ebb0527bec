-- Differences of two numbers as whole numbers of either sign: their order, and how near one is to another. Every whole number is such a difference,
-- so that what is said of shifts comes down to sums of numbers, which `omega` decides. Assumes nothing.
use Rattle.std.proofs.Common.{◌≡◌, ℕ, zero, suc, ◌+◌, ◌-◌, ◌^◌, ◌<◌, ◌≤◌, ◌↔◌, ℤ, pos, negsuc, ◌+ℤ◌, ◌-ℤ◌, neg_ℤ, nat_abs, ◌≤ℤ◌, sym, refl}
use Rattle.std.proofs.Common.{ap, ◌∙◌, subst, arith, le→leb, leb→le, w64, SFits, to_z, of_z, le-ltb, lt-ltb}
use lib.IntN.{sub_ℕ}
use mir.ValLaws.{to_z_pos, to_z-of_z}
use Rattle.model.specs.States.{last_time}
use Rattle.model.proofs.Tests.{if_lt}

-- What a difference is

pub sub_above : (a b : ℕ) → b ≤ a → sub_ℕ a b ≡ pos (a - b)
sub_above a b h = rw (le-ltb a b h) refl

pub sub_below : (a b : ℕ) → a < b → sub_ℕ a b ≡ negsuc (b - suc a)
sub_below a b h = rw (lt-ltb a b h) refl

-- equal ones: the sums across are equal
pub sub_same : (a b c d : ℕ) → a + d ≡ c + b → sub_ℕ a b ≡ sub_ℕ c d
sub_same a b c d e = if_lt a b
    (λ h. sub_below a b h ∙ ap negsuc {x = b - suc a} {y = d - suc c} (omega arith) ∙ sym (sub_below c d (omega arith)))
    (λ h. sub_above a b h ∙ ap pos {x = a - b} {y = c - d} (omega arith) ∙ sym (sub_above c d (omega arith)))

-- each whole number, as one or the other
pub pos_is : (n k : ℕ) → pos n ≡ sub_ℕ (k + n) k
pos_is n k = ap pos {x = n} {y = k + n - k} (omega arith) ∙ sym (sub_above (k + n) k (omega arith))

pub neg_is : (n k : ℕ) → n ≤ k → neg_ℤ (pos n) ≡ sub_ℕ (k - n) k
neg_is zero k h = ap pos {x = 0} {y = k - 0 - k} (omega arith) ∙ sym (sub_above (k - 0) k (omega arith))
neg_is (suc n) k h = ap negsuc {x = n} {y = k - suc (k - suc n)} (omega arith) ∙ sym (sub_below (k - suc n) k (omega arith))

-- Sums

-- a number and a difference
pub pos_add : (x a b : ℕ) → pos x +ℤ sub_ℕ a b ≡ sub_ℕ (x + a) b
pos_add x a b = if_lt a b below above
  where
    above : b ≤ a → pos x +ℤ sub_ℕ a b ≡ sub_ℕ (x + a) b
    above h = ap (λ (z : ℤ). pos x +ℤ z) (sub_above a b h) ∙ ap pos {x = x + (a - b)} {y = x + a - b} (omega arith)
        ∙ sym (sub_above (x + a) b (omega arith))

    below : a < b → pos x +ℤ sub_ℕ a b ≡ sub_ℕ (x + a) b
    below h = ap (λ (z : ℤ). pos x +ℤ z) (sub_below a b h) ∙ sub_same x (suc (b - suc a)) (x + a) b (omega arith)

-- a difference and a number
pub add_pos : (a b x : ℕ) → sub_ℕ a b +ℤ pos x ≡ sub_ℕ (a + x) b
add_pos a b x = if_lt a b below above
  where
    above : b ≤ a → sub_ℕ a b +ℤ pos x ≡ sub_ℕ (a + x) b
    above h = ap (λ (z : ℤ). z +ℤ pos x) (sub_above a b h) ∙ ap pos {x = a - b + x} {y = a + x - b} (omega arith)
        ∙ sym (sub_above (a + x) b (omega arith))

    below : a < b → sub_ℕ a b +ℤ pos x ≡ sub_ℕ (a + x) b
    below h = ap (λ (z : ℤ). z +ℤ pos x) (sub_below a b h) ∙ sub_same x (suc (b - suc a)) (a + x) b (omega arith)

pub neg_sub : (a b : ℕ) → neg_ℤ (sub_ℕ a b) ≡ sub_ℕ b a
neg_sub a b = if_lt a b
    (λ h. ap neg_ℤ (sub_below a b h) ∙ ap pos {x = suc (b - suc a)} {y = b - a} (omega arith) ∙ sym (sub_above b a (omega arith)))
    (λ h. ap neg_ℤ (sub_above a b h) ∙ neg_is (a - b) a (omega arith) ∙ sub_same (a - (a - b)) a b a (omega arith))

-- a number less a difference
pub pos_less : (y a b : ℕ) → pos y -ℤ sub_ℕ a b ≡ sub_ℕ (y + b) a
pos_less y a b = ap (λ (z : ℤ). pos y +ℤ z) (neg_sub a b) ∙ pos_add y b a

-- How near

pub nat-abs : (a b e : ℕ) → (nat_abs (sub_ℕ a b) ≤ e) ↔ ((a ≤ b + e) × (b ≤ a + e))
nat-abs a b e = if_lt a b
    (λ h. rw (sub_below a b h) (λ k. (omega arith, omega arith), λ k. omega arith))
    (λ h. rw (sub_above a b h) (λ k. (omega arith, omega arith), λ k. omega arith))

-- Order

pub sub_le : (a b k : ℕ) → (sub_ℕ a k ≤ℤ sub_ℕ b k) ↔ (a ≤ b)
sub_le a b k = if_lt a k
    (λ h. if_lt b k
    (λ g. rw (sub_below a k h, sub_below b k g)
    (λ o. omega (arith, leb→le (k - suc b) (k - suc a) o.le), λ l. record { le = le→leb (k - suc b) (k - suc a) (omega arith) }))
    (λ g. rw (sub_below a k h, sub_above b k g) (λ o. omega arith, λ l. record { le = tt })))
    (λ h. if_lt b k
    (λ g. rw (sub_above a k h, sub_below b k g) (λ o. absurd o.le, λ l. absurd (omega arith)))
    (λ g. rw (sub_above a k h, sub_above b k g)
    (λ o. omega (arith, leb→le (a - k) (b - k) o.le), λ l. record { le = le→leb (a - k) (b - k) (omega arith) })))

-- what is not below -d is a difference to any k that d does not pass
pub from_neg : (d k : ℕ) → d ≤ k → (s : ℤ) → neg_ℤ (pos d) ≤ℤ s → (a : ℕ) × (s ≡ sub_ℕ a k)
from_neg d k h (pos n) o = (k + n, pos_is n k)
from_neg d k h (negsuc n) o = (k - suc n, neg_is (suc n) k (far d n o h))
  where
    far : (d n : ℕ) → neg_ℤ (pos d) ≤ℤ negsuc n → d ≤ k → suc n ≤ k
    far zero n o h = absurd o.le
    far (suc d) n o h = omega (arith, leb→le n d o.le)

-- In 64 bits

-- the difference of a number and the clock's end, as it is computed
module _ (a : ℕ) (small : a ≤ 2_000_000_000_000) where
  half : a < 2 ^ 63
  half = omega arith

  shifted : to_z w64 a -ℤ pos last_time ≡ sub_ℕ a last_time
  shifted = ap (λ (z : ℤ). z -ℤ pos last_time) (to_z_pos w64 a half)

  fits_half : SFits w64 (sub_ℕ a last_time)
  fits_half = if_lt a last_time
      (λ h. subst (SFits w64) (sym (sub_below a last_time h)) (record { sfits = omega arith }))
      (λ h. subst (SFits w64) (sym (sub_above a last_time h)) (record { sfits = omega arith }))

  pub shift_fits : SFits w64 (to_z w64 a -ℤ pos last_time)
  shift_fits = subst (SFits w64) (sym shifted) fits_half

  pub shift_is : to_z w64 (of_z w64 (to_z w64 a -ℤ pos last_time)) ≡ sub_ℕ a last_time
  shift_is = to_z-of_z w64 (to_z w64 a -ℤ pos last_time) shift_fits ∙ shifted
