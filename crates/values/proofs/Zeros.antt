-- Numbers that are all 0: looked at as one, and one by one. Assumes nothing.
use Rattle.std.proofs.Common.{◌≡◌, ℕ, false, ◌&&◌, eqb, List, [], ◌∷◌, sym, ◌∙◌, arith, eq-eqb, ne_eqb}
use mathlib.Core.Bool.{and_assoc, and-true}
use lib.Bits.{bit_or, or_add_and, and_le_l, and_le_r}
use Rattle.values.specs.Bits.{bits_on, bits_of, are_zero}
use Rattle.model.proofs.Tests.{if_eq}

-- the bits of two numbers together are 0 where both are
pub or_zero : (a b : ℕ) → eqb (bit_or a b) 0 ≡ eqb a 0 && eqb b 0
or_zero a b =
    if_eq (bit_or a b) 0
    (λ e. rw (
      eq-eqb (bit_or a b) 0 e,
      eq-eqb a 0 (omega (arith, or_add_and a b, and_le_r a b, e)),
      eq-eqb b 0
          (omega (arith, or_add_and a b, and_le_l a b, e)),
    ))
    (λ n. ne_eqb (bit_or a b) 0 n ∙ sym (some n))
  where
    some : (bit_or a b ≡ 0 → ⊥) → eqb a 0 && eqb b 0 ≡ false
    some n = if_eq a 0
        (λ e. if_eq b 0 (λ f. absurd (n (rw (e, f)))) (λ f. rw (e, ne_eqb b 0 f)))
        (λ e. rw (ne_eqb a 0 e))

-- with the bits that came before
zero_on : (bits : ℕ) (l : List ℕ) → eqb (bits_on bits l) 0 ≡ eqb bits 0 && are_zero l
unfolding bits_on are_zero
zero_on bits [] = sym (and-true (eqb bits 0))
zero_on bits (x ∷ xs) = zero_on (bit_or bits x) xs ∙ rw (or_zero bits x) (and_assoc (eqb bits 0) (eqb x 0) (are_zero xs))

pub bits_zero : (l : List ℕ) → eqb (bits_of l) 0 ≡ are_zero l
bits_zero l = zero_on 0 l
