-- The passes over lists of numbers: a turn of each, where it stops, and its end. Assumes nothing.
use Rattle.std.proofs.Common.{◌≡◌, ℕ, ◌+◌, ◌-◌, ◌%◌, ◌^◌, ◌<◌, ◌≤◌, false, cond, ◌&&◌, ◌⊎◌, Some, None, eqb, ltb, leb, List, [], ◌∷◌, length, get_or, drop}
use Rattle.std.proofs.Common.{sym, inl, inr, refl, ◌∙◌, arith, le-ltb, lt-ltb, eq-eqb, ne_eqb, le-leb}
use mathlib.Core.Bool.{and_assoc, and-true, and-false}
use lib.Bits.{bit_or, bit_xor, xor_self, xor_add_and, and_le_l, and_le_r}
use borrow.Author.Tests.{lt-leb}
use Rattle.model.specs.States.{last_time}
use Rattle.model.proofs.Tests.{if_eq, if_lt}
use Rattle.model.proofs.Lists.{drop_at, drop_end}
use Rattle.values.specs.Within.{top_bit}
use Rattle.values.proofs.Values.{top_of_both}
use Rattle.values.proofs.Zeros.{or_zero}
use Rattle.local_log.specs.declared.passes.Differences.{Differences}
use Rattle.local_log.specs.Formulas.{in_time, same_numbers}
use Rattle.local_log.specs.Passes.{noted, pass_from}

-- Equal lists

-- two numbers are equal where the bits in which they differ are none
xor_zero : (a b : ℕ) → eqb (bit_xor a b) 0 ≡ eqb a b
xor_zero a b = if_eq a b
    (λ e. rw (e, xor_self b) (sym (eq-eqb b b refl)))
    (λ n. ne_eqb (bit_xor a b) 0 (λ z. n (omega (arith, xor_add_and a b, and_le_l a b, and_le_r a b, z))) ∙ sym (ne_eqb a b n))

pub same_next : (bits : ℕ) {claims actions xs ys : List ℕ} {x y : ℕ} → claims ≡ x ∷ xs → actions ≡ y ∷ ys
    → (eqb (bit_or bits (bit_xor x y)) 0 && same_numbers xs ys) ≡ (eqb bits 0 && same_numbers claims actions)
unfolding same_numbers
same_next bits {xs = xs} {ys = ys} {x = x} {y = y} e f =
    rw (e, f, or_zero bits (bit_xor x y), xor_zero x y) (and_assoc (eqb bits 0) (eqb x y) (same_numbers xs ys))

pub same_end : (bits : ℕ) (xs ys : List ℕ) → length xs ≡ length ys → (length xs ≡ 0) ⊎ (length ys ≡ 0) → (eqb bits 0 && same_numbers xs ys) ≡ eqb bits 0
unfolding same_numbers
same_end bits [] [] e h = and-true (eqb bits 0)
same_end bits [] (y ∷ ys) e h = absurd (omega arith)
same_end bits (x ∷ xs) [] e h = absurd (omega arith)
same_end bits (x ∷ xs) (y ∷ ys) e (inl h) = absurd (omega arith)
same_end bits (x ∷ xs) (y ∷ ys) e (inr h) = absurd (omega arith)

pub same_long : (xs ys : List ℕ) → (length xs ≡ length ys → ⊥) → same_numbers xs ys ≡ false
unfolding same_numbers
same_long [] [] n = absurd (n refl)
same_long [] (y ∷ ys) n = refl
same_long (x ∷ xs) [] n = refl
same_long (x ∷ xs) (y ∷ ys) n =
    if_eq x y (λ e. rw (eq-eqb x y e) (same_long xs ys (λ k. n (omega arith)))) (λ d. rw (ne_eqb x y d) refl)

-- Times in time

-- the clock's end less a time, as it wraps
abbrev less : ℕ → ℕ
less time = (last_time + (2 ^ 64 - time)) % 2 ^ 64

pub fault_tells : (time : ℕ) → time < 2 ^ 64 → ltb (bit_or time (less time)) top_bit ≡ leb time last_time
fault_tells time t = top_of_both time (less time) ∙ if_lt last_time time
    (λ h. rw (lt-leb time last_time h) (if_lt time top_bit
    (λ k. rw (lt-ltb time top_bit k, le-ltb (less time) top_bit (omega arith)) refl)
    (λ k. rw (le-ltb time top_bit k) refl)))
    (λ h. rw (le-leb time last_time h, lt-ltb time top_bit (omega arith), lt-ltb (less time) top_bit (omega arith)) refl)

pub in_time_next : (bits fault : ℕ) (ts : List ℕ) (i : ℕ) → i < length ts → ltb fault top_bit ≡ leb (get_or ts i 0) last_time
    → (ltb (bit_or bits fault) top_bit && in_time (drop (i + 1) ts)) ≡ (ltb bits top_bit && in_time (drop i ts))
unfolding in_time
in_time_next bits fault ts i h e =
    rw (drop_at ts i 0 h, top_of_both bits fault, e) (and_assoc (ltb bits top_bit) (leb (get_or ts i 0) last_time) (in_time (drop (i + 1) ts)))

pub in_time_end : (bits : ℕ) (ts : List ℕ) (i : ℕ) → length ts ≡ i → (ltb bits top_bit && in_time (drop i ts)) ≡ ltb bits top_bit
unfolding in_time
in_time_end bits ts i e = rw (drop_end ts i (omega arith) (omega arith)) (and-true (ltb bits top_bit))

-- Differences

-- one place more is looked at
module _ (p : Differences) {stamps times ss ts : List ℕ} {s t : ℕ} (local : stamps ≡ s ∷ ss) (other : times ≡ t ∷ ts) where
  turn : pass_from p stamps times ≡ cond (leb s last_time && leb t last_time) (pass_from (noted p s t) ss ts) None
  unfolding pass_from
  turn = rw (local, other) refl

  pub pass_next : s ≤ last_time → t ≤ last_time → pass_from p stamps times ≡ pass_from (noted p s t) ss ts
  pass_next h g = turn ∙ rw (le-leb s last_time h, le-leb t last_time g) refl

  pub local_stops : last_time < s → pass_from p stamps times ≡ None
  local_stops h = turn ∙ rw (lt-leb s last_time h) refl

  pub other_stops : last_time < t → pass_from p stamps times ≡ None
  other_stops g = turn ∙ rw (lt-leb t last_time g, and-false (leb s last_time)) refl

-- one of the lists is at its end
pub pass_ends : (p : Differences) (xs ys : List ℕ) → (length xs ≡ 0) ⊎ (length ys ≡ 0) → pass_from p xs ys ≡ Some p
unfolding pass_from
pass_ends p [] ys e = refl
pass_ends p (x ∷ xs) [] e = refl
pass_ends p (x ∷ xs) (y ∷ ys) (inl e) = absurd (omega arith)
pass_ends p (x ∷ xs) (y ∷ ys) (inr e) = absurd (omega arith)
