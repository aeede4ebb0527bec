-- Laws of the values of a: which stand, place by place; the largest of them; and the 96 that a list of as many or more stands for. Assumes
-- nothing.
use Prim.Native.Nat.{ℕ, zero, suc, ◌+◌, ◌-◌, ◌≤◌, ◌<◌}
use mathlib.Core.Path.{◌≡◌, refl, ap, ◌∙◌}
use mathlib.Core.Bool.{true}
use mathlib.Core.List.{List, [], ◌∷◌, ◌++◌, append-nil}
use native.Mathlib.Omega.{arith}
use lib.ListN.{length, get_or, take, replicate, length-append, get_or-eq_default}
use lib.Seq.{take-append_seam}
use Rattle.model.specs.declared.Parameters.{Parameters}
use Rattle.model.specs.States.{limits_in, limit_stands, own_stand, limits_stand, limit_at, limit_in, greatest}
use Rattle.model.proofs.Tests.{if_lt, and_true_iff, tests}

-- What stands

pub record LimitsParts (k : Parameters) : Type 0 where
  pub size : length k.a ≡ 96
  pub own : own_stand k.n k.b 1 k.a ≡ true
  pub order : k.b ≤ k.c
  pub most : k.c ≤ 10_000_000

pub limits_parts : (k : Parameters) → limits_stand k ≡ true → LimitsParts k
unfolding limits_stand
limits_parts k e = let h = simp tests at e in record { size = h.0.0.0; own = h.0.0.1; order = h.0.1; most = h.1 }

pub parts_limits : (k : Parameters) → LimitsParts k → limits_stand k ≡ true
unfolding limits_stand
parts_limits k h = simp tests (((h.size, h.own), h.order), h.most)

-- Place by place

own_here : (i p : ℕ) → i + 0 ≡ p → p ≡ i
own_here i p q = omega arith

-- process p has the place j of values that start with that of process i
own_at : (n b i : ℕ) (a : List ℕ) (j p : ℕ) → i + j ≡ p → j < length a → own_stand n b i a ≡ true → limit_stands n b p (get_or a j 0) ≡ true
unfolding own_stand
own_at n b i [] j p q h e = absurd (omega arith)
own_at n b i (x ∷ a) zero p q h e = rw (own_here i p q) ((and_true_iff (limit_stands n b i x) _).0 e).0
own_at n b i (x ∷ a) (suc j) p q h e = own_at n b (i + 1) a j p (omega arith) (omega arith) ((and_true_iff (limit_stands n b i x) _).0 e).1

pub own_all : (n b i : ℕ) (a : List ℕ) → ((j p : ℕ) → i + j ≡ p → j < length a → limit_stands n b p (get_or a j 0) ≡ true)
    → own_stand n b i a ≡ true
unfolding own_stand
own_all n b i [] h = refl
own_all n b i (x ∷ a) h =
    (and_true_iff (limit_stands n b i x) _).1
    (h 0 i (omega arith) (omega arith), own_all n b (i + 1) a (λ j p q g. h (suc j) p (omega arith) (omega arith)))

-- of limits that stand, the value at the place j
module _ (k : Parameters) (e : limits_stand k ≡ true) where
  stands_at : (j : ℕ) → j < 96 → limit_stands k.n k.b (1 + j) (get_or k.a j 0) ≡ true
  stands_at j h = let parts = limits_parts k e in own_at k.n k.b 1 k.a j (1 + j) refl (omega arith) parts.own

  pub limit_within : (j : ℕ) → j < k.n → j < 96 → (1 ≤ get_or k.a j 0) × (get_or k.a j 0 < k.b)
  limit_within j h g = (simp tests at (stands_at j g)).0 (omega arith)

  past_end : (j : ℕ) → 96 ≤ j → get_or k.a j 0 ≡ 0
  past_end j h = let parts = limits_parts k e in get_or-eq_default k.a 0 (omega arith)

  pub limit_zero : (j : ℕ) → k.n ≤ j → get_or k.a j 0 ≡ 0
  limit_zero j h = if_lt j 96 (λ g. (simp tests at (stands_at j g)).1 (omega arith)) (past_end j)

  -- whichever process has it, no a is past c
  pub limit_held : (i : ℕ) → limit_in k i ≤ k.c
  unfolding limit_at
  limit_held i =
      let parts = limits_parts k e in
      if_lt (i - 1) k.n
      (λ h. if_lt (i - 1) 96 (λ g. omega (arith, limit_within (i - 1) h g)) (λ g. omega (arith, past_end (i - 1) g)))
      (λ h. omega (arith, limit_zero (i - 1) h))

  -- nor past the most that c may be
  pub limit_fits : (i : ℕ) → limit_in k i ≤ 10_000_000
  limit_fits i = omega (arith, limit_held i, (limits_parts k e).most)

-- The largest

pub greatest_bounds : (a : List ℕ) (j : ℕ) → get_or a j 0 ≤ greatest a
unfolding greatest
greatest_bounds [] j = omega arith
greatest_bounds (x ∷ a) zero = omega arith
greatest_bounds (x ∷ a) (suc j) = omega (arith, greatest_bounds a j)

-- What a list stands for

-- its first 96 numbers, where it has as many
pub limits_whole : (a rest : List ℕ) → length a ≡ 96 → limits_in (a ++ rest) ≡ a
unfolding limits_in
limits_whole a rest size =
    ap (λ (m : ℕ). take 96 (a ++ rest) ++ replicate m 0) {x = 96 - length (a ++ rest)} {y = 0} (omega (arith, length-append a rest))
    ∙ append-nil (take 96 (a ++ rest)) ∙ rw size at (take-append_seam a rest)
