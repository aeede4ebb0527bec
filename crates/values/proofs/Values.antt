-- Laws of the values of a: one look at the top bit of all of them, the values up to n and those past it, and 96 of which the first are
-- written over. Assumes nothing.
use Rattle.std.proofs.Common.{◌≡◌, ℕ, zero, suc, ◌+◌, ◌-◌, ◌%◌, ◌^◌, ◌<◌, ◌≤◌, Bool, true, false, ◌&&◌, ltb, leb, List, [], ◌∷◌, ◌++◌}
use Rattle.std.proofs.lemmas.List.{drop-replicate, take-replicate, length-replicate, take_min}
use Rattle.std.proofs.Common.{min, length, get_or, take, drop, replicate, sym, refl, ap, ◌∙◌, arith}
use Rattle.std.proofs.Common.{le-ltb, lt-ltb, eq-eqb, le-leb}
use mathlib.Core.Bool.{and_assoc, and-true}
use lib.Bits.{bit_or, or_add_and, and_le_l, and_le_r, or_lt}
use borrow.Author.Tests.{lt-leb}
use Rattle.model.specs.declared.Parameters.{Parameters}
use Rattle.model.specs.States.{parameters_of, count_stands, own_stand, limits_stand, parameters_stand, limits_in, equal_limits}
use Rattle.values.specs.Bits.{are_zero}
use Rattle.values.specs.Within.{top_bit, within}
use Rattle.model.proofs.Tests.{by_test, if_lt, clash}
use Rattle.model.proofs.OwnLimits.{limits_parts}
use Rattle.model.proofs.Lists.{drop_at, drop_end}

-- The top bit

-- of the bits of two numbers together it is 0 just where it is 0 in both
pub top_of_both : (p q : ℕ) → ltb (bit_or p q) top_bit ≡ (ltb p top_bit && ltb q top_bit)
top_of_both p q = if_lt p top_bit
    (λ h. if_lt q top_bit (λ g. rw (lt-ltb (bit_or p q) top_bit (or_lt 63 p q h g), lt-ltb p top_bit h, lt-ltb q top_bit g) refl)
    (λ g. rw (le-ltb (bit_or p q) top_bit (right g), lt-ltb p top_bit h, le-ltb q top_bit g) refl))
    (λ h. rw (le-ltb (bit_or p q) top_bit (left h), le-ltb p top_bit h) refl)
  where
    left : top_bit ≤ p → top_bit ≤ bit_or p q
    left h = omega (arith, or_add_and p q, and_le_r p q)

    right : top_bit ≤ q → top_bit ≤ bit_or p q
    right h = omega (arith, or_add_and p q, and_le_l p q)

-- `less` is x - 1 and `over` is b - 2 - less, both as they wrap
module _ (x b less over : ℕ) (low : 2 ≤ b) (high : b ≤ 10_000_000) (l : less < 2 ^ 64) (o : over < 2 ^ 64)
    (e : (less + 1) % 2 ^ 64 ≡ x) (f : (over + less) % 2 ^ 64 ≡ b - 2) where
  both_low : less < top_bit → over < top_bit → (1 ≤ x) × (x < b)
  both_low h g = (omega arith, omega arith)

  within_low : 1 ≤ x → x < b → (less < top_bit) × (over < top_bit)
  within_low h g = (omega arith, omega arith)

  pub top_tells : ltb (bit_or less over) top_bit ≡ (leb 1 x && ltb x b)
  top_tells = top_of_both less over ∙ if_lt less top_bit
      (λ h. if_lt over top_bit
      (λ g. let k = both_low h g in rw (lt-ltb _ _ h, lt-ltb _ _ g, le-leb 1 x k.0, lt-ltb x b k.1) refl)
      (λ g. rw (lt-ltb _ _ h, le-ltb _ _ g) (sym (outside (λ a k. absurd (omega (arith, (within_low a k).1)))))))
      (λ h. rw (le-ltb _ _ h) (sym (outside (λ a k. absurd (omega (arith, (within_low a k).0))))))
    where
      outside : (1 ≤ x → x < b → ⊥) → (leb 1 x && ltb x b) ≡ false
      outside n = if_lt x 1 (λ a. rw (lt-leb 1 x a) refl)
          (λ a. if_lt x b (λ k. absurd (n a k)) (λ k. rw (le-leb 1 x a, le-ltb x b k) refl))

-- a turn of the pass, and its end
pub within_next : (b bits fault : ℕ) (a : List ℕ) (i : ℕ) → i < length a
    → ltb fault top_bit ≡ (leb 1 (get_or a i 0) && ltb (get_or a i 0) b)
    → (ltb (bit_or bits fault) top_bit && within b (drop (i + 1) a)) ≡ (ltb bits top_bit && within b (drop i a))
unfolding within
within_next b bits fault a i h e =
    rw (drop_at a i 0 h, top_of_both bits fault, e) (and_assoc (ltb bits top_bit) (leb 1 (get_or a i 0) && ltb (get_or a i 0) b) (within b (drop (i + 1) a)))

pub within_end : (b bits : ℕ) (a : List ℕ) (i : ℕ) → length a ≡ i → (ltb bits top_bit && within b (drop i a)) ≡ ltb bits top_bit
unfolding within
within_end b bits a i e = rw (drop_end a i (omega arith) (omega arith)) (and-true (ltb bits top_bit))

-- Up to n, and past it

own_above : (n b i : ℕ) (a : List ℕ) → n < i → own_stand n b i a ≡ are_zero a
unfolding own_stand are_zero
own_above n b i [] h = refl
own_above n b i (x ∷ a) h = rw (lt-leb i n h, own_above n b (i + 1) a (omega arith)) refl

own_split : (n b i m : ℕ) (a : List ℕ) → i + m ≡ n + 1 → own_stand n b i a ≡ (within b (take m a) && are_zero (drop m a))
unfolding own_stand are_zero within
own_split n b i zero a e = own_above n b i a (omega arith)
own_split n b i (suc m) [] e = refl
own_split n b i (suc m) (x ∷ a) e =
    rw (le-leb i n (omega arith), own_split n b (i + 1) m a (omega arith))
    (sym (and_assoc (leb 1 x && ltb x b) (within b (take m a)) (are_zero (drop m a))))

pub own_is : (n b : ℕ) (a : List ℕ) → own_stand n b 1 a ≡ (within b (take n a) && are_zero (drop n a))
own_is n b a = own_split n b 1 n a (omega arith)

-- no a is below a b below 2
pub no_limit : (n b : ℕ) (a : List ℕ) → 1 ≤ n → 0 < length a → b < 2 → own_stand n b 1 a ≡ false
unfolding own_stand
no_limit n b [] h k l = absurd (omega arith)
no_limit n b (x ∷ a) h k l = rw (le-leb 1 n h) (if_lt x 1 (λ e. rw (lt-leb 1 x e) refl) (λ e. rw (le-leb 1 x e, le-ltb x b (omega arith)) refl))

-- The parameters

pub not_stand : (k : Parameters) → (limits_stand k ≡ true → ⊥) → false ≡ parameters_stand k
not_stand k n = by_test (limits_stand k) (λ e. absurd (n e)) (λ e. rw e (no_more (count_stands k.n)))
  where
    no_more : (t : Bool) → false ≡ (t && false)
    no_more true = refl
    no_more false = refl

module _ (n b c : ℕ) (a : List ℕ) where
  -- a value up to n does not stand
  pub not_within : within b (take n a) ≡ false → false ≡ parameters_stand (parameters_of n b c a)
  not_within f = not_stand (parameters_of n b c a) (λ e. clash (own_true e) (own_is n b a ∙ rw f refl))
    where
      own_true : limits_stand (parameters_of n b c a) ≡ true → own_stand n b 1 a ≡ true
      own_true e = (limits_parts (parameters_of n b c a) e).own

  -- past the others, the values past n decide
  pub rest_decides : count_stands n ≡ true → length a ≡ 96 → b ≤ c → c ≤ 10_000_000 → within b (take n a) ≡ true
      → are_zero (drop n a) ≡ parameters_stand (parameters_of n b c a)
  unfolding limits_stand
  rest_decides count size order most w =
      rw (count, eq-eqb (length a) 96 size, own_is n b a, w, le-leb b c order, le-leb c 10_000_000 most) (true_more (are_zero (drop n a)))
    where
      true_more : (t : Bool) → t ≡ ((t && true) && true)
      true_more true = refl
      true_more false = refl

-- 96 values, of which the first are written over

pub written_over : (l part : List ℕ) (k : ℕ) → k ≡ min (length l) 96 → part ≡ take k l → part ++ drop k (replicate 96 0) ≡ limits_in l
unfolding limits_in
written_over l part k e f = ap (λ (r : List ℕ). r ++ drop k (replicate 96 0)) (f ∙ first) ∙ ap (λ (r : List ℕ). take 96 l ++ r) rest
  where
    first : take k l ≡ take 96 l
    first = ap (λ (m : ℕ). take m l) {x = k} {y = min 96 (length l)} (omega arith) ∙ take_min 96 l

    rest : drop k (replicate {A = ℕ} 96 0) ≡ replicate (96 - length l) 0
    rest = drop-replicate k 96 0 ∙ ap (λ (m : ℕ). replicate {A = ℕ} m 0) {x = 96 - k} {y = 96 - length l} (omega arith)

-- as many of them as there are processes, with the same value each
pub filled_over : (n limit k : ℕ) (old part : List ℕ) → k ≡ min n 96 → length old ≡ k → part ≡ replicate (length old) limit
    → part ++ drop k (replicate 96 0) ≡ equal_limits n limit
filled_over n limit k old part e size f =
    written_over (replicate n limit) part k (omega (arith, length-replicate n limit))
    (f ∙ rw size (sym (take-replicate k n limit (omega arith))))
