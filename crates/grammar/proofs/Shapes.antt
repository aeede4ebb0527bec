-- The first lines of either shape: what parameters that stand say of their numbers, how the lines of the limits and the names of the steps make
-- the first lines, and how many bytes and lines these have. Assumes nothing.
use Prim.Native.Nat.{ℕ, suc, ◌+◌, ◌≤◌, ◌<◌}
use mathlib.Core.Path.{◌≡◌, refl, sym, ap, ◌∙◌, subst, subst₂}
use mathlib.Core.Bool.{true}
use mathlib.Core.List.{List, [], ◌∷◌, ◌++◌, append_assoc}
use native.Mathlib.Omega.{arith}
use lib.ListN.{length, get_or, take, replicate, length-append, length-replicate, get_or-replicate}
use lib.Seq.{length-take-le, get_or-take}
use Rattle.model.specs.declared.Parameters.{Parameters}
use Rattle.model.specs.States.{parameters_of, limits_in, count_stands, limits_stand, parameters_stand}
use Rattle.model.specs.Texts.{value_names, values_text, limit_names, limits_text, event_names, head_text, first_line}
use Rattle.model.specs.Texts.{former_names, former_parameters, former_values_text, former_head_text}
use Rattle.model.proofs.Tests.{and_true_iff, tests}
use Rattle.model.proofs.OwnLimits.{LimitsParts, limits_parts, limit_within, limit_zero}
use Rattle.grammar.specs.Digits.{digits_of, Few}
use Rattle.grammar.specs.Exact.{FirstLines}
use Rattle.grammar.specs.Faults.{LimitLines}
use Rattle.grammar.proofs.Lines.{numbers_long, few}
use Rattle.grammar.proofs.LinesOfA.{limits_long, limits_front, limits_back}

-- Parameters that stand

pub record CountParts (n : ℕ) : Type 0 where
  pub some : 1 ≤ n
  pub most : n ≤ 96

pub count_parts : (n : ℕ) → count_stands n ≡ true → CountParts n
count_parts n e = let h = simp tests at e in record { some = h.0; most = h.1 }

-- each is so small as to have few digits
few_all : (l : List ℕ) → ((j : ℕ) → j < length l → digits_of (get_or l j 0) ≤ 8) → Few l
few_all [] h = tt
few_all (x ∷ l) h = (h 0 (omega arith), few_all l (λ j g. h (suc j) (omega arith)))

module _ (k : Parameters) (e : parameters_stand k ≡ true) where
  pub stand_count : CountParts k.n
  stand_count = count_parts k.n ((and_true_iff (count_stands k.n) (limits_stand k)).0 e).0

  limits-stand : limits_stand k ≡ true
  limits-stand = ((and_true_iff (count_stands k.n) (limits_stand k)).0 e).1

  pub stand_limits : LimitsParts k
  stand_limits = limits_parts k limits-stand

  stand_below : (j : ℕ) → j < k.n → get_or k.a j 0 < k.b
  stand_below j h = let c = stand_count in (limit_within k limits-stand j h (omega arith)).1

  -- their values are those of the first n
  pub stand_back : limits_in (take k.n k.a) ≡ k.a
  stand_back = limits_back k.n k.a stand_limits.size stand_count.most (limit_zero k limits-stand)

  pub stand_many : length (take k.n k.a) ≡ k.n
  stand_many = let c = stand_count in let l = stand_limits in length-take-le k.n k.a (omega arith)

  pub stand_few : Few (k.n ∷ k.b ∷ k.c ∷ take k.n k.a)
  stand_few =
      let c = stand_count in
      let l = stand_limits in
      let many = stand_many in (
        (few k.n).0 (omega arith),
        (
          (few k.b).0 (omega arith),
          (
            (few k.c).0 (omega arith),
            few_all (take k.n k.a) (λ j h.
                rw (get_or-take k.n k.a j 0 (omega arith)) ((few (get_or k.a j 0)).0 (omega (arith, stand_below j (omega arith))))),
          ),
        ),
      )

-- the one value of the former shape is among them
former_few : (n a b c : ℕ) → parameters_stand (former_parameters n a b c) ≡ true → Few (n ∷ a ∷ b ∷ c ∷ [])
former_few n a b c e =
    let k : Parameters = former_parameters n a b c in
    let t = stand_count k e in
    let l = stand_limits k e in
    let size = length-replicate n a in
    let front : take n (limits_in (replicate n a)) ≡ replicate n a = rw size at (limits_front (replicate n a) (omega arith)) in
    let same : get_or k.a 0 0 ≡ a = sym (get_or-take n k.a 0 0 t.some) ∙ (ap (λ (m : List ℕ). get_or m 0 0) front ∙ get_or-replicate n 0 a 0 t.some) in
    let below : a < b = omega (arith, stand_below k e 0 t.some) in
    ((few n).0 (omega arith), ((few a).0 (omega arith), ((few b).0 (omega arith), ((few c).0 (omega arith), tt))))

-- Lines of limits, and first lines

-- the names of the steps follow the lines of the limits
pub first_lines : {k : Parameters} {first : List ℕ} {line : ℕ} → LimitLines k first line → parameters_stand k ≡ true
    → FirstLines k (first ++ event_names) (line + 1 + 1)
unfolding head_text first_line former_head_text
first_lines (LimitLines.new n b c a many digits) e =
    let k : Parameters = parameters_of n b c (limits_in a) in
    let t = stand_count k e in
    let front : take n (limits_in a) ≡ a = rw many at (limits_front a (omega arith)) in
    let is : head_text k ≡ value_names ++ (values_text n b c ++ (limit_names ++ limits_text 1 a)) ++ event_names =
    rw (front, append_assoc (values_text n b c) (limit_names ++ limits_text 1 a) event_names) in
    subst₂ (FirstLines k) is (omega arith) (FirstLines.new k)
first_lines (LimitLines.former n a b c digits) e = FirstLines.former n a b c

-- so the first lines are made
pub record Limited (k : Parameters) (head : List ℕ) (line : ℕ) : Type 0 where
  pub first : List ℕ
  pub last : ℕ
  pub lines : LimitLines k first last
  pub head_is : head ≡ first ++ event_names
  pub line-is : line ≡ last + 1 + 1

pub limited : {k : Parameters} {head : List ℕ} {line : ℕ} → FirstLines k head line → parameters_stand k ≡ true → Limited k head line
unfolding head_text first_line former_head_text
limited (FirstLines.new k) e =
    let a : List ℕ = take k.n k.a in
    let first : List ℕ = value_names ++ (values_text k.n k.b k.c ++ (limit_names ++ limits_text 1 a)) in
    record {
      first = first;
      last = k.n + 3;
      lines =
          subst (λ (l : List ℕ). LimitLines (parameters_of k.n k.b k.c l) first (k.n + 3)) (stand_back k e)
          (LimitLines.new k.n k.b k.c a (stand_many k e) (stand_few k e));
      head_is = rw (append_assoc (values_text k.n k.b k.c) (limit_names ++ limits_text 1 a) event_names);
      line-is = omega arith;
    }
limited (FirstLines.former n a b c) e = record {
  first = former_names ++ former_values_text n a b c;
  last = 2;
  lines = LimitLines.former n a b c (former_few n a b c e);
  head_is = refl;
  line-is = refl;
}

-- How many bytes and lines they have

head_sized : (k : Parameters)
    → length (head_text k) ≡ 37 + length (values_text k.n k.b k.c) + length (limits_text 1 (take k.n k.a))
unfolding head_text
head_sized k =
    let a : List ℕ = limits_text 1 (take k.n k.a) in
    omega (arith, length-append (values_text k.n k.b k.c) (limit_names ++ (a ++ event_names)), length-append a event_names)

-- the lines of names, and each number with a digit and the byte that ends it
pub first_long : {k : Parameters} {head : List ℕ} {line : ℕ} → FirstLines k head line → 38 ≤ length head
unfolding head_text former_head_text values_text former_values_text
first_long (FirstLines.new k) = omega (arith, head_sized k, numbers_long k.n (k.b ∷ k.c ∷ []))
first_long (FirstLines.former n a b c) = omega (arith, length-append (former_values_text n a b c) event_names, numbers_long n (a ∷ b ∷ c ∷ []))

-- the line of the first step has a number, and each line before it has a byte
pub first-line : {k : Parameters} {head : List ℕ} {line : ℕ} → FirstLines k head line → parameters_stand k ≡ true → (0 < line) × (line ≤ length head)
unfolding head_text first_line
first-line (FirstLines.new k) e = (omega arith, omega (arith, head_sized k, limits_long 1 (take k.n k.a), stand_many k e))
first-line (FirstLines.former n a b c) e = (omega arith, omega (arith, first_long (FirstLines.former n a b c)))
