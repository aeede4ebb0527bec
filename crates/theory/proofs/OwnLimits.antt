-- The limits in plain facts, which `limits_stand` tells, and the largest a: what the theorems ask of limits, apart from any state.
-- Assumes nothing.
use Prim.Native.Nat.{ℕ, suc, ◌-◌, ◌≤◌, ◌<◌}
use mathlib.Core.Path.{◌≡◌, sym, ap, ◌∙◌}
use mathlib.Core.Logic.{◌↔◌}
use mathlib.Core.Bool.{true}
use mathlib.Core.List.{List, [], ◌∷◌}
use native.Mathlib.Omega.{arith}
use lib.ListN.{length, get_or, take}
use lib.Seq.{get_or-take, length-take-le}
use Rattle.model.specs.declared.Parameters.{Parameters}
use Rattle.model.specs.States.{limits_stand, greatest, largest_limit}
use Rattle.theory.specs.Soundness.{CountStands, LimitsStand, ParametersStand, LargestIsPlain}
use Rattle.model.proofs.Tests.{if_lt, tests}
use Rattle.model.proofs.OwnLimits.{limits_parts, parts_limits, own_all, limit_within, limit_zero, greatest_bounds}

-- Which stand

module _ (k : Parameters) (count : CountStands k.n) where
  limits_plain : limits_stand k ≡ true → LimitsStand k
  limits_plain e =
      let h = limits_parts k e in
      record {
        size = h.size;
        some = λ i some most. (limit_within k e (i - 1) (omega arith) (omega arith)).0;
        apart = λ i some most. (limit_within k e (i - 1) (omega arith) (omega arith)).1;
        above = λ i past. limit_zero k e (i - 1) (omega arith);
        order = h.order;
        most = h.most;
      }

  plain_limits : LimitsStand k → limits_stand k ≡ true
  plain_limits h = parts_limits k (record {
    size = h.size;
    own = own_all k.n k.b 1 k.a (λ j p q g.
        let at : get_or k.a (p - 1) 0 ≡ get_or k.a j 0 = ap (λ (i : ℕ). get_or k.a i 0) (omega arith) in
        simp tests (
          λ most. omega (arith, at, h.some p (omega arith) (omega arith), h.apart p (omega arith) (omega arith)),
          λ past. sym at ∙ h.above p (omega arith),
        ));
    order = h.order;
    most = h.most;
  })

  pub limits_iff_plain : (limits_stand k ≡ true) ↔ LimitsStand k
  limits_iff_plain = (limits_plain, plain_limits)

-- The largest

-- the largest of a list that is not empty stands in it
greatest_at : (a : List ℕ) → 1 ≤ length a → (j : ℕ) × (j < length a) × (get_or a j 0 ≡ greatest a)
unfolding greatest
greatest_at [] h = absurd (omega arith)
greatest_at (x ∷ []) h = (0, omega arith, omega arith)
greatest_at (x ∷ y ∷ a) h =
    let r = greatest_at (y ∷ a) (omega arith) in
    if_lt x (greatest (y ∷ a)) (λ g. (suc r.0, omega arith, omega arith)) (λ g. (0, omega arith, omega arith))

pub largest_is_plain : LargestIsPlain
largest_is_plain k h =
    let size = length-take-le k.n k.a (omega arith) in
    let top = greatest_at (take k.n k.a) (omega arith) in
    record {
      bounds = λ i some most. omega (arith, get_or-take k.n k.a (i - 1) 0 (omega arith), greatest_bounds (take k.n k.a) (i - 1));
      process = suc top.0;
      some = omega arith;
      most = omega arith;
      has = ap (λ (i : ℕ). get_or k.a i 0) (omega arith) ∙ sym (get_or-take k.n k.a top.0 0 (omega arith)) ∙ top.2;
    }

-- no process at all has a larger one
pub largest_bounds : (k : Parameters) → ParametersStand k → (i : ℕ) → 1 ≤ i → get_or k.a (i - 1) 0 ≤ largest_limit k
largest_bounds k h i some = if_lt k.n i
    (λ past. omega (arith, h.limits.above i past))
    (λ most. (largest_is_plain k h).bounds i some most)

-- it stands as each of them does
pub record LargestStands (k : Parameters) : Type 0 where
  pub some : 1 ≤ largest_limit k
  pub apart : largest_limit k < k.b

pub largest_stands : (k : Parameters) → ParametersStand k → LargestStands k
largest_stands k h =
    let l = largest_is_plain k h in
    omega (arith, l.has, h.limits.some l.process l.some l.most, h.limits.apart l.process l.some l.most)
