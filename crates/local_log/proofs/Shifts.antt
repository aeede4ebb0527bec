-- The shifts that serve two logs whose times are in time: an interval, between the largest and the smallest difference, of which the least is
-- told. Assumes nothing.
use Rattle.std.proofs.Common.{◌≡◌, ℕ, ◌+◌, ◌-◌, ◌≤◌, ◌↔◌, List, [], ◌∷◌, ℤ, ◌≤ℤ◌, sym, subst, arith, le-ltb, lt-ltb}
use lib.IntN.{sub_ℕ}
use Rattle.model.specs.States.{last_time}
use Rattle.model.proofs.Tests.{if_lt}
use Rattle.local_log.specs.declared.passes.Differences.{Differences}
use Rattle.local_log.specs.Comparisons.{Entry, times_in, InTime, Within, SameActions, Near, AllNear, Serves, Least, Compared, no_shift, agree}
use Rattle.local_log.specs.Passes.{difference, no_differences, noted, all_from, lowest, highest, bounded_of}
use Rattle.local_log.proofs.Integers.{pos_is, neg_is, sub_le, from_neg}
use Rattle.local_log.proofs.Orders.{near_across}

-- One place, at the shift that is w less the clock's end

module _ (e w : ℕ) where
  abbrev shift : ℤ
  shift = sub_ℕ w last_time

  between : Entry → Entry → Type 0
  between x y = (difference x.time y.time ≤ w + e) × (w ≤ difference x.time y.time + e)

  near_iff : (x y : Entry) → x.time ≤ last_time → Near e shift x y ↔ between x y
  unfolding between
  near_iff x y h =
      let n = near_across e w last_time x y in
      (λ k. (omega (arith, n.0 k), omega (arith, n.0 k)), λ (k : between x y). n.1 (omega (arith, k.0, k.1)))

  -- it lies between those that p has kept
  abbrev Between : Differences → Type 0
  Between p = (p.largest ≤ w + e) × (w ≤ p.smallest + e)

  -- all places
  all_near_iff : (p : Differences) (xs ys : List Entry) → InTime xs → InTime ys
      → (Between p × AllNear e shift xs ys) ↔ Between (all_from p (times_in xs) (times_in ys))
  unfolding all_from noted between
  all_near_iff p [] ys s t = (λ b. b.0, λ b. (b, tt))
  all_near_iff p (x ∷ xs) [] s t = (λ b. b.0, λ b. (b, tt))
  all_near_iff p (x ∷ xs) (y ∷ ys) s t =
      let more = all_near_iff (noted p x.time y.time) xs ys s.1 t.1 in
      let near = near_iff x y s.0 in (
        λ b. more.0 ((omega (arith, b.0, near.0 b.1.0), omega (arith, b.0, near.0 b.1.0)), b.1.1),
        λ b. let k = more.1 b in
            ((omega (arith, k.0), omega (arith, k.0)), (near.1 (omega (arith, k.0), omega (arith, k.0)), k.1)),
      )

-- All shifts

module _ (d e : ℕ) (xs ys : List Entry) (bounds : Within d e xs ys) where
  abbrev kept : Differences
  kept = all_from no_differences (times_in xs) (times_in ys)

  abbrev low : ℕ
  low = lowest kept.largest d e

  -- they are those of an interval
  pub record Inside (w : ℕ) : Type 0 where
    pub above : low ≤ w
    pub in_range : w ≤ last_time + d
    pub below : w ≤ kept.smallest + e

  serves_inside : (w : ℕ) → Serves d e xs ys (sub_ℕ w last_time) → Inside w
  serves_inside w s =
      let from = (sub_le (last_time - d) w last_time).0 (subst (λ (z : ℤ). z ≤ℤ sub_ℕ w last_time) (neg_is d last_time (omega (arith, bounds.range))) s.from) in
      let to = (sub_le w (last_time + d) last_time).0 (subst (λ (z : ℤ). sub_ℕ w last_time ≤ℤ z) (pos_is d last_time) s.to) in
      let between = (all_near_iff e w no_differences xs ys bounds.local_times bounds.other_times).0 ((omega arith, omega arith), s.near) in
      record { above = omega (arith, from, between.0); in_range = to; below = between.1 }

  inside_serves : (w : ℕ) → Inside w → Serves d e xs ys (sub_ℕ w last_time)
  inside_serves w i = record {
    from = subst (λ (z : ℤ). z ≤ℤ sub_ℕ w last_time) (sym (neg_is d last_time (omega (arith, bounds.range))))
        ((sub_le (last_time - d) w last_time).1 (omega (arith, i.above)));
    to = subst (λ (z : ℤ). sub_ℕ w last_time ≤ℤ z) (sym (pos_is d last_time)) ((sub_le w (last_time + d) last_time).1 i.in_range);
    near = ((all_near_iff e w no_differences xs ys bounds.local_times bounds.other_times).1 (omega (arith, i.above), i.below)).1;
  }

  -- a shift that serves is in it
  found : (s : ℤ) → Serves d e xs ys s → (w : ℕ) × (s ≡ sub_ℕ w last_time) × Inside w
  found s h =
      let w = from_neg d last_time (omega (arith, bounds.range)) s h.from in
      (w.0, w.1, serves_inside w.0 (subst (Serves d e xs ys) w.1 h))

  none : (low ≤ last_time + d → low ≤ kept.smallest + e → ⊥) → (s : ℤ) → Serves d e xs ys s → ⊥
  none empty s h =
      let f = found s h in
      empty (omega (arith, f.2.above, f.2.in_range)) (omega (arith, f.2.above, f.2.below))

  least_is : low ≤ last_time + d → low ≤ kept.smallest + e → Least d e xs ys (sub_ℕ low last_time)
  least_is h g = record {
    serves = inside_serves low (record { above = omega arith; in_range = h; below = g });
    least = λ s k. let f = found s k in
        subst (λ (z : ℤ). sub_ℕ low last_time ≤ℤ z) (sym f.1) ((sub_le low f.0 last_time).1 f.2.above);
  }

  -- so the interval tells the answer
  pub bounded_compared : SameActions xs ys → Compared d e xs ys (bounded_of kept.smallest kept.largest d e)
  unfolding bounded_of
  bounded_compared a = if_lt (highest kept.smallest d e) low
      (λ h. rw (lt-ltb _ _ h) (no_shift bounds a (none (λ k l. omega arith))))
      (λ h. rw (le-ltb _ _ h) (agree bounds a (sub_ℕ low last_time) (least_is (omega arith) (omega arith))))
