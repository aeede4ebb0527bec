-- The order of whole numbers by the sums across, and the shifts between which two entries are near. Assumes nothing.
use Rattle.std.proofs.Common.{◌≡◌, ℕ, suc, ◌+◌, ◌-◌, ◌≤◌, true, false, T, ◌↔◌, ℤ, pos, negsuc, ◌+ℤ◌, ◌-ℤ◌, neg_ℤ, ◌≤ℤ◌, sym, ap, ◌∙◌, subst, arith, le→leb}
use lib.IntN.{sub_ℕ}
use lib.Signed.{le_z, le_z_yes, ≤ℤ_refl}
use Rattle.model.proofs.Tests.{by_test, if_lt, clash}
use Rattle.local_log.specs.Comparisons.{Entry, Near}
use Rattle.local_log.proofs.Integers.{sub_same, pos_is, neg_is, pos_add, add_pos, neg_sub, pos_less, nat-abs, sub_le}

-- Every whole number is a difference

pub record Difference (s : ℤ) : Type 0 where
  pub more : ℕ
  pub less : ℕ
  pub is : s ≡ sub_ℕ more less

pub difference_of : (s : ℤ) → Difference s
difference_of (pos n) = record { more = n; less = 0; is = pos_is n 0 ∙ sub_same (0 + n) 0 n 0 (omega arith) }
difference_of (negsuc n) = record {
  more = 0;
  less = suc n;
  is = neg_is (suc n) (suc n) (omega arith) ∙ sub_same (suc n - suc n) (suc n) 0 (suc n) (omega arith);
}

-- Order

-- by the sums across
pub across : (a b c d : ℕ) → (sub_ℕ a b ≤ℤ sub_ℕ c d) ↔ (a + d ≤ c + b)
across a b c d =
    rw (sub_same a b (a + d) (b + d) (omega arith), sub_same c d (c + b) (b + d) (omega arith)) (sub_le (a + d) (c + b) (b + d))

module _ {s t : ℤ} where
  pub ≤ℤ-antisym : s ≤ℤ t → t ≤ℤ s → s ≡ t
  ≤ℤ-antisym h g =
      let x = difference_of s in
      let y = difference_of t in
      x.is ∙ sub_same x.more x.less y.more y.less
      (omega (
        arith,
        (across x.more x.less y.more y.less).0 (rw (x.is, y.is) at h),
        (across y.more y.less x.more x.less).0 (rw (x.is, y.is) at g),
      )) ∙ sym y.is

module _ {s t u : ℤ} where
  pub ≤ℤ-trans : s ≤ℤ t → t ≤ℤ u → s ≤ℤ u
  ≤ℤ-trans h g =
      let x = difference_of s in
      let y = difference_of t in
      let z = difference_of u in
      rw (x.is, z.is)
      ((across x.more x.less z.more z.less).1
      (omega (
        arith,
        (across x.more x.less y.more y.less).0 (rw (x.is, y.is) at h),
        (across y.more y.less z.more z.less).0 (rw (y.is, z.is) at g),
      )))

-- -d is not above d
pub neg_below : (d : ℕ) → neg_ℤ (pos d) ≤ℤ pos d
neg_below d =
    rw (neg_is d d (omega arith), pos_is d d) ((sub_le (d - d) (d + d) d).1 (omega arith))

pub pos_order : (a b : ℕ) → a ≤ b → pos a ≤ℤ pos b
pos_order a b h = record { le = le→leb a b h }

-- Near entries

-- the bound below which no shift brings an entry near
abbrev pub lowest_for : ℕ → Entry → Entry → ℤ
lowest_for e x y = pos y.time -ℤ (pos x.time +ℤ pos e)

lowest_is : (e : ℕ) (x y : Entry) → lowest_for e x y ≡ sub_ℕ y.time (x.time + e)
lowest_is e x y =
    ap (λ (z : ℤ). pos y.time -ℤ z) (pos_is (x.time + e) 0) ∙ pos_less y.time (0 + (x.time + e)) 0
    ∙ sub_same (y.time + 0) (0 + (x.time + e)) y.time (x.time + e) (omega arith)

off : (x y : Entry) (a b : ℕ) → pos y.time -ℤ (pos x.time +ℤ sub_ℕ a b) ≡ sub_ℕ (y.time + b) (x.time + a)
off x y a b = ap (λ (z : ℤ). pos y.time -ℤ z) (pos_add x.time a b) ∙ pos_less y.time (x.time + a) b

-- the shift a less b brings them near
pub near_across : (e a b : ℕ) (x y : Entry)
    → Near e (sub_ℕ a b) x y ↔ ((y.time + b ≤ x.time + a + e) × (x.time + a ≤ y.time + b + e))
near_across e a b x y = rw (off x y a b) (nat-abs (y.time + b) (x.time + a) e)

-- and is not below the bound
pub lowest_across : (e a b : ℕ) (x y : Entry) → (lowest_for e x y ≤ℤ sub_ℕ a b) ↔ (y.time + b ≤ a + (x.time + e))
lowest_across e a b x y = rw (lowest_is e x y) (across y.time (x.time + e) a b)

module _ (e : ℕ) (x y : Entry) (s : ℤ) where
  pub near_lowest : Near e s x y → lowest_for e x y ≤ℤ s
  near_lowest n =
      let z = difference_of s in
      rw z.is ((lowest_across e z.more z.less x y).1 (omega (arith, (near_across e z.more z.less x y).0 (rw z.is at n))))

  -- what lies between the bound and a shift that brings them near does so too
  pub near_between : (t : ℤ) → lowest_for e x y ≤ℤ t → t ≤ℤ s → Near e s x y → Near e t x y
  near_between t l h n =
      let z = difference_of s in
      let w = difference_of t in
      rw w.is
      ((near_across e w.more w.less x y).1
      (omega (
        arith,
        (lowest_across e w.more w.less x y).0 (rw w.is at l),
        (across w.more w.less z.more z.less).0 (rw (w.is, z.is) at h),
        (near_across e z.more z.less x y).0 (rw z.is at n),
      )))

  -- two of them are not further apart than twice e
  pub near_apart : (t : ℤ) → Near e s x y → Near e t x y → s ≤ℤ (t +ℤ pos (e + e))
  near_apart t n m =
      let z = difference_of s in
      let w = difference_of t in
      rw (z.is, w.is, add_pos w.more w.less (e + e))
      ((across z.more z.less (w.more + (e + e)) w.less).1
      (omega (
        arith,
        (near_across e z.more z.less x y).0 (rw z.is at n),
        (near_across e w.more w.less x y).0 (rw w.is at m),
      )))

  -- with more tolerance
  pub near_looser : (f : ℕ) → e ≤ f → Near e s x y → Near f s x y
  near_looser f h n = omega (arith, n)

  -- the other way round
  pub near_round : Near e s x y → Near e (neg_ℤ s) y x
  near_round n =
      let z = difference_of s in
      rw (z.is, neg_sub z.more z.less)
      ((near_across e z.less z.more y x).1 (omega (arith, (near_across e z.more z.less x y).0 (rw z.is at n))))

-- the bound itself: there the other time is the local one, the shift and e together
pub touches_lowest : (e : ℕ) (x y : Entry) → pos y.time ≡ pos x.time +ℤ lowest_for e x y +ℤ pos e
touches_lowest e x y =
    rw (lowest_is e x y, pos_add x.time y.time (x.time + e), add_pos (x.time + y.time) (x.time + e) e)
    (pos_is y.time 0 ∙ sub_same (0 + y.time) 0 (x.time + y.time + e) (x.time + e) (omega arith))

-- a shift at which they touch is not above one that brings them near
pub touches_least : (e : ℕ) (x y : Entry) (s t : ℤ) → pos y.time ≡ pos x.time +ℤ s +ℤ pos e → Near e t x y → s ≤ℤ t
touches_least e x y s t h n =
    let z = difference_of s in
    let w = difference_of t in
    rw (z.is, w.is)
    ((across z.more z.less w.more w.less).1
    (omega (arith, met z, (near_across e w.more w.less x y).0 (rw w.is at n))))
  where
    sum : (z : Difference s) → pos x.time +ℤ s +ℤ pos e ≡ sub_ℕ (x.time + z.more + e) z.less
    sum z = rw (z.is, pos_add x.time z.more z.less, add_pos (x.time + z.more) z.less e)

    met : (z : Difference s) → x.time + z.more + e ≤ y.time + z.less
    met z = omega (
      arith,
      (across (x.time + z.more + e) z.less (0 + y.time) 0).0
          (rw (← sum z, ← h, ← pos_is y.time 0) (≤ℤ_refl (pos y.time))),
    )

-- Tests

pub le_test : (a b : ℤ) → le_z a b ≡ true → a ≤ℤ b
le_test a b e = le_z_yes (subst T (sym e) tt)

pub le_true : (a b : ℤ) → a ≤ℤ b → le_z a b ≡ true
le_true a b h = by_test (le_z a b) (λ e. e) (λ e. absurd (subst T e h.le))

-- of two whole numbers one is not above the other
pub le_other : (a b : ℤ) → le_z a b ≡ false → b ≤ℤ a
le_other a b e =
    let x = difference_of a in
    let y = difference_of b in
    if_lt (x.more + y.less) (y.more + x.less)
    (λ h. clash (le_true a b (rw (x.is, y.is) ((across x.more x.less y.more y.less).1 (omega arith)))) e)
    (λ h. rw (x.is, y.is) ((across y.more y.less x.more x.less).1 (omega arith)))

-- the other sign turns the order round
pub neg_order : (a b : ℤ) → a ≤ℤ b → neg_ℤ b ≤ℤ neg_ℤ a
neg_order a b h =
    let x = difference_of a in
    let y = difference_of b in
    rw (x.is, y.is, neg_sub x.more x.less, neg_sub y.more y.less)
    ((across y.less y.more x.less x.more).1
    (omega (arith, (across x.more x.less y.more y.less).0 (rw (x.is, y.is) at h))))
