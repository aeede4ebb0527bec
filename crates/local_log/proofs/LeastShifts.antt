-- The least shift: the one that is worked out is not above any that serves, and serves where any does. Assumes nothing.
use Rattle.std.proofs.Common.{◌≡◌, ℕ, ◌⊎◌, List, [], ◌∷◌, ℤ, pos, neg_ℤ, ◌≤ℤ◌, refl, ◌∙◌, inl, inr}
use lib.Signed.{le_z, ≤ℤ_refl}
use Rattle.model.proofs.Tests.{by_test}
use Rattle.local_log.specs.Comparisons.{Entry, AllNear, Serves, Least}
use Rattle.local_log.specs.Formulas.{greater_of, least_shift}
use Rattle.local_log.specs.Answers.{Touches, here, later, LeastTouches, WhichShift}
use Rattle.local_log.proofs.Orders.{≤ℤ-antisym, ≤ℤ-trans, lowest_for, near_lowest, near_between, touches_lowest, touches_least}
use Rattle.local_log.proofs.Orders.{le_test, le_other}

-- The greater of two

module _ (a b : ℤ) where
  greater_first : a ≤ℤ greater_of a b
  greater_first = by_test (le_z a b) (λ e. rw e (le_test a b e)) (λ e. rw e (≤ℤ_refl a))

  greater_second : b ≤ℤ greater_of a b
  greater_second = by_test (le_z a b) (λ e. rw e (≤ℤ_refl b)) (λ e. rw e (le_other a b e))

  greater_least : (t : ℤ) → a ≤ℤ t → b ≤ℤ t → greater_of a b ≤ℤ t
  greater_least t h g = by_test (le_z a b) (λ e. rw e g) (λ e. rw e h)

-- Over all places

module _ (d e : ℕ) where
  -- it is not below -d
  least_from : (xs ys : List Entry) → neg_ℤ (pos d) ≤ℤ least_shift d e xs ys
  unfolding least_shift
  least_from [] ys = ≤ℤ_refl (neg_ℤ (pos d))
  least_from (x ∷ xs) [] = ≤ℤ_refl (neg_ℤ (pos d))
  least_from (x ∷ xs) (y ∷ ys) = ≤ℤ-trans (least_from xs ys) (greater_second (lowest_for e x y) (least_shift d e xs ys))

  -- and not above a shift that serves
  pub least_below : (s : ℤ) → neg_ℤ (pos d) ≤ℤ s → (xs ys : List Entry) → AllNear e s xs ys → least_shift d e xs ys ≤ℤ s
  unfolding least_shift
  least_below s h [] ys n = h
  least_below s h (x ∷ xs) [] n = h
  least_below s h (x ∷ xs) (y ∷ ys) n =
      greater_least (lowest_for e x y) (least_shift d e xs ys) s (near_lowest e x y s n.0) (least_below s h xs ys n.1)

  -- what lies between it and a shift that brings all entries near does so too
  all_between : (s t : ℤ) (xs ys : List Entry) → least_shift d e xs ys ≤ℤ t → t ≤ℤ s → AllNear e s xs ys → AllNear e t xs ys
  unfolding least_shift
  all_between s t [] ys l h n = tt
  all_between s t (x ∷ xs) [] l h n = tt
  all_between s t (x ∷ xs) (y ∷ ys) l h n = (
    near_between e x y s t (≤ℤ-trans (greater_first (lowest_for e x y) (least_shift d e xs ys)) l) h n.0,
    all_between s t xs ys (≤ℤ-trans (greater_second (lowest_for e x y) (least_shift d e xs ys)) l) h n.1,
  )

  module _ (xs ys : List Entry) where
    -- where any shift serves, it does
    pub least_serves : (s : ℤ) → Serves d e xs ys s → Serves d e xs ys (least_shift d e xs ys)
    least_serves s v =
        let below = least_below s v.from xs ys v.near in
        record {
          from = least_from xs ys;
          to = ≤ℤ-trans below v.to;
          near = all_between s (least_shift d e xs ys) xs ys (≤ℤ_refl (least_shift d e xs ys)) below v.near;
        }

    -- so that it is the least
    pub least_is : Serves d e xs ys (least_shift d e xs ys) → Least d e xs ys (least_shift d e xs ys)
    least_is v = record { serves = v; least = λ s w. least_below s w.from xs ys w.near }

-- [13.70]
pub which_shift : WhichShift
which_shift d e xs ys s l =
    ≤ℤ-antisym (l.least (least_shift d e xs ys) (least_serves d e xs ys s l.serves)) (least_below d e s l.serves.from xs ys l.serves.near)

-- Where it touches

-- the greater of two is one of them
greater_either : (a b : ℤ) → (greater_of a b ≡ a) ⊎ (greater_of a b ≡ b)
greater_either a b = by_test (le_z a b) (λ e. inr (rw e refl)) (λ e. inl (rw e refl))

touches_or : (d e : ℕ) (xs ys : List Entry) (s : ℤ) → s ≡ least_shift d e xs ys → (s ≡ neg_ℤ (pos d)) ⊎ Touches e s xs ys
unfolding least_shift
touches_or d e [] ys s h = inl h
touches_or d e (x ∷ xs) [] s h = inl h
touches_or d e (x ∷ xs) (y ∷ ys) s h =
    by_either (greater_either (lowest_for e x y) (least_shift d e xs ys)) (touches_or d e xs ys s)
  where
    rest : ℤ
    rest = least_shift d e xs ys

    by_either : (greater_of (lowest_for e x y) rest ≡ lowest_for e x y) ⊎ (greater_of (lowest_for e x y) rest ≡ rest)
        → (s ≡ least_shift d e xs ys → (s ≡ neg_ℤ (pos d)) ⊎ Touches e s xs ys) → (s ≡ neg_ℤ (pos d)) ⊎ Touches e s (x ∷ xs) (y ∷ ys)
    by_either (inl k) more = inr (here {x = x} {y = y} (rw (h ∙ k) (touches_lowest e x y)))
    by_either (inr k) more = further (more (h ∙ k))
      where
        further : (s ≡ neg_ℤ (pos d)) ⊎ Touches e s xs ys → (s ≡ neg_ℤ (pos d)) ⊎ Touches e s (x ∷ xs) (y ∷ ys)
        further (inl f) = inl f
        further (inr f) = inr (later f)

-- a shift that touches is not above one that brings all entries near
touches_below : (e : ℕ) (s t : ℤ) {xs ys : List Entry} → Touches e s xs ys → AllNear e t xs ys → s ≤ℤ t
touches_below e s t (here {x} {y} h) n = touches_least e x y s t h n.0
touches_below e s t (later k) n = touches_below e s t k n.1

-- [13.70]
pub least_touches : LeastTouches
least_touches d e xs ys s v = (λ l. touches_or d e xs ys s (which_shift d e xs ys s l), back)
  where
    back : (s ≡ neg_ℤ (pos d)) ⊎ Touches e s xs ys → Least d e xs ys s
    back (inl h) = record { serves = v; least = λ t w. rw h w.from }
    back (inr k) = record { serves = v; least = λ t w. touches_below e s t k w.near }
