-- Which entries are left when others have expired. What has expired stands in front, as the times of a board do not fall, so that the entries
-- that count are its last ones. Assumes nothing.
use Prim.Native.Nat.{ℕ, suc, ◌+◌, ◌-◌, ◌≤◌, ◌<◌, max}
use mathlib.Core.Path.{◌≡◌, refl}
use mathlib.Core.Bool.{true}
use mathlib.Core.List.{List, [], ◌∷◌, ◌++◌}
use native.Mathlib.Omega.{arith}
use lib.Dec.{ltb}
use lib.ListN.{length, drop}
use borrow.Author.Tests.{ltb-true, ltb-false, lt-ltb, le-ltb}
use Rattle.model.proofs.Tests.{by_test, if_lt}
use Rattle.recent.specs.Boards.{Entry, counts, in_order, how_many, longest_at, counting_at}
use Rattle.recent.specs.Facts.{Left}
use Rattle.recent.proofs.Figures.{how_many-most}
use Rattle.recent.proofs.Passes.{order_head, all_count}

module _ (w t : ℕ) where
  pub counting_length : (es : List Entry) → length (counting_at w t es) ≡ how_many w t es
  unfolding how_many counting_at
  counting_length [] = refl
  counting_length (e ∷ es) =
      by_test (counts w t e) (λ c. rw (c, counting_length es) (omega arith)) (λ c. rw c (counting_length es))

  -- one that counts comes last
  pub counting_snoc : (d : Entry) → counts w t d ≡ true → (es : List Entry) → counting_at w t (es ++ (d ∷ [])) ≡ counting_at w t es ++ (d ∷ [])
  unfolding counting_at
  counting_snoc d c [] = simp c
  counting_snoc d c (e ∷ es) =
      by_test (counts w t e) (λ f. rw (f, counting_snoc d c es)) (λ f. rw f (counting_snoc d c es))

  -- where one counts, so do those after it
  counting_all : (since : ℕ) (es : List Entry) → t < since + w → in_order since es ≡ true → counting_at w t es ≡ es
  unfolding counting_at
  counting_all since [] now order = refl
  counting_all since (e ∷ es) now order =
      let h = order_head since e es order in
      let c : ltb t (e.time + w) ≡ true = lt-ltb t (e.time + w) (omega arith) in
      rw (c, counting_all e.time es (omega arith) h.1)

  pub counting_last : (since : ℕ) (es : List Entry) → in_order since es ≡ true
      → counting_at w t es ≡ drop (length es - how_many w t es) es
  unfolding how_many counting_at
  counting_last since [] order = refl
  counting_last since (e ∷ es) order =
      let h = order_head since e es order in
      by_test (counts w t e)
      (λ c. let now = ltb-true t (e.time + w) c in
      let none : suc (length es) - (length es + 1) ≡ 0 = omega arith in
      rw (c, all_count w t e.time es now h.1, counting_all e.time es now h.1, none))
      (λ c. let one : suc (length es) - how_many w t es ≡ suc (length es - how_many w t es) = omega (arith, how_many-most w t es) in
      rw (c, one) (counting_last e.time es h.1))

-- What is left, and its figures, by each entry

module _ (w t : ℕ) where
  pub left-of : (es : List Entry) → Left w t es (counting_at w t es) (how_many w t es) (longest_at w t es)
  unfolding counting_at how_many longest_at
  left-of [] = Left.none
  left-of (e ∷ es) =
      by_test (counts w t e)
      (λ c. let now = ltb-true t (e.time + w) c in
      let longest = longest_at w t es in
      if_lt e.wait longest
      (λ (b : e.wait < longest). let same : max e.wait longest ≡ longest = omega arith in
      rw (c, same) (Left.shorter now b (left-of es)))
      (λ (b : longest ≤ e.wait). let same : max e.wait longest ≡ e.wait = omega arith in
      rw (c, same) (Left.longer now b (left-of es))))
      (λ c. rw c (Left.expired (ltb-false t (e.time + w) c) (left-of es)))

  -- they are no others
  pub record LeftIs (es left : List Entry) (many longest : ℕ) : Type 0 where
    pub those : counting_at w t es ≡ left
    pub many_is : how_many w t es ≡ many
    pub longest_is : longest_at w t es ≡ longest

  pub left_is : {es left : List Entry} {many longest : ℕ} → Left w t es left many longest → LeftIs es left many longest
  unfolding counting_at how_many longest_at
  left_is Left.none = record { those = refl; many_is = refl; longest_is = refl }
  left_is (Left.expired {e = e} b r) =
      let h = left_is r in
      let c = le-ltb t (e.time + w) b in
      record { those = rw c h.those; many_is = rw c h.many_is; longest_is = rw c h.longest_is }
  left_is (Left.longer {e = e} b g r) =
      let h = left_is r in
      let c = lt-ltb t (e.time + w) b in
      record { those = rw (c, h.those); many_is = rw (c, h.many_is); longest_is = rw (c, h.longest_is) (omega arith) }
  left_is (Left.shorter {e = e} b g r) =
      let h = left_is r in
      let c = lt-ltb t (e.time + w) b in
      record { those = rw (c, h.those); many_is = rw (c, h.many_is); longest_is = rw (c, h.longest_is) (omega arith) }
