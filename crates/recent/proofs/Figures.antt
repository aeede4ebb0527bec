-- The figures of entries one after the other, and with one entry more at their end. Assumes nothing.
use Prim.Native.Nat.{ℕ, ◌+◌, ◌≤◌, max}
use mathlib.Core.Path.{◌≡◌}
use mathlib.Core.Bool.{true}
use mathlib.Core.List.{List, [], ◌∷◌, ◌++◌}
use native.Mathlib.Omega.{arith}
use lib.ListN.{length}
use borrow.Author.Tests.{lt-ltb}
use Rattle.model.specs.Answers.{answer_of}
use Rattle.model.proofs.Tests.{by_test}
use Rattle.recent.specs.Boards.{Entry, entry_with, counts, how_many, longest_at, figures_at}

module _ (w t : ℕ) where
  -- no more count than there are
  pub how_many-most : (es : List Entry) → how_many w t es ≤ length es
  unfolding how_many
  how_many-most [] = omega arith
  how_many-most (e ∷ es) =
      let h = how_many-most es in
      by_test (counts w t e) (λ f. rw f (omega (arith, h))) (λ f. rw f (omega (arith, h)))

  -- Two lists of entries

  pub how_many-append : (es ds : List Entry) → how_many w t (es ++ ds) ≡ how_many w t es + how_many w t ds
  unfolding how_many
  how_many-append [] ds = omega arith
  how_many-append (e ∷ es) ds =
      let h = how_many-append es ds in by_test (counts w t e) (λ f. rw f (omega arith)) (λ f. rw f h)

  pub longest_append : (es ds : List Entry) → longest_at w t (es ++ ds) ≡ max (longest_at w t es) (longest_at w t ds)
  unfolding longest_at
  longest_append [] ds = omega arith
  longest_append (e ∷ es) ds =
      let h = longest_append es ds in by_test (counts w t e) (λ f. rw f (omega arith)) (λ f. rw f h)

  -- An entry of this time, which counts as a width is not 0

  module _ (p wait : ℕ) (some : 1 ≤ w) where
    it_counts : counts w t (entry_with t p wait) ≡ true
    it_counts = lt-ltb t (t + w) (omega arith)

    how_many-one : how_many w t (entry_with t p wait ∷ []) ≡ 1
    unfolding how_many
    how_many-one = simp it_counts

    longest_one : longest_at w t (entry_with t p wait ∷ []) ≡ wait
    unfolding longest_at
    longest_one = simp it_counts (omega arith)

    pub figures_snoc : (es : List Entry)
        → figures_at w t (es ++ (entry_with t p wait ∷ [])) ≡ answer_of 0 (how_many w t es + 1) (max (longest_at w t es) wait)
    figures_snoc es = rw (how_many-append es (entry_with t p wait ∷ []), longest_append es (entry_with t p wait ∷ []), how_many-one, longest_one)
