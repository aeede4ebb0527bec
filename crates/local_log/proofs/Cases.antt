-- The cases of comparisons: each answer is the one worked out, by computing. Assumes nothing.
use Rattle.std.proofs.Common.{◌≡◌, ℕ, List, refl}
use Rattle.local_log.specs.declared.Comparison.{Comparison}
use Rattle.local_log.specs.Comparisons.{Entry, entries_of, Compared}
use Rattle.local_log.specs.Formulas.{least_shift, in_time, same_numbers, all_near, compared_of}
use Rattle.local_log.specs.Cases.{Behind, Shaken, BoundsFirst}
use Rattle.local_log.proofs.Worked.{compared_exactly}

computed : (d e : ℕ) (xs ys : List Entry) (r : Comparison) → r ≡ compared_of d e xs ys → Compared d e xs ys r
computed d e xs ys r = (compared_exactly d e xs ys r).1

-- [13.150]
pub behind : Behind
unfolding entries_of least_shift in_time same_numbers all_near compared_of
behind = (computed _ _ _ _ _ refl, computed _ _ _ _ _ refl, computed _ _ _ _ _ refl, computed _ _ _ _ _ refl, computed _ _ _ _ _ refl)

-- [13.155]
pub shaken : Shaken
unfolding entries_of least_shift in_time same_numbers all_near compared_of
shaken = (computed _ _ _ _ _ refl, computed _ _ _ _ _ refl)

-- [13.160]
pub bounds_first : BoundsFirst
unfolding entries_of least_shift in_time same_numbers all_near compared_of
bounds_first = (
  computed _ _ _ _ _ refl,
  computed _ _ _ _ _ refl,
  computed _ _ _ _ _ refl,
  computed _ _ _ _ _ refl,
  computed _ _ _ _ _ refl,
  computed _ _ _ _ _ refl,
)
