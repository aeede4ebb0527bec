-- Laws of how many entries are critical. Assumes nothing.
use Prim.Native.Nat.{ℕ, zero, suc, ◌+◌, ◌<◌}
use mathlib.Core.Path.{◌≡◌, refl}
use mathlib.Core.Bool.{cond}
use mathlib.Core.List.{List, [], ◌∷◌}
use native.Mathlib.Omega.{arith}
use lib.Dec.{eqb}
use lib.ListN.{length, get_or, set}
use borrow.Author.Tests.{eqb-true}
use Rattle.model.specs.Types.{Location}
use Rattle.model.specs.declared.Location.TheVariants.{Remainder, Critical}
use Rattle.model.specs.Types.{Process}
use Rattle.model.specs.Stages.{critical}
use Rattle.model.specs.States.{idle, stage_of}
use Rattle.model.specs.Tallies.{critical_count}
use Rattle.model.proofs.Tests.{by_test}
use Rattle.model.proofs.Locations.{stage_location}

-- what an entry in a location adds to their count
abbrev pub weight : Location → ℕ
weight l = cond (eqb (stage_of l) critical) 1 0

pub weight_critical : (l : Location) → weight l ≡ 1 → l ≡ Critical
weight_critical l h = by_test (eqb (stage_of l) critical)
    (λ e. stage_location l (eqb-true _ _ e))
    (λ e. absurd (omega (arith, rw e at h)))

-- an entry takes the place of another
pub count_set : (qs : List Process) (k : ℕ) (q : Process) → k < length qs
    → critical_count (set qs k q) + weight (get_or qs k idle).location ≡ critical_count qs + weight q.location
unfolding critical_count
count_set [] k q h = absurd (omega arith)
count_set (r ∷ qs) zero q h = omega arith
count_set (r ∷ qs) (suc k) q h = omega (arith, count_set qs k q (omega arith))

pub count_idle : (qs : List Process) → ((k : ℕ) → (get_or qs k idle).location ≡ Remainder) → critical_count qs ≡ 0
unfolding critical_count
count_idle [] h = refl
count_idle (q ∷ qs) h = rw (h 0) (omega (arith, count_idle qs (λ k. h (suc k))))
