-- The stage and the arrival of a location tell the location. Assumes nothing.
use Prim.Native.Nat.{ℕ}
use mathlib.Core.Path.{◌≡◌, refl, ap, ◌∙◌}
use Rattle.model.specs.Types.{Location}
use Rattle.model.specs.declared.Location.TheVariants.{Remainder, Testing, Setting, Checking, Entering, Critical, Resetting, Leaving}
use Rattle.model.specs.States.{stage_of, since_of, location_at}

pub location_is : (l : Location) → l ≡ location_at (stage_of l) (since_of l)
location_is Remainder = refl
location_is (Testing t) = refl
location_is (Setting t) = refl
location_is (Checking t) = refl
location_is (Entering t) = refl
location_is Critical = refl
location_is (Resetting t) = refl
location_is (Leaving t) = refl

pub stage_location : (l : Location) {k : ℕ} → stage_of l ≡ k → l ≡ location_at k (since_of l)
stage_location l e = location_is l ∙ ap (λ (k : ℕ). location_at k (since_of l)) e
