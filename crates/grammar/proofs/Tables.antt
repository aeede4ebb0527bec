-- A test of each place of a list, which is computed once for the whole list, and what it says of a place. Assumes nothing.
use Prim.Native.Nat.{ℕ, zero, suc, ◌+◌, ◌<◌}
use mathlib.Core.Path.{◌≡◌}
use mathlib.Core.Bool.{Bool, true, ◌&&◌}
use mathlib.Core.List.{List, [], ◌∷◌}
use native.Mathlib.Omega.{arith}
use native.Mathlib.Nat.{zero-add}
use lib.ListN.{length, get_or}
use Rattle.model.proofs.Tests.{tests}

-- the test passes at each place, counted from i, with what stands there
abbrev pub every : {A : Type 0} → (ℕ → A → Bool) → ℕ → List A → Bool
every t i [] = true
every t i (x ∷ l) = t i x && every t (i + 1) l

every_from : {A : Type 0} (t : ℕ → A → Bool) (l : List A) (d : A) (i : ℕ) → every t i l ≡ true
    → (j : ℕ) → j < length l → t (i + j) (get_or l j d) ≡ true
every_from t [] d i e j h = absurd (omega arith)
every_from t (x ∷ l) d i e zero h = let f = simp tests at e in let z : i + 0 ≡ i = omega arith in rw z f.0
every_from t (x ∷ l) d i e (suc j) h =
    let f = simp tests at e in
    let z : i + 1 + j ≡ i + suc j = omega arith in
    rw z at (every_from t l d (i + 1) f.1 j (omega arith))

-- so it passes at each of them
pub every_at : {A : Type 0} (t : ℕ → A → Bool) (l : List A) (d : A) → every t 0 l ≡ true
    → (j : ℕ) → j < length l → t j (get_or l j d) ≡ true
every_at t l d e j h = rw zero-add at (every_from t l d 0 e j h)
