-- The tests that a step makes of an act, `misnamed`, `misplaced` and `early`, against the plain conditions, and the turn of an act that
-- passes them. Assumes nothing.
use Prim.Native.Nat.{ℕ, ◌+◌, ◌≤◌, ◌<◌}
use mathlib.Core.Path.{◌≡◌, ap}
use mathlib.Core.Logic.{◌⊎◌, inl, inr, ◌≢◌, ◌↔◌}
use mathlib.Core.Bool.{Bool, true, false, cond}
use native.Mathlib.Omega.{arith}
use lib.Dec.{eqb}
use borrow.Author.Tests.{ltb-true, lt-ltb, ne_eqb}
use Rattle.model.specs.Types.{Location}
use Rattle.model.specs.declared.Location.TheVariants.{Checking}
use Rattle.model.specs.Types.{State}
use Rattle.model.specs.Stages.{checking}
use Rattle.model.specs.Acts.{wait_act, check_act, last_act}
use Rattle.model.specs.States.{stage_of, since_of, release, entry_of}
use Rattle.model.specs.Answers.{misnamed, misplaced, early}
use Rattle.theory.specs.Acceptance.{Waits, Acts}
use Rattle.theory.specs.Refusals.{Misnamed, InPlace}
use Rattle.model.proofs.Tests.{by_test, if_eq, clash, tests}
use Rattle.theory.proofs.Rows.{from_ready, placed_stage, stage_placed, placed_from}

-- a test fails exactly where what it tells does not hold
pub opposite : {t : Bool} {A : Type 0} → (t ≡ true) ↔ A → (t ≡ false) ↔ (A → ⊥)
opposite {t} h = (λ f a. clash (h.1 a) f, λ n. by_test t (λ e. absurd (n (h.0 e))) (λ f. f))

-- Whose act it is

misnamed_test : {n act p : ℕ} → Misnamed n act p → misnamed n act p ≡ true
misnamed_test (Misnamed.wait h) = simp (ne_eqb _ _ h)
misnamed_test (Misnamed.nobody h) = simp (ne_eqb _ _ h)
misnamed_test {n} {p = p} (Misnamed.above h k) = simp (ne_eqb _ _ h, ne_eqb p 0 (omega arith), lt-ltb n p k)

test_misnamed : (n act p : ℕ) → misnamed n act p ≡ true → Misnamed n act p
test_misnamed n act p e = if_eq act wait_act
    (λ w. rw w (Misnamed.wait (simp tests at (rw w at e))))
    (λ h. if_eq p 0
    (λ z. rw z (Misnamed.nobody h))
    (λ k. Misnamed.above h (ltb-true n p (simp (ne_eqb act wait_act h, ne_eqb p 0 k) at e))))

pub misnamed_told : (n act p : ℕ) → (misnamed n act p ≡ true) ↔ Misnamed n act p
misnamed_told n act p = (test_misnamed n act p, misnamed_test)

-- Where its process is

module _ (s : State) (act p : ℕ) (known : act ≤ last_act) where
  pub misplaced_told : (misplaced (stage_of (entry_of s p).location) act ≡ true) ↔ ((act ≢ wait_act) × (InPlace s act p → ⊥))
  misplaced_told = (
    λ e. let h = simp tests at e in (h.0, λ k. h.1 (placed_stage s p k)),
    λ h. simp tests (h.0, λ e. h.1 (stage_placed s p h.0 known e)),
  )

  pub placed_told : (misplaced (stage_of (entry_of s p).location) act ≡ false) ↔ (act ≢ wait_act → InPlace s act p)
  placed_told = (
    λ e n. stage_placed s p n known ((simp tests at e) n),
    λ h. simp tests (λ n. placed_stage s p (h n)),
  )

-- When it comes

-- the release of a process in checking
pub release_is : (s : State) (p : ℕ) {t : ℕ} → (entry_of s p).location ≡ Checking t → release s (entry_of s p) ≡ t + s.parameters.b
release_is s p = ap (λ (l : Location). since_of l + cond (eqb (stage_of l) checking) s.parameters.b 0)

pub early_told : (s : State) (act p m : ℕ) {t : ℕ} → (entry_of s p).location ≡ Checking t
    → (early (release s (entry_of s p)) act m ≡ true) ↔ ((act ≡ check_act) × (m < t + s.parameters.b))
early_told s act p m e = let r = release_is s p e in (
  λ f. let h = simp tests at f in (h.0, omega (arith, h.1)),
  λ h. simp tests (h.0, omega arith),
)

-- Its turn

module _ (s : State) (act p m : ℕ) where
  -- none of 6, 7, 9 and 10 applies
  pub record Fits : Type 0 where
    pub known : act ≤ last_act
    pub named : misnamed s.parameters.n act p ≡ false
    pub placed : misplaced (stage_of (entry_of s p).location) act ≡ false
    pub released : early (release s (entry_of s p)) act m ≡ false

  pub turn_fits : Waits act p ⊎ Acts s act p m → Fits
  turn_fits (inl w) = record {
    known = omega arith;
    named = simp tests (λ _. w.nobody, λ n. absurd (n w.wait));
    placed = simp tests (λ n. absurd (n w.wait));
    released = simp tests (λ e. absurd (omega arith));
  }
  turn_fits (inr a) =
      let r = from_ready a.from in
      record {
        known = r.known;
        named = simp tests (λ e. absurd (r.not_wait e), λ _. omega arith);
        placed = simp tests (λ _. r.placed);
        released = simp tests (λ e. omega (arith, r.released e));
      }

  pub fits_turn : Fits → Waits act p ⊎ Acts s act p m
  fits_turn h =
      let k = simp tests at h.named in
      if_eq act wait_act
      (λ w. inl (record { wait = w; nobody = k.0 w }))
      (λ n. inr (record {
        some = omega (arith, k.1 n);
        most = omega (arith, k.1 n);
        from = placed_from s p ((placed_told s act p h.known).0 h.placed n) (λ c. omega (arith, (simp tests at h.released) c));
      }))

-- an act whose turn it is is of a process that there is, or of process 0
pub turn_named : {s : State} {act p m : ℕ} → Waits act p ⊎ Acts s act p m → p ≤ s.parameters.n
turn_named (inl w) = omega (arith, w.nobody)
turn_named (inr a) = a.most
