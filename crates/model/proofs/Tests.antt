-- What Boolean tests say: the set `tests` has `simp` turn an equation of tests into plain facts about numbers, or the other
-- way round. Assumes nothing.
use Prim.Native.Nat.{ℕ, ◌≤◌, ◌<◌}
use mathlib.Core.Path.{◌≡◌, refl, sym, ap, ◌∙◌}
use mathlib.Core.Logic.{◌↔◌, ◌≢◌}
use mathlib.Core.Bool.{Bool, true, false, cond, not, ◌&&◌, ◌||◌, true≢false, false≢true}
use lib.Dec.{leb, ltb, eqb}
use borrow.Author.Tests.{ltb-true, ltb-false, leb-true, leb-false, eqb-true, eqb-false, not-true, not-false}
use borrow.Author.Tests.{le-leb, lt-leb, eq-eqb, ne_eqb}

-- Cases

pub by_test : {A : Type 0} (t : Bool) → (t ≡ true → A) → (t ≡ false → A) → A
by_test true f g = f refl
by_test false f g = g refl

pub if_lt : {A : Type 0} (x y : ℕ) → (x < y → A) → (y ≤ x → A) → A
if_lt x y f g = by_test (ltb x y) (λ e. f (ltb-true x y e)) (λ e. g (ltb-false x y e))

pub if_eq : {A : Type 0} (x y : ℕ) → (x ≡ y → A) → (x ≢ y → A) → A
if_eq x y f g = by_test (eqb x y) (λ e. f (eqb-true x y e)) (λ e. g (eqb-false x y e))

-- what holds of both branches of a test holds of its value
pub by_cond : {A : Type 0} (P : A → Type 0) {u v : A} (t : Bool) → (t ≡ true → P u) → (t ≡ false → P v) → P (cond t u v)
by_cond P true f g = f refl
by_cond P false f g = g refl

-- a test is not both
pub clash : {A : Type 0} {t : Bool} → t ≡ true → t ≡ false → A
clash e f = absurd (true≢false (sym e ∙ f))

-- Numbers

pub leb_true_iff : (a b : ℕ) → (leb a b ≡ true) ↔ (a ≤ b)
leb_true_iff a b = (leb-true a b, le-leb a b)

pub leb_false_iff : (a b : ℕ) → (leb a b ≡ false) ↔ (b < a)
leb_false_iff a b = (leb-false a b, lt-leb a b)

pub eqb_true_iff : (a b : ℕ) → (eqb a b ≡ true) ↔ (a ≡ b)
eqb_true_iff a b = (eqb-true a b, eq-eqb a b)

pub eqb_false_iff : (a b : ℕ) → (eqb a b ≡ false) ↔ (a ≢ b)
eqb_false_iff a b = (eqb-false a b, ne_eqb a b)

-- Connectives

pub not_true_iff : (t : Bool) → (not t ≡ true) ↔ (t ≡ false)
not_true_iff t = (not-true t, ap not)

pub not_false_iff : (t : Bool) → (not t ≡ false) ↔ (t ≡ true)
not_false_iff t = (not-false t, ap not)

pub and_true_iff : (s t : Bool) → (s && t ≡ true) ↔ ((s ≡ true) × (t ≡ true))
and_true_iff true t = (λ e. (refl, e), λ h. h.1)
and_true_iff false t = (λ e. absurd (false≢true e), λ h. h.0)

pub and_false_iff : (s t : Bool) → (s && t ≡ false) ↔ (s ≡ true → t ≡ false)
and_false_iff true t = (λ e _. e, λ h. h refl)
and_false_iff false t = (λ e f. absurd (false≢true f), λ h. refl)

pub or_false_iff : (s t : Bool) → (s || t ≡ false) ↔ ((s ≡ false) × (t ≡ false))
or_false_iff true t = (λ e. absurd (true≢false e), λ h. h.0)
or_false_iff false t = (λ e. (refl, e), λ h. h.1)

pub cond_iff : (t u v b : Bool) → (cond t u v ≡ b) ↔ ((t ≡ true → u ≡ b) × (t ≡ false → v ≡ b))
cond_iff true u v b = (λ e. (λ _. e, λ f. absurd (true≢false f)), λ h. h.0 refl)
cond_iff false u v b = (λ e. (λ f. absurd (false≢true f), λ _. e), λ h. h.1 refl)

-- The set

pub ruleset tests = (
  leb_true_iff,
  leb_false_iff,
  eqb_true_iff,
  eqb_false_iff,
  not_true_iff,
  not_false_iff,
  and_true_iff,
  and_false_iff,
  or_false_iff,
  cond_iff,
)
