-- What a location tells, its arrival, its deadline and whether its process is trying: the relations of `Facts` against the functions of `States`.
-- These laws look at each location, so that other proofs need not. Assumes nothing.
use Prim.Native.Nat.{ℕ, ◌+◌, ◌-◌, ◌≤◌}
use mathlib.Core.Path.{◌≡◌, refl, sym, ◌∙◌}
use mathlib.Core.Logic.{◌↔◌, ◌≢◌}
use mathlib.Core.Bool.{true, false, false≢true}
use native.Mathlib.Omega.{arith}
use lib.ListN.{get_or}
use Rattle.model.specs.Types.{Location}
use Rattle.model.specs.declared.Location.TheVariants.{Remainder, Testing, Setting, Checking, Entering, Critical, Resetting, Leaving}
use Rattle.model.specs.Types.{Process}
use Rattle.model.specs.Types.{State}
use Rattle.model.specs.Stages.{remainder, critical}
use Rattle.model.specs.States.{stage_of, timed, since_of, limit_at, bounded, deadline, late, stay, trying}
use Rattle.model.specs.Facts.{Tries, Arrival, Deadline}
use Rattle.theory.specs.Summaries.{TryingIffPlain}
use Rattle.model.proofs.Tests.{tests}

-- Arrivals

arrival_since : {l : Location} {t : ℕ} → Arrival l t → since_of l ≡ t
arrival_since Arrival.testing = refl
arrival_since Arrival.setting = refl
arrival_since Arrival.checking = refl
arrival_since Arrival.entering = refl
arrival_since Arrival.resetting = refl
arrival_since Arrival.leaving = refl

since_past : (k : ℕ) (l : Location) → ((t : ℕ) → Arrival l t → t ≤ k) → since_of l ≤ k
since_past k Remainder h = omega arith
since_past k (Testing t) h = h t Arrival.testing
since_past k (Setting t) h = h t Arrival.setting
since_past k (Checking t) h = h t Arrival.checking
since_past k (Entering t) h = h t Arrival.entering
since_past k Critical h = omega arith
since_past k (Resetting t) h = h t Arrival.resetting
since_past k (Leaving t) h = h t Arrival.leaving

-- what has no arrival, `since_of` puts at 0, which is past
pub past_iff : (k : ℕ) (l : Location) → (since_of l ≤ k) ↔ ((t : ℕ) → Arrival l t → t ≤ k)
past_iff k l = (λ h t a. omega (arith, arrival_since a), since_past k l)

-- Who is trying

tries_test : {l : Location} → Tries l → trying l ≡ true
tries_test Tries.testing = refl
tries_test Tries.setting = refl
tries_test Tries.checking = refl
tries_test Tries.entering = refl

test_tries : (l : Location) → trying l ≡ true → Tries l
test_tries Remainder e = absurd (false≢true e)
test_tries (Testing t) e = Tries.testing
test_tries (Setting t) e = Tries.setting
test_tries (Checking t) e = Tries.checking
test_tries (Entering t) e = Tries.entering
test_tries Critical e = absurd (false≢true e)
test_tries (Resetting t) e = absurd (false≢true e)
test_tries (Leaving t) e = absurd (false≢true e)

pub trying_iff_plain : TryingIffPlain
trying_iff_plain l = (test_tries l, tries_test)

-- Deadlines

-- process i, with the entry q, has the deadline d
abbrev pub Latest : State → ℕ → Process → ℕ → Type 0
Latest s i q d = Deadline (get_or s.parameters.a (i - 1) 0) s.parameters.c q.location d

abbrev deadline_at : ℕ → ℕ → Location → ℕ
deadline_at a c l = since_of l + stay a c l

pub deadline_timed : {a c d : ℕ} {l : Location} → Deadline a c l d → (timed l ≡ true) × (deadline_at a c l ≡ d)
deadline_timed Deadline.testing = (refl, refl)
deadline_timed Deadline.setting = (refl, refl)
deadline_timed Deadline.checking = (refl, refl)
deadline_timed Deadline.entering = (refl, refl)
deadline_timed Deadline.resetting = (refl, refl)
deadline_timed Deadline.leaving = (refl, refl)

timed_deadline : (a c : ℕ) (l : Location) → timed l ≡ true → Deadline a c l (deadline_at a c l)
timed_deadline a c Remainder e = absurd (false≢true e)
timed_deadline a c (Testing t) e = Deadline.testing
timed_deadline a c (Setting t) e = Deadline.setting
timed_deadline a c (Checking t) e = Deadline.checking
timed_deadline a c (Entering t) e = Deadline.entering
timed_deadline a c Critical e = absurd (false≢true e)
timed_deadline a c (Resetting t) e = Deadline.resetting
timed_deadline a c (Leaving t) e = Deadline.leaving

pub deadline_unique : {a c d e : ℕ} {l : Location} → Deadline a c l d → Deadline a c l e → d ≡ e
deadline_unique h k = sym (deadline_timed h).1 ∙ (deadline_timed k).1

-- what a deadline d in l tells, by the stage: l is timed, and d is not before the arrival
pub record Bounded (l : Location) (d : ℕ) : Type 0 where
  pub not_remainder : stage_of l ≢ remainder
  pub not_critical : stage_of l ≢ critical
  pub after : since_of l ≤ d

pub deadline_bounded : {a c d : ℕ} {l : Location} → Deadline a c l d → Bounded l d
deadline_bounded Deadline.testing = omega arith
deadline_bounded Deadline.setting = omega arith
deadline_bounded Deadline.checking = omega arith
deadline_bounded Deadline.entering = omega arith
deadline_bounded Deadline.resetting = omega arith
deadline_bounded Deadline.leaving = omega arith

-- an entry that is bounded has the deadline that `deadline` gives: here the limits of the tests meet those of the facts
pub bounded_latest : (s : State) (i : ℕ) (q : Process) → bounded s q ≡ true → Latest s i q (deadline s i q)
unfolding limit_at
bounded_latest s i q = timed_deadline (get_or s.parameters.a (i - 1) 0) s.parameters.c q.location

-- and no other
pub latest_deadline : (s : State) (i : ℕ) (q : Process) {d : ℕ} → Latest s i q d → (bounded s q ≡ true) × (deadline s i q ≡ d)
unfolding limit_at
latest_deadline s i q h = deadline_timed h

-- a process that is not late keeps its deadline, if it has one
pub not_late_iff : (s : State) (m i : ℕ) (q : Process) → (late s m i q ≡ false) ↔ ((d : ℕ) → Latest s i q d → m ≤ d)
not_late_iff s m i q = (
  λ e d h. let k = latest_deadline s i q h in omega (arith, k.1, (simp tests at e) k.0),
  λ h. simp tests (λ t. omega (arith, h _ (bounded_latest s i q t))),
)
