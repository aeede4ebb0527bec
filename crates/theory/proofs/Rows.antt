-- The table of section 3 of the specification, `leaves` and `transition_of` against the relations `From` and `Effect`.
-- These laws look at each act, so that other proofs need not. Assumes nothing.
use Prim.Native.Nat.{ℕ, ◌+◌, ◌≤◌}
use mathlib.Core.Path.{◌≡◌, refl, sym, ap, ◌∙◌, subst}
use mathlib.Core.Logic.{◌≢◌}
use mathlib.Core.Bool.{false, cond, true≢false}
use native.Mathlib.Omega.{arith}
use lib.Dec.{eqb}
use borrow.Author.Tests.{eqb-true, eqb-false}
use Rattle.model.specs.Types.{Location}
use Rattle.model.specs.declared.Location.TheVariants.{Remainder, Testing, Setting, Checking, Entering, Critical, Resetting, Leaving}
use Rattle.model.specs.Types.{State}
use Rattle.model.specs.Stages.{remainder, testing, setting, checking, entering, critical, resetting, leaving}
use Rattle.model.specs.Acts.{wait_act, try_act, test_act, set_act, check_act, crit_act, exit_act, reset_act, rem_act, withdraw_act, last_act, leaves}
use Rattle.model.specs.States.{stage_of, since_of, release, trying, entry_of}
use Rattle.model.specs.Actions.{transition_of}
use Rattle.model.specs.Summaries.{clears}
use Rattle.theory.specs.Acceptance.{From, Effect}
use Rattle.theory.specs.Refusals.{InPlace}
use Rattle.model.proofs.Tests.{by_cond}
use Rattle.model.proofs.Locations.{stage_location}

-- What an act leaves

-- an act of a process leaves a stage
data Leaves : ℕ → ℕ → Type 0 where
  try : Leaves try_act remainder
  test : Leaves test_act testing
  set : Leaves set_act setting
  check : Leaves check_act checking
  crit : Leaves crit_act entering
  exit : Leaves exit_act critical
  reset : Leaves reset_act resetting
  rem : Leaves rem_act leaving
  withdraw : Leaves withdraw_act testing

act_told : {act k stage : ℕ} → Leaves k stage → act ≡ k → Leaves act stage
act_told {stage = stage} h e = subst (λ (j : ℕ). Leaves j stage) (sym e) h

-- `leaves` asks for the acts in the order of their numbers, so each test that fails leaves a later act
this_or_later : {act k stage later : ℕ} → k ≤ act → Leaves k stage → (k + 1 ≤ act → Leaves act later)
    → Leaves act (cond (eqb act k) stage later)
this_or_later {act} {k} h this later = by_cond (Leaves act) (eqb act k)
    (λ e. act_told this (eqb-true act k e))
    (λ e. later (omega (arith, eqb-false act k e)))

act_leaves : (act : ℕ) → act ≢ wait_act → act ≤ last_act → Leaves act (leaves act)
unfolding leaves
act_leaves act some most =
    this_or_later (omega arith) Leaves.try
    (λ h₂. this_or_later h₂ Leaves.test
    (λ h₃. this_or_later h₃ Leaves.set
    (λ h₄. this_or_later h₄ Leaves.check
    (λ h₅. this_or_later h₅ Leaves.crit
    (λ h₆. this_or_later h₆ Leaves.exit
    (λ h₇. this_or_later h₇ Leaves.reset
    (λ h₈. this_or_later h₈ Leaves.rem
    (λ h₉. act_told Leaves.withdraw (omega arith)))))))))

-- `From` in the terms of the step: the stage is the one that the act leaves, and a check is not early
pub record Ready (b m act : ℕ) (l : Location) : Type 0 where
  pub not_wait : act ≢ wait_act
  pub known : act ≤ last_act
  pub placed : stage_of l ≡ leaves act
  pub released : act ≡ check_act → since_of l + cond (eqb (stage_of l) checking) b 0 ≤ m

pub from_ready : {b m act : ℕ} {l : Location} → From b m act l → Ready b m act l
unfolding leaves
from_ready From.try = omega arith
from_ready From.test = omega arith
from_ready From.set = omega arith
from_ready (From.check h) = omega arith
from_ready From.crit = omega arith
from_ready From.exit = omega arith
from_ready From.reset = omega arith
from_ready From.rem = omega arith
from_ready From.withdraw = omega arith

from_leaves : {b m act : ℕ} (l : Location) → (act ≡ check_act → since_of l + cond (eqb (stage_of l) checking) b 0 ≤ m)
    → Leaves act (stage_of l) → From b m act l
from_leaves Remainder h Leaves.try = From.try
from_leaves (Testing t) h Leaves.test = From.test
from_leaves (Testing t) h Leaves.withdraw = From.withdraw
from_leaves (Setting t) h Leaves.set = From.set
from_leaves (Checking t) h Leaves.check = From.check (h refl)
from_leaves (Entering t) h Leaves.crit = From.crit
from_leaves Critical h Leaves.exit = From.exit
from_leaves (Resetting t) h Leaves.reset = From.reset
from_leaves (Leaving t) h Leaves.rem = From.rem

pub ready_from : {b m act : ℕ} (l : Location) → Ready b m act l → From b m act l
ready_from {act = act} l h =
    from_leaves l h.released (subst (Leaves act) (sym h.placed) (act_leaves act h.not_wait h.known))

-- Where an act may be taken at some time

module _ (s : State) (p : ℕ) {act : ℕ} where
  pub placed_stage : InPlace s act p → stage_of (entry_of s p).location ≡ leaves act
  placed_stage h = (from_ready h.1).placed

  pub stage_placed : act ≢ wait_act → act ≤ last_act → stage_of (entry_of s p).location ≡ leaves act → InPlace s act p
  stage_placed n k e =
      (release s (entry_of s p), ready_from _ (record { not_wait = n; known = k; placed = e; released = λ _. omega arith }))

  -- it is taken then, unless it is a check that comes too early
  pub placed_from : {m : ℕ} → InPlace s act p → (act ≡ check_act → release s (entry_of s p) ≤ m)
      → From s.parameters.b m act (entry_of s p).location
  placed_from h k =
      let r = from_ready h.1 in
      ready_from _ (record { not_wait = r.not_wait; known = r.known; placed = r.placed; released = k })

  -- who is in the place of a check is in checking
  pub placed_checks : act ≡ check_act → InPlace s act p → (entry_of s p).location ≡ Checking (since_of (entry_of s p).location)
  unfolding leaves
  placed_checks e h = stage_location (entry_of s p).location {k = checking} (placed_stage h ∙ ap leaves e)

  -- and who is in checking is in its place
  pub checks_placed : {t : ℕ} → act ≡ check_act → (entry_of s p).location ≡ Checking t → InPlace s act p
  checks_placed {t} e at = (t + s.parameters.b, rw (e, at) (From.check {t = t} (omega arith)))

-- Where it leads

pub row_effect : (s : State) (p : ℕ) {b m act : ℕ} {l : Location} → From b m act l
    → Effect p m act s.word (transition_of s.word act p m).to (transition_of s.word act p m).word
unfolding transition_of
row_effect s p From.try = Effect.try
row_effect s p {m = m} From.test = by_cond (λ (l : Location). Effect p m test_act s.word l s.word) (eqb s.word 0)
    (λ e. rw (eqb-true s.word 0 e) Effect.test_free) (λ e. Effect.test_taken (eqb-false s.word 0 e))
row_effect s p From.set = Effect.set
row_effect s p {m = m} (From.check h) = by_cond (λ (l : Location). Effect p m check_act s.word l s.word) (eqb s.word p)
    (λ e. rw (eqb-true s.word p e) Effect.check_own) (λ e. Effect.check_other (eqb-false s.word p e))
row_effect s p From.crit = Effect.crit
row_effect s p From.exit = Effect.exit
row_effect s p From.reset = Effect.reset
row_effect s p From.rem = Effect.rem
row_effect s p From.withdraw = Effect.withdraw

-- Who is trying after it: who was before, unless a wait starts or ends

pub trying_kept : {b p m act w w' : ℕ} {l l' : Location} → From b m act l → Effect p m act w l' w' → clears act ≡ false
    → trying l' ≡ trying l
trying_kept From.try Effect.try e = absurd (true≢false e)
trying_kept From.test Effect.test_free e = refl
trying_kept From.test (Effect.test_taken _) e = refl
trying_kept From.set Effect.set e = refl
trying_kept (From.check _) Effect.check_own e = refl
trying_kept (From.check _) (Effect.check_other _) e = refl
trying_kept From.crit Effect.crit e = absurd (true≢false e)
trying_kept From.exit Effect.exit e = refl
trying_kept From.reset Effect.reset e = refl
trying_kept From.rem Effect.rem e = refl
trying_kept From.withdraw Effect.withdraw e = absurd (true≢false e)
