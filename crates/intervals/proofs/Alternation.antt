-- The attempts of a run take turns: a process enters when nobody is critical, and leaves before another enters. That the lock excludes is
-- used here. Assumes nothing.
use Prim.Native.Nat.{ℕ, ◌≤◌}
use mathlib.Core.Path.{◌≡◌, refl, sym, ◌∙◌}
use mathlib.Core.Logic.{◌≢◌}
use mathlib.Core.List.{List, [], ◌∷◌}
use native.Mathlib.Omega.{arith}
use borrow.Author.Tests.{eq-eqb, ne_eqb}
use Rattle.model.specs.declared.Parameters.{Parameters}
use Rattle.model.specs.Types.{State}
use Rattle.model.specs.Acts.{crit_act, exit_act}
use Rattle.model.specs.Answers.{critical_of}
use Rattle.model.specs.Facts.{Accepted}
use Rattle.model.specs.Folds.{end_by, results_by}
use Rattle.model.specs.Tallies.{Attempt, attempted}
use Rattle.model.specs.Texts.{Event}
use Rattle.model.specs.Executions.{step_by, state_after, state_from, attempts_of, attempts_from}
use Rattle.model.proofs.Tests.{if_eq}
use Rattle.theory.proofs.Acceptance.{refused_stays}
use Rattle.lists.proofs.Reached.{step_tells}
use Rattle.lists.proofs.Guarded.{Guarded, step_guarded}
use Rattle.lists.proofs.Demand3.{one_critical}
use Rattle.tallies.proofs.ActKinds.{turn_some, turn_kind}
use Rattle.tallies.proofs.Critical.{critical_before, critical-after}
use Rattle.intervals.specs.Runs.{AcceptedCrit, AcceptedExit}

-- One attempt

-- before it process p is critical, or nobody where that is 0, and the clock is t; after it they are q and u
pub data Turn (p t : ℕ) (e : Attempt) (q u : ℕ) : Type 0 where
  enters : AcceptedCrit e → p ≡ 0 → q ≡ e.process → 1 ≤ q → u ≡ e.time → t ≤ u → Turn p t e q u
  leaves : AcceptedExit e → e.process ≡ p → 1 ≤ p → q ≡ 0 → u ≡ e.time → t ≤ u → Turn p t e q u
  passes : (AcceptedCrit e → ⊥) → (AcceptedExit e → ⊥) → q ≡ p → t ≤ u → Turn p t e q u

-- All of them

-- and at the end process r is critical, or nobody
pub data Alternate : ℕ → ℕ → List Attempt → ℕ → Type 0 where
  ended : {p t : ℕ} → Alternate p t [] p
  turned : {p t q u r : ℕ} {e : Attempt} {es : List Attempt} → Turn p t e q u → Alternate q u es r → Alternate p t (e ∷ es) r

-- A step

module _ {k : Parameters} {s : State} (g : Guarded k s) (e : Event) where
  abbrev code : ℕ
  code = (step_by s e).answer.code

  abbrev next : State
  next = state_after (step_by s e)

  abbrev Turns : Type 0
  Turns = Turn (critical_of s) s.clock (attempted e code) (critical_of next) next.clock

  refused : code ≢ 0 → Turns
  refused n =
      rw (refused_stays s e.action e.process e.time n)
      (passes (λ h. n h.accepted) (λ h. n h.accepted) refl (omega arith))

  module _ (a : Accepted (step_by s e)) where
    accepted_guarded : Guarded k next
    accepted_guarded = step_guarded g (step_tells g.reached a)

    accepted : Turns
    accepted =
        let step = step_tells g.reached a in
        let kind = turn_kind step.changed step.allowed.turn in
        let some = turn_some step.allowed.turn in
        let before = critical_before s next e.process step.changed.others_stay kind refl refl some
        (one_critical g) (one_critical accepted_guarded) in
        let after = critical-after s next e.process step.changed.others_stay kind refl refl some
        (one_critical g) (one_critical accepted_guarded) in
        let clock = step.changed.clock_is in
        let on : s.clock ≤ next.clock = omega (arith, clock, step.allowed.forward) in
        if_eq e.action crit_act
        (λ c.
        let own : critical_of next ≡ e.process = after ∙ rw (eq-eqb _ crit_act c) in
        enters (record { accepted = a; crit = c }) (before.0 c) own (omega (arith, own, some (omega arith))) clock on)
        (λ n. if_eq e.action exit_act
        (λ x.
        let own : critical_of s ≡ e.process = before.1 x in
        let none = after ∙ rw (ne_eqb _ crit_act n, eq-eqb _ exit_act x) in
        leaves (record { accepted = a; exit = x }) (sym own) (omega (arith, own, some (omega arith))) none clock on)
        (λ m. passes (λ h. n h.crit) (λ h. m h.exit) (after ∙ rw (ne_eqb _ crit_act n, ne_eqb _ exit_act m)) on))

  turn : Turns
  turn = if_eq code 0 accepted refused

  turn_guarded : Guarded k next
  turn_guarded = if_eq code 0 accepted_guarded (λ n. rw (refused_stays s e.action e.process e.time n) g)

-- A run

pub run_alternates : {k : Parameters} {s : State} → Guarded k s → (events : List Event)
    → Alternate (critical_of s) s.clock (attempts_from s events) (critical_of (state_from s events))
unfolding end_by results_by attempts_of
run_alternates {k = k} {s = s} g [] = ended
run_alternates {k = k} {s = s} g (e ∷ es) = turned (turn g e) (run_alternates {k = k} {s = (step_by s e).state} (turn_guarded g e) es)

pub run_guarded : {k : Parameters} {s : State} → Guarded k s → (events : List Event) → Guarded k (state_from s events)
unfolding end_by
run_guarded {k = k} {s = s} g [] = g
run_guarded {k = k} {s = s} g (e ∷ es) = run_guarded {k = k} {s = (step_by s e).state} (turn_guarded g e) es
