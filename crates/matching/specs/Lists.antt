-- Section 12 of the specification, lists of steps of the two engines: every list is answered alike, and of every list of the second engine from a
-- fresh state of deadlines demand 3 holds, in facts of its own states. Assumes nothing.
use Rattle.std.specs.Prelude.{ℕ, ◌+◌, ◌≤◌, ◌<◌, ◌≡◌, ◌⊎◌, ◌≢◌, ◌↔◌, true, List, [], ◌∷◌, ◌++◌, map}
use Rattle.model.specs.declared.Parameters.{Parameters}
use Rattle.model.specs.Types.{State}
use Rattle.model.specs.Types.{Outcome}
use Rattle.model.specs.Acts.{wait_act, crit_act, withdraw_act}
use Rattle.model.specs.States.{last_time}
use Rattle.model.specs.Answers.{fresh_of}
use Rattle.model.specs.Executions.{step_by, state_after, state_from, answers_from}
use Rattle.model.specs.Facts.{LeadsOn}
use Rattle.model.specs.Folds.{end_by, results_by}
use Rattle.model.specs.Texts.{Event}
use Rattle.lists.specs.Demand3.{owed_wait}
use Rattle.deadlines.specs.Types.{DeadlineState}
use Rattle.deadlines.specs.Types.{DeadlineOutcome}
use Rattle.deadlines.specs.Deadlines.{sound_with, step_with, fresh_with}
use Rattle.deadlines.specs.Matching.{Matches}
use Rattle.matching.specs.Facts.{AcceptedWith, HasTimes, IsCriticalWith, IsTryingWith}
use Rattle.matching.specs.Engines.{OutcomesMatch}

-- Lists of steps

-- [12.85] the step of the second engine that an action asks for
abbrev pub step_by_deadlines : DeadlineState → Event → DeadlineOutcome
step_by_deadlines d e = step_with d e.action e.process e.time

-- helper: the state that it gives back
abbrev pub deadlines_after : DeadlineOutcome → DeadlineState
deadlines_after o = o.state

-- [8.40] [12.85] what each step of a list of the first engine gives back, each made on the state that the one before it gave back
abbrev pub steps_of : State → List Event → List Outcome
steps_of s es = results_by step_by state_after s es

-- [8.40] [12.85] and of the second
abbrev pub steps_with : DeadlineState → List Event → List DeadlineOutcome
steps_with d es = results_by step_by_deadlines deadlines_after d es

-- [12.85] the state of deadlines after a list
abbrev pub run_with : DeadlineState → List Event → DeadlineState
run_with d es = end_by step_by_deadlines deadlines_after d es

-- [12.85] the same answers, and states that match, call by call
pub data EachMatches : List Outcome → List DeadlineOutcome → Type 0 where
  ended : EachMatches [] []
  both : {o : Outcome} {e : DeadlineOutcome} {os : List Outcome} {es : List DeadlineOutcome}
      → OutcomesMatch o e → EachMatches os es → EachMatches (o ∷ os) (e ∷ es)

-- [12.85] what comes of the list es of the first engine from s on, and of the second from d on: each call, all answers, and the states at the end
pub record RunsMatch (s : State) (d : DeadlineState) (es : List Event) : Type 0 where
  pub each : EachMatches (steps_of s es) (steps_with d es)
  pub answers : map (λ (o : DeadlineOutcome). o.answer) (steps_with d es) ≡ answers_from s es
  pub states : Matches (state_from s es) (run_with d es)

-- [12.85] from any two that match
abbrev pub ListsMatch : Type 0
ListsMatch = (s : State) (d : DeadlineState) → Matches s d → (es : List Event) → RunsMatch s d es

-- [12.85] and so from two fresh ones
abbrev pub FreshListsMatch : Type 0
FreshListsMatch = (k : Parameters) (es : List Event) → RunsMatch (fresh_of k).state (fresh_with k).state es

-- Demand 3, of the second engine

-- [8.85] the step lets its process in
pub record EntersWith (d : DeadlineState) (e : Event) : Type 0 where
  pub crit : e.action ≡ crit_act
  pub accepted : AcceptedWith (step_by_deadlines d e)

-- [8.75] each of the steps is in the span that starts at d, as none but the last lets anybody in
abbrev pub InSpanWith : DeadlineState → List Event → Type 0
InSpanWith d [] = Unit {0}
InSpanWith d (e ∷ es) = (es ≡ []) ⊎ ((EntersWith d e → ⊥) × InSpanWith (step_by_deadlines d e).state es)

-- [8.70] [8.75] a span: it starts at d, where process w is trying and none is critical, and the steps es are in it
pub record SpanWith (d : DeadlineState) (w : ℕ) (es : List Event) : Type 0 where
  pub trying : IsTryingWith d w
  pub none : (i : ℕ) → IsCriticalWith d i → ⊥
  pub steps : InSpanWith d es

-- [8.78] the step is a withdraw of process w, and is accepted
pub record WithdrawsWith (d : DeadlineState) (w : ℕ) (e : Event) : Type 0 where
  pub withdraw : e.action ≡ withdraw_act
  pub own : e.process ≡ w
  pub accepted : AcceptedWith (step_by_deadlines d e)

-- [8.78] process w has not withdrawn
abbrev pub StaysWith : DeadlineState → ℕ → List Event → Type 0
StaysWith d w [] = Unit {0}
StaysWith d w (e ∷ es) = (WithdrawsWith d w e → ⊥) × StaysWith (step_by_deadlines d e).state w es

-- [8.78] [8.80] at a point of a span of the list es from d on, at which a wait is owed, the clock is within the bound. The list is cut at the
-- start of the span and at that point.
abbrev pub OwedWithinWith : ℕ → DeadlineState → List Event → Type 0
OwedWithinWith bound d es = (before during after : List Event) (w : ℕ) → es ≡ before ++ during ++ after
    → SpanWith (run_with d before) w during
    → StaysWith (run_with d before) w during
    → (run_with d (before ++ during)).clock ≤ (run_with d before).clock + bound

-- [8.100] of an outcome that is accepted
pub record NamesTheOnlyWith (o : DeadlineOutcome) : Type 0 where
  pub critical : o.answer.process ≢ 0 → IsCriticalWith o.state o.answer.process
  pub only : (i : ℕ) → IsCriticalWith o.state i → i ≡ o.answer.process

-- [8.100] of each step of a list
abbrev pub EachNamesWith : List DeadlineOutcome → Type 0
EachNamesWith [] = Unit {0}
EachNamesWith (o ∷ os) = (AcceptedWith o → NamesTheOnlyWith o) × EachNamesWith os

-- [12.90] of the steps es from the fresh state of deadlines with the parameters k, which gave back the results rs and left the state t
pub record Demand3With (k : Parameters) (es : List Event) (rs : List DeadlineOutcome) (t : DeadlineState) : Type 0 where
  -- [8.60] the plain state is the first engine's: each answer is the one that is due in it, and each state matches it
  pub results : EachMatches (steps_of (fresh_of k).state es) rs
  -- [8.60] the state after the list
  pub state : Matches (state_from (fresh_of k).state es) t
  -- [8.80]
  pub owed : OwedWithinWith (owed_wait k) (fresh_with k).state es
  -- [8.90]
  pub one : (i j : ℕ) → IsCriticalWith t i → IsCriticalWith t j → i ≡ j
  -- [8.100]
  pub names : EachNamesWith rs
  -- [8.110] a deadline is a last time
  pub waits : t.clock < last_time → AcceptedWith (step_with t wait_act 0 (t.clock + 1)) ↔ ((i f : ℕ) → HasTimes t i f t.clock → ⊥)
  -- [8.120]
  pub acts : (i f : ℕ) → HasTimes t i f t.clock → (act : ℕ) × LeadsOn act × AcceptedWith (step_with t act i t.clock)

-- [12.90] of every list from a fresh state of deadlines that was answered with 0
abbrev pub EveryListWith : Type 0
EveryListWith = (k : Parameters) → AcceptedWith (fresh_with k) → (es : List Event)
    → Demand3With k es (steps_with (fresh_with k).state es) (run_with (fresh_with k).state es)

-- [8.140] [12.90] and the state after it is sound
abbrev pub EveryTableSoundWith : Type 0
EveryTableSoundWith = (k : Parameters) → AcceptedWith (fresh_with k) → (es : List Event) → sound_with (run_with (fresh_with k).state es) ≡ true
