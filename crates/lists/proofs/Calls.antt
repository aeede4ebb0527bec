-- What a call gives back: what an accepted step does, or a refusal with the table as it was; so calls keep what accepted steps keep.
-- `call_of` is taken apart here for all theorems of lists. Assumes nothing.
use Prim.Native.Nat.{ℕ}
use mathlib.Core.Path.{◌≡◌, refl, ap}
use mathlib.Core.Logic.{◌≢◌}
use mathlib.Core.Bool.{false}
use mathlib.Core.List.{List, [], ◌∷◌}
use native.Mathlib.Omega.{arith}
use Rattle.model.specs.Types.{State}
use Rattle.model.specs.Types.{Outcome}
use Rattle.model.specs.declared.Recorded.{Recorded}
use Rattle.model.specs.States.{sound_of}
use Rattle.model.specs.Answers.{answers, step_of}
use Rattle.model.specs.Facts.{Accepted}
use Rattle.model.specs.Summaries.{beside}
use Rattle.model.specs.Folds.{end_by}
use Rattle.model.specs.Calls.{Call, call_of, outcome_of, table_of, run_of}
use Rattle.model.proofs.Tests.{if_eq, by_cond}
use Rattle.theory.proofs.Steps.{unsound_is}
use Rattle.theory.proofs.Acceptance.{refused_stays}
use Rattle.theory.proofs.RecordedSteps.{Judged, judged, unsound_recorded}

-- One call

abbrev pub step_for : State → Call → Outcome
step_for s d = step_of s d.action d.process d.time

pub data Called (s : State) (d : Call) : Outcome → Type 0 where
  accepted : Accepted (step_for s d) → Called s d (step_for s d)
  refused : {o : Outcome} → o.answer.code ≢ 0 → o.state ≡ s → Called s d o

module _ (s : State) (d : Call) where
  step_called : Called s d (step_for s d)
  step_called = if_eq (step_for s d).answer.code 0 accepted (λ n. refused n (refused_stays s d.action d.process d.time n))

  abbrev Gives : Recorded → Type 0
  Gives r = Called s d r.outcome

  answered : (code : ℕ) → code ≢ 0 → Called s d (answers code 0 0 s)
  answered code n = refused n refl

  judged_called : {r : Recorded} → Judged s d.lent d.action d.process d.time r → Gives r
  judged_called (Judged.no_table _) = answered 1 (omega arith)
  judged_called (Judged.no-summary _ _) = answered 2 (omega arith)
  judged_called (Judged.filled _ _ _) = answered 3 (omega arith)
  judged_called (Judged.counted _) = step_called

  pub called : Called s d (outcome_of s d)
  unfolding call_of
  called = by_cond Gives d.recorded (λ _. judged_called (judged s d.lent d.action d.process d.time)) (λ _. step_called)

  -- one that is accepted is its step
  accepted_is : {o : Outcome} → Called s d o → Accepted o → Accepted (step_for s d) × (o ≡ step_for s d)
  accepted_is (accepted a) _ = (a, refl)
  accepted_is (refused n _) a = absurd (n a)

  pub accepted_call : Accepted (outcome_of s d) → Accepted (step_for s d) × (outcome_of s d ≡ step_for s d)
  accepted_call = accepted_is called

  -- either kind answers 1 where the table is not sound
  pub unsound_call : sound_of s ≡ false → call_of s d ≡ beside d.lent (answers 1 0 0 s)
  unfolding call_of
  unsound_call e =
      by_cond (λ (r : Recorded). r ≡ beside d.lent (answers 1 0 0 s)) d.recorded
      (λ _. unsound_recorded s d.lent d.action d.process d.time e)
      (λ _. ap (beside d.lent) (unsound_is s d.action d.process d.time e))

-- What steps keep

-- what every accepted step keeps is kept by every call, and by every list of calls
module _ (P : State → Type 0)
    (keeps : (s : State) (act p m : ℕ) → Accepted (step_of s act p m) → P s → P (step_of s act p m).state) where
  called_keeps : {s : State} {d : Call} {o : Outcome} → Called s d o → P s → P o.state
  called_keeps {s} {d} (Called.accepted a) h = keeps s d.action d.process d.time a h
  called_keeps (Called.refused n e) h = rw e h

  pub call_keeps : {s : State} (d : Call) → P s → P (table_of s d)
  call_keeps {s} d = called_keeps (called s d)

  pub run_keeps : {s : State} (ds : List Call) → P s → P (run_of s ds)
  unfolding end_by
  run_keeps [] h = h
  run_keeps {s = s} (d ∷ ds) h = run_keeps {s = table_of s d} ds (call_keeps d h)
