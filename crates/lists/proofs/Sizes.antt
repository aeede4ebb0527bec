-- A call leaves a table its 96 entries, and a recorded step leaves a summary its 96 waits so far, as they were or as an allowed act has
-- them. Assumes nothing.
use Prim.Native.Nat.{ℕ}
use mathlib.Core.Path.{◌≡◌, refl, ◌∙◌}
use mathlib.Core.List.{List}
use lib.ListN.{length}
use Rattle.model.specs.Types.{State}
use Rattle.model.specs.declared.Statistics.{Statistics}
use Rattle.model.specs.declared.Recorded.{Recorded}
use Rattle.model.specs.Answers.{step_of}
use Rattle.model.specs.Facts.{Accepted}
use Rattle.model.specs.Summaries.{waited_after, accepted_counted, recorded_of}
use Rattle.model.specs.Calls.{Call, table_of, run_of}
use Rattle.theory.specs.Acceptance.{Allowed}
use Rattle.model.proofs.Tests.{if_eq}
use Rattle.theory.proofs.Acceptance.{accepted_iff_allowed, next_is_changed}
use Rattle.theory.proofs.RecordedSteps.{Judged, judged, answer_accepted, answer_refused}
use Rattle.theory.proofs.Waits.{length_waited_after}
use Rattle.lists.proofs.Calls.{call_keeps, run_keeps}

-- Tables

abbrev pub Whole : State → Type 0
Whole s = length s.processes ≡ 96

step_whole : (s : State) (act p m : ℕ) → Accepted (step_of s act p m) → Whole s → Whole (step_of s act p m).state
step_whole s act p m a whole = (next_is_changed s whole act p m a).size_stays ∙ whole

pub call_whole : (s : State) → Whole s → (d : Call) → Whole (table_of s d)
call_whole s whole d = call_keeps Whole step_whole d whole

pub run_whole : (s : State) → Whole s → (ds : List Call) → Whole (run_of s ds)
run_whole s whole ds = run_keeps Whole step_whole ds whole

-- Summaries

-- what holds of the waits so far before a recorded step, and after its act if that is allowed, holds of those that the step leaves
module _ (s : State) (x : Statistics) (act p m : ℕ) (P : List ℕ → Type 0)
    (same : P x.waited) (after : Allowed s act p m → P (waited_after s x.waited act p m)) where
  judged_waited : {r : Recorded} → Judged s x act p m r → P r.statistics.waited
  unfolding accepted_counted
  judged_waited (Judged.no_table _) = same
  judged_waited (Judged.no-summary _ _) = same
  judged_waited (Judged.filled _ _ _) = same
  judged_waited (Judged.counted o) = if_eq (step_of s act p m).answer.code 0
      (λ e. rw (answer_accepted s x act p m e) (after ((accepted_iff_allowed s o.sound act p m).0 e)))
      (λ n. rw (answer_refused s x act p m n) same)

  pub recorded_waited : P (recorded_of s x act p m).statistics.waited
  recorded_waited = judged_waited (judged s x act p m)

pub waited_as_long : (s : State) (x : Statistics) (act p m : ℕ)
    → length (recorded_of s x act p m).statistics.waited ≡ length x.waited
waited_as_long s x act p m = recorded_waited s x act p m (λ (l : List ℕ). length l ≡ length x.waited) refl
    (λ _. length_waited_after s x.waited act p m)
