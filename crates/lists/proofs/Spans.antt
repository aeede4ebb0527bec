-- The owed wait of a list of calls: in a span a phase holds until the first accepted crit, so the clock stays within the bound.
-- Assumes nothing.
use Prim.Native.Nat.{ℕ, ◌+◌, ◌≤◌}
use mathlib.Core.Path.{◌≡◌, sym}
use mathlib.Core.Logic.{inl, inr}
use mathlib.Core.List.{List, [], ◌∷◌}
use native.Mathlib.Omega.{arith}
use Rattle.model.specs.declared.Parameters.{Parameters}
use Rattle.model.specs.Types.{State}
use Rattle.model.specs.Types.{Outcome}
use Rattle.model.specs.Acts.{crit_act, withdraw_act}
use Rattle.model.specs.Facts.{Accepted}
use Rattle.model.specs.Folds.{end_by}
use Rattle.model.specs.Calls.{Call, table_of, run_of}
use Rattle.lists.specs.Demand3.{InSpan, Span, NotWithdrawn}
use Rattle.lists.proofs.Wait.{Phase, Room, phase_start, phase_time, phase_step}
use Rattle.lists.proofs.StateView.{view_of, lock_of, trying_rank, none_critical, view_past}
use Rattle.lists.proofs.Calls.{Called, called}
use Rattle.lists.proofs.Reached.{step_tells}
use Rattle.lists.proofs.Guarded.{Guarded, step_move, step_kept, call_guarded, timely_now}

module _ (k : Parameters) (w W : ℕ) where
  abbrev InPhase : State → Type 0
  InPhase s = Phase (lock_of k) w W (view_of s)

  call_phase : {s : State} {d : Call} {o : Outcome} → Called s d o → Guarded k s → (d.action ≡ crit_act → Accepted o → ⊥)
      → (d.action ≡ withdraw_act → d.process ≡ w → Accepted o → ⊥) → InPhase s → InPhase o.state
  call_phase (Called.accepted a) g n stays h =
      let step = step_tells g.reached a in
      let move = step_move g step in
      phase_step (omega arith) move (step_kept g step) g.inv w W (λ z e. stays e (sym z) a) (λ e. n (move.is_crit e) a) h
  call_phase (Called.refused _ e) g n stays h = rw e h

  -- an accepted crit is at a time within the bound too
  call_clock : {s : State} {d : Call} {o : Outcome} → Called s d o → Guarded k s → InPhase s → o.state.clock ≤ W
  call_clock (Called.accepted a) g h =
      let step = step_tells g.reached a in
      omega (arith, step.changed.clock_is, phase_time (step_kept g step).timely h)
  call_clock (Called.refused n e) g h = rw e (phase_time (timely_now g) h)

  span_clock : (s : State) (ds : List Call) → Guarded k s → InPhase s → InSpan s ds → NotWithdrawn s w ds → (run_of s ds).clock ≤ W
  unfolding end_by
  span_clock s [] g h span stays = phase_time (timely_now g) h
  span_clock s (d ∷ ds) g h (inl e) stays = rw e (call_clock (called s d) g h)
  span_clock s (d ∷ ds) g h (inr span) stays =
      span_clock (table_of s d) ds (call_guarded d g)
      (call_phase (called s d) g (λ e a. span.0 (omega arith)) (λ e f a. stays.0 (omega arith)) h) span.1 stays.1

-- a span stays within any bound B that leaves room at its start
pub wait_within : {k : Parameters} {s : State} {w : ℕ} {ds : List Call} (B : ℕ) → Guarded k s → Span s w ds → NotWithdrawn s w ds
    → Room (lock_of k) (view_of s) w B → (run_of s ds).clock ≤ s.clock + B
wait_within {k} {s} {w} {ds} B g span stays room =
    let t = trying_rank span.trying in
    span_clock k w (s.clock + B) s ds g
    (phase_start g.inv (view_past g.reached.sound) w B room t.0 t.1 (none_critical span.none)) span.calls
    stays
