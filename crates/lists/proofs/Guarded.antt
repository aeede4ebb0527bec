-- What holds of every table that calls reach from a fresh one by the way that the lock excludes: the invariants of `Exclusion`, with the
-- limits at the start. Assumes nothing.
use Prim.Native.Nat.{ℕ}
use mathlib.Core.Path.{subst}
use mathlib.Core.List.{List}
use Rattle.model.specs.declared.Parameters.{Parameters}
use Rattle.model.specs.Types.{State}
use Rattle.model.specs.Answers.{step_of}
use Rattle.model.specs.Facts.{Accepted, IsFresh}
use Rattle.model.specs.Calls.{Call, table_of, run_of}
use Rattle.theory.proofs.OwnLimits.{largest_stands}
use Rattle.lists.proofs.View.{Move, Timely, Kept}
use Rattle.lists.proofs.Exclusion.{Inv, fresh_inv, move_inv}
use Rattle.lists.proofs.StateView.{view_of, lock_of, fresh_view, view_timely}
use Rattle.lists.proofs.Moves.{view_moves, limits_kept}
use Rattle.lists.proofs.Calls.{call_keeps, run_keeps}
use Rattle.lists.proofs.Reached.{Reached, parameters-stand, fresh_plain, fresh_reached, Step, step_tells, step_reached}

-- s is reached with the parameters k, and the invariants hold
pub record Guarded (k : Parameters) (s : State) : Type 0 where
  pub reached : Reached k s
  pub inv : Inv (lock_of k) (view_of s)

-- The start

pub fresh_guarded : {s : State} → IsFresh s → Guarded s.parameters s
fresh_guarded fresh = record { reached = fresh_reached fresh; inv = fresh_inv (fresh_view (fresh_plain fresh)) }

-- An accepted step

module _ {k : Parameters} {s s' : State} {act p m : ℕ} (g : Guarded k s) (step : Step s act p m s') where
  pub step_move : Move (view_of s) (view_of s') act p m
  step_move = view_moves g.reached.sound step.allowed step.changed

  pub step_kept : Kept (lock_of k) (view_of s) p m
  step_kept = subst (λ (j : Parameters). Kept (lock_of j) (view_of s) p m) g.reached.parameters (limits_kept step.allowed g.reached.sound)

  pub step_guarded : Guarded k s'
  step_guarded = record {
    reached = step_reached g.reached step;
    inv = move_inv step_move g.inv (largest_stands k (parameters-stand g.reached)).apart step_kept;
  }

-- Calls

accepted_guarded : {k : Parameters} (s : State) (act p m : ℕ) → Accepted (step_of s act p m) → Guarded k s
    → Guarded k (step_of s act p m).state
accepted_guarded s act p m a g = step_guarded g (step_tells g.reached a)

module _ {k : Parameters} {s : State} where
  pub call_guarded : (d : Call) → Guarded k s → Guarded k (table_of s d)
  call_guarded = call_keeps (Guarded k) accepted_guarded

  pub run_guarded : (ds : List Call) → Guarded k s → Guarded k (run_of s ds)
  run_guarded = run_keeps (Guarded k) accepted_guarded

-- The limits of such a table

module _ {k : Parameters} {s : State} (g : Guarded k s) where
  pub timely_now : Timely (lock_of k) (view_of s) s.clock
  timely_now = subst (λ (j : Parameters). Timely (lock_of j) (view_of s) s.clock) g.reached.parameters
      (view_timely g.reached.sound g.reached.sound.in-time)
