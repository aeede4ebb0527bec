-- The table along a list of recorded steps: at most one process is critical in it, and the log tells its clock and who that is.
-- Assumes nothing.
use Prim.Native.Nat.{ℕ}
use mathlib.Core.Path.{◌≡◌, refl, sym, ap, ◌∙◌}
use mathlib.Core.Bool.{false}
use mathlib.Core.List.{List, [], ◌∷◌}
use native.Mathlib.Omega.{arith}
use Rattle.model.specs.declared.Parameters.{Parameters}
use Rattle.model.specs.Types.{State}
use Rattle.model.specs.States.{stage_of}
use Rattle.model.specs.Answers.{critical_of}
use Rattle.model.specs.Facts.{IsFresh}
use Rattle.model.specs.Summaries.{unused_time}
use Rattle.model.specs.Tallies.{Attempt, attempt, is_accepted, clock_after, critical_after, unused_after}
use Rattle.theory.specs.Acceptance.{Allowed, Changed}
use Rattle.theory.proofs.Lowest.{nobody_critical}
use Rattle.lists.proofs.Reached.{fresh_plain}
use Rattle.lists.proofs.Guarded.{Guarded, fresh_guarded, step_guarded}
use Rattle.lists.proofs.Demand3.{one_critical}
use Rattle.tallies.proofs.ActKinds.{turn_some, turn_kind}
use Rattle.tallies.proofs.Logs.{skipped, refused_unmarked, unheard}
use Rattle.tallies.proofs.Critical.{critical-after}

-- after the steps of a log, with the table s
pub record StateAlong (log : List Attempt) (s : State) : Type 0 where
  pub parameters : Parameters
  pub guarded : Guarded parameters s
  pub clock : s.clock ≡ clock_after log
  pub critical : critical_of s ≡ critical_after log

pub state_start : {s : State} → IsFresh s → StateAlong [] s
unfolding clock_after critical_after
state_start {s} f =
    let fresh = fresh_plain f in
    record {
      parameters = s.parameters;
      guarded = fresh_guarded f;
      clock = fresh.clock_is;
      critical = (nobody_critical s).1 (λ i c. omega (arith, ap stage_of (sym (fresh.all i) ∙ c.at)));
    }

module _ {log : List Attempt} {s : State} (h : StateAlong log s) where
  pub unused_told : (m : ℕ) → unused_time s m ≡ unused_after log m
  unused_told m = rw (h.critical, h.clock)

  -- an attempt that was not accepted
  pub state_refused : (e : Attempt) → is_accepted e ≡ false → StateAlong (e ∷ log) s
  state_refused e f = record {
    parameters = h.parameters;
    guarded = h.guarded;
    clock = h.clock ∙ sym (unheard e log f).clock;
    critical = h.critical ∙ sym (skipped e log (refused_unmarked f)).critical;
  }

  pub state_accepted : {s' : State} {act p m : ℕ} → Allowed s act p m → Changed s act p m s' → StateAlong (attempt act p m 0 ∷ log) s'
  unfolding clock_after critical_after
  state_accepted {s'} {p = p} allowed changed =
      let next = step_guarded h.guarded (record { allowed = allowed; changed = changed }) in
      record {
        parameters = h.parameters;
        guarded = next;
        clock = changed.clock_is;
        critical = rw (← h.critical)
            (critical-after s s' p changed.others_stay (turn_kind changed allowed.turn) refl refl (turn_some allowed.turn)
            (one_critical h.guarded) (one_critical next));
      }
