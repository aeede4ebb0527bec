-- Acceptance: `step_of` accepts exactly the acts that the algorithm allows, makes of the state what the acts table says,
-- and a refused step gives the state back. Assumes nothing.
use Prim.Native.Nat.{ℕ, ◌-◌, ◌≤◌}
use mathlib.Core.Path.{◌≡◌, refl}
use mathlib.Core.Logic.{⊎_elim, ◌≢◌}
use native.Mathlib.Omega.{arith}
use lib.ListN.{length, length-set}
use borrow.Author.Tests.{ne_eqb}
use Rattle.model.specs.Types.{State}
use Rattle.model.specs.Types.{Outcome}
use Rattle.model.specs.Acts.{wait_act}
use Rattle.model.specs.States.{entry_of}
use Rattle.model.specs.Actions.{transition_of, effect}
use Rattle.theory.specs.Soundness.{Sound}
use Rattle.theory.specs.Acceptance.{Acts, Allowed, Changed}
use Rattle.theory.specs.Acceptance.{AcceptedIffAllowed, NextIsChanged, RefusedStays, WaitNowChangesNothing}
use Rattle.theory.proofs.Entries.{moved_own, moved_other}
use Rattle.theory.proofs.Rows.{from_ready, row_effect}
use Rattle.theory.proofs.Soundness.{sound_iff_plain}
use Rattle.theory.proofs.Steps.{Stepped, stepped, allowed_step, accepted_is}

-- What an accepted act changes

module _ (s : State) (p m : ℕ) where
  wait_changes : Changed s wait_act p m (effect s wait_act p m)
  unfolding effect entry_of
  wait_changes = record {
    parameters_stay = refl;
    size_stays = refl;
    clock_is = refl;
    others_stay = λ i h n. refl;
    wait_keeps = λ e. refl;
    effect = λ n. absurd (n refl);
  }

  act_changes : {act : ℕ} → p ≤ length s.processes → Acts s act p m → Changed s act p m (effect s act p m)
  unfolding effect
  act_changes {act} fits a =
      let n = (from_ready a.from).not_wait in
      let t = transition_of s.word act p m in
      rw (ne_eqb act wait_act n)
      (record {
        parameters_stay = refl;
        size_stays = length-set s.processes (p - 1) _;
        clock_is = refl;
        others_stay = moved_other s p m t a.some;
        wait_keeps = λ e. absurd (n e);
        effect = λ _. rw (moved_own s p m t a.some fits) (row_effect s p a.from);
      })

allowed_changes : (s : State) → length s.processes ≡ 96 → {act p m : ℕ} → Sound s → Allowed s act p m
    → Changed s act p m (effect s act p m)
allowed_changes s size {act} {p} {m} sound h = ⊎_elim
    (λ w. rw w.wait (wait_changes s p m))
    (λ a. act_changes s p m (omega (arith, a.most, sound.parameters.count.most)) a)
    h.turn

-- The step

wait_stays : {s : State} {o : Outcome} → Stepped s wait_act 0 s.clock o → o.state ≡ s
unfolding effect
wait_stays (Stepped.refused _) = refl
wait_stays (Stepped.accepted _ _) = refl

refusal_stays : {s : State} {act p m : ℕ} {o : Outcome} → Stepped s act p m o → o.answer.code ≢ 0 → o.state ≡ s
refusal_stays (Stepped.refused _) n = refl
refusal_stays (Stepped.accepted _ _) n = absurd (n refl)

pub accepted_iff_allowed : AcceptedIffAllowed
accepted_iff_allowed s sound act p m = (
  λ a. (accepted_is (stepped s act p m) a).allowed,
  λ h. rw (allowed_step s act p m ((sound_iff_plain s).0 sound) h),
)

pub next_is_changed : NextIsChanged
next_is_changed s size act p m a =
    let t = accepted_is (stepped s act p m) a in
    rw t.is (allowed_changes s size t.sound t.allowed)

pub refused_stays : RefusedStays
refused_stays s act p m = refusal_stays (stepped s act p m)

pub wait_now_changes_nothing : WaitNowChangesNothing
wait_now_changes_nothing s = wait_stays (stepped s wait_act 0 s.clock)
