-- Nobody is stuck: in a sound state a wait of one is accepted unless a deadline is the clock, and a process whose deadline it is may
-- act. Assumes nothing.
use Prim.Native.Nat.{ℕ, ◌+◌, ◌≤◌}
use mathlib.Core.Path.{refl, subst}
use mathlib.Core.Logic.{inl, inr, ◌↔◌}
use native.Mathlib.Omega.{arith}
use Rattle.model.specs.Types.{Location}
use Rattle.model.specs.Types.{State}
use Rattle.model.specs.Acts.{wait_act, test_act, set_act, check_act, crit_act, reset_act, rem_act}
use Rattle.model.specs.Answers.{step_of}
use Rattle.model.specs.Facts.{Accepted, LeadsOn, Deadline, HasDeadline}
use Rattle.theory.specs.Soundness.{Sound}
use Rattle.theory.specs.Acceptance.{From, Allowed}
use Rattle.lists.specs.Demand3.{WaitsUnlessDue, DueMayAct}
use Rattle.model.proofs.Tests.{if_eq, if_lt}
use Rattle.theory.proofs.Soundness.{sound_iff_plain}
use Rattle.theory.proofs.Acceptance.{accepted_iff_allowed}

-- where a location has a deadline it has an act that leads on, which by then is no longer early
due-from : {a b c m : ℕ} {l : Location} → b ≤ c → Deadline a c l m → (act : ℕ) × LeadsOn act × From b m act l
due-from h Deadline.testing = (test_act, omega arith, From.test)
due-from h Deadline.setting = (set_act, omega arith, From.set)
due-from h (Deadline.checking {t = t}) = (check_act, omega arith, From.check {t = t} (omega arith))
due-from h Deadline.entering = (crit_act, omega arith, From.crit)
due-from h Deadline.resetting = (reset_act, omega arith, From.reset)
due-from h Deadline.leaving = (rem_act, omega arith, From.rem)

module _ (s : State) (sound : Sound s) where
  allowed : (act p m : ℕ) → Accepted (step_of s act p m) ↔ Allowed s act p m
  allowed = accepted_iff_allowed s ((sound_iff_plain s).1 sound)

  pub waits_unless_due : WaitsUnlessDue s
  waits_unless_due below = (
    λ a i h. omega (arith, ((allowed wait_act 0 (s.clock + 1)).0 a).in-time i s.clock h),
    λ none. (allowed wait_act 0 (s.clock + 1)).1 (record {
      forward = omega arith;
      within = omega arith;
      in-time = λ i d h. if_eq d s.clock
          (λ e. absurd (none i (subst (HasDeadline s i) e h)))
          (λ n. omega (arith, sound.in-time i d h));
      turn = inl (record { wait = refl; nobody = refl });
    }),
  )

  -- above n all are in remainder, which has no deadline
  deadline_most : (i d : ℕ) → HasDeadline s i d → i ≤ s.parameters.n
  deadline_most i d h = if_lt s.parameters.n i (λ k. elim (rw (sound.above i k) at h.is) [ ]) (λ k. k)

  pub due_may_act : DueMayAct s
  due_may_act i h =
      let due = due-from sound.parameters.limits.order h.is in (
        due.0,
        due.1,
        (allowed due.0 i s.clock).1 (record {
          forward = omega arith;
          within = sound.clock;
          in-time = sound.in-time;
          turn = inr (record { some = h.from; most = deadline_most i s.clock h; from = due.2 });
        }),
      )
