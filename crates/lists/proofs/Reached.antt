-- What holds of every table that calls reach from a fresh one, however the lock excludes: its parameters are those at the start, it has
-- 96 entries, and it is sound. `Guarded` adds the invariants of the lock. Assumes nothing.
use Prim.Native.Nat.{ℕ}
use mathlib.Core.Path.{◌≡◌, refl, subst, ◌∙◌}
use mathlib.Core.Bool.{true}
use mathlib.Core.List.{List}
use Rattle.model.specs.declared.Parameters.{Parameters}
use Rattle.model.specs.Types.{State}
use Rattle.model.specs.States.{sound_of}
use Rattle.model.specs.Answers.{step_of}
use Rattle.model.specs.Facts.{Accepted, IsFresh}
use Rattle.model.specs.Calls.{Call, run_of}
use Rattle.theory.specs.Soundness.{ParametersStand, Sound, Fresh}
use Rattle.theory.specs.Acceptance.{Allowed, Changed}
use Rattle.theory.proofs.Soundness.{sound_iff_plain, fresh_is_plain}
use Rattle.theory.proofs.Acceptance.{accepted_iff_allowed, next_is_changed}
use Rattle.theory.proofs.StaysSound.{stays_sound}
use Rattle.lists.proofs.Calls.{run_keeps}
use Rattle.lists.proofs.Sizes.{Whole}

-- of the table s, which was fresh with the parameters k
pub record Reached (k : Parameters) (s : State) : Type 0 where
  pub parameters : s.parameters ≡ k
  pub size : Whole s
  pub sound : Sound s

pub parameters-stand : {k : Parameters} {s : State} → Reached k s → ParametersStand k
parameters-stand r = subst ParametersStand r.parameters r.sound.parameters

-- The start

module _ {s : State} (fresh : IsFresh s) where
  pub fresh_plain : Fresh fresh.parameters s
  fresh_plain = rw fresh.is ((fresh_is_plain fresh.parameters).fresh fresh.accepted)

  fresh_sound : sound_of s ≡ true
  fresh_sound = rw fresh.is ((fresh_is_plain fresh.parameters).sound fresh.accepted)

  pub fresh_reached : Reached s.parameters s
  fresh_reached = record { parameters = refl; size = fresh_plain.size; sound = (sound_iff_plain s).0 fresh_sound }

-- An accepted step

-- what the theory of a step tells of it: s' is s after the act
pub record Step (s : State) (act p m : ℕ) (s' : State) : Type 0 where
  pub allowed : Allowed s act p m
  pub changed : Changed s act p m s'

module _ {k : Parameters} {s : State} {act p m : ℕ} (r : Reached k s) where
  pub step_tells : Accepted (step_of s act p m) → Step s act p m (step_of s act p m).state
  step_tells a = record {
    allowed = (accepted_iff_allowed s ((sound_iff_plain s).1 r.sound) act p m).0 a;
    changed = next_is_changed s r.size act p m a;
  }

  pub step_reached : {s' : State} → Step s act p m s' → Reached k s'
  step_reached step = record {
    parameters = step.changed.parameters_stay ∙ r.parameters;
    size = step.changed.size_stays ∙ r.size;
    sound = stays_sound r.sound step.allowed step.changed;
  }

-- Calls

module _ {k : Parameters} {s : State} where
  pub run_reached : (ds : List Call) → Reached k s → Reached k (run_of s ds)
  run_reached = run_keeps (Reached k) (λ t act p m a r. step_reached r (step_tells r a))
