-- An accepted act leaves a sound state sound. Assumes nothing.
use Prim.Native.Nat.{ℕ, ◌-◌, ◌≤◌}
use mathlib.Core.Path.{◌≡◌, sym, ap, subst}
use mathlib.Core.Logic.{⊎_elim, ◌≢◌}
use mathlib.Core.Bool.{true}
use native.Mathlib.Omega.{arith}
use lib.ListN.{length, get_or}
use Rattle.model.specs.Types.{Location}
use Rattle.model.specs.Types.{Process}
use Rattle.model.specs.declared.Parameters.{Parameters}
use Rattle.model.specs.Types.{State}
use Rattle.model.specs.Stages.{remainder, critical}
use Rattle.model.specs.States.{stage_of, since_of, entry_of, sound_of}
use Rattle.model.specs.Answers.{step_of}
use Rattle.model.specs.Facts.{Accepted, Deadline}
use Rattle.theory.specs.Soundness.{ParametersStand, Sound}
use Rattle.theory.specs.Acceptance.{Effect, Acts, Allowed, Changed}
use Rattle.model.proofs.Tests.{if_eq}
use Rattle.theory.proofs.Locations.{Latest, past_iff, deadline_bounded}
use Rattle.theory.proofs.Rows.{from_ready}
use Rattle.theory.proofs.Soundness.{EntryPlain, NumbersPlain, sound_from, sound_iff_plain}
use Rattle.theory.proofs.Acceptance.{accepted_iff_allowed, next_is_changed}

-- The acts table

-- process p comes to the location l at the time m, and leaves a word up to n
record Lands (n m : ℕ) (l : Location) (word : ℕ) : Type 0 where
  past : since_of l ≤ m
  now : stage_of l ≢ remainder → stage_of l ≢ critical → m ≤ since_of l
  named : word ≤ n

effect_lands : {p m act w w' n : ℕ} {l : Location} → Effect p m act w l w' → p ≤ n → w ≤ n → Lands n m l w'
effect_lands Effect.try h k = omega arith
effect_lands Effect.test_free h k = omega arith
effect_lands (Effect.test_taken _) h k = omega arith
effect_lands Effect.set h k = omega arith
effect_lands Effect.check_own h k = omega arith
effect_lands (Effect.check_other _) h k = omega arith
effect_lands Effect.crit h k = omega arith
effect_lands Effect.exit h k = omega arith
effect_lands Effect.reset h k = omega arith
effect_lands Effect.rem h k = omega arith
effect_lands Effect.withdraw h k = omega arith

-- The state after an accepted act

module _ {s s' : State} {act p m : ℕ} (sound : Sound s) (allowed : Allowed s act p m) (changed : Changed s act p m s') where
  count_stays : s'.parameters.n ≡ s.parameters.n
  count_stays = ap (λ (k : Parameters). k.n) changed.parameters_stay

  latest_stays : (i : ℕ) (q : Process) (d : ℕ) → Latest s' i q d → Latest s i q d
  latest_stays i q d = subst (λ (k : Parameters). Deadline (get_or k.a (i - 1) 0) k.c q.location d) changed.parameters_stay

  lands : Acts s act p m → Lands s.parameters.n m (entry_of s' p).location s'.word
  lands a = effect_lands (changed.effect (from_ready a.from).not_wait) a.most sound.word

  numbers_stay : NumbersPlain s'
  numbers_stay = record {
    parameters = subst ParametersStand (sym changed.parameters_stay) sound.parameters;
    clock = omega arith;
    word = ⊎_elim
        (λ w. omega (arith, count_stays, changed.wait_keeps w.wait))
        (λ a. omega (arith, count_stays, (lands a).named))
        allowed.turn;
  }

  own_stays : Acts s act p m → EntryPlain s' p (entry_of s' p)
  own_stays a = record {
    above = λ h. absurd (omega (arith, count_stays));
    past = λ t h. omega (arith, (past_iff m (entry_of s' p).location).0 (lands a).past t h);
    in-time = λ d h. let k = deadline_bounded h in omega (arith, (lands a).now k.not_remainder k.not_critical);
  }

  other_stays : (i : ℕ) → 1 ≤ i → i ≢ p → EntryPlain s' i (entry_of s' i)
  other_stays i some n = rw (changed.others_stay i some n) (record {
    above = λ h. sound.above i (omega (arith, count_stays));
    past = λ t h. omega (arith, sound.past i t h);
    in-time = λ d h. omega (arith, allowed.in-time i d (record { from = some; is = latest_stays i (entry_of s i) d h }));
  })

  entry_stays : (i : ℕ) → 1 ≤ i → EntryPlain s' i (entry_of s' i)
  entry_stays i some = if_eq i p
      (λ e. ⊎_elim
      (λ w. absurd (omega arith))
      (λ a. rw e (own_stays a))
      allowed.turn)
      (other_stays i some)

  pub stays_sound : Sound s'
  stays_sound = sound_from s' numbers_stay entry_stays

-- the same of `sound_of`
pub sound_kept : (s : State) → length s.processes ≡ 96 → (act p m : ℕ) → sound_of s ≡ true → Accepted (step_of s act p m)
    → sound_of (step_of s act p m).state ≡ true
sound_kept s size act p m e a = (sound_iff_plain (step_of s act p m).state).1
    (stays_sound ((sound_iff_plain s).0 e) ((accepted_iff_allowed s e act p m).0 a) (next_is_changed s size act p m a))
