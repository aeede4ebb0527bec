-- A try, and directly after it a withdraw of the same process at the same time: the withdraw is accepted, and nothing of the two is left
-- but the clock. Assumes nothing.
use Prim.Native.Nat.{ℕ}
use mathlib.Core.Path.{◌≡◌, refl, sym, ap, ◌∙◌}
use mathlib.Core.Logic.{inr, ⊎_elim}
use native.Mathlib.Omega.{arith}
use Rattle.model.specs.Types.{Location}
use Rattle.model.specs.declared.Location.TheVariants.{Remainder, Testing}
use Rattle.model.specs.declared.Parameters.{Parameters}
use Rattle.model.specs.Types.{State}
use Rattle.model.specs.Acts.{try_act, withdraw_act}
use Rattle.model.specs.States.{entry, entry_of}
use Rattle.model.specs.Answers.{step_of}
use Rattle.theory.specs.Soundness.{Sound}
use Rattle.theory.specs.Acceptance.{From, Effect, Acts, Allowed, Changed, ClockOnly, WithdrawUndoesTry}
use Rattle.model.proofs.Tests.{if_eq}
use Rattle.theory.proofs.Entries.{entries_same}
use Rattle.theory.proofs.Soundness.{sound_iff_plain}
use Rattle.theory.proofs.Steps.{stepped, accepted_is}
use Rattle.theory.proofs.Acceptance.{accepted_iff_allowed, next_is_changed}
use Rattle.theory.proofs.StaysSound.{stays_sound}

-- The rows of the two acts

try_from : {b m : ℕ} {l : Location} → From b m try_act l → l ≡ Remainder
try_from From.try = refl

try_effect : {p m w w' : ℕ} {l : Location} → Effect p m try_act w l w' → (l ≡ Testing m) × (w' ≡ w)
try_effect Effect.try = (refl, refl)

withdraw_effect : {p m w w' : ℕ} {l : Location} → Effect p m withdraw_act w l w' → (l ≡ Remainder) × (w' ≡ w)
withdraw_effect Effect.withdraw = (refl, refl)

-- The states after them

module _ {s s' : State} {p m : ℕ} (sound : Sound s) (allowed : Allowed s try_act p m) (changed : Changed s try_act p m s') where
  tries : Acts s try_act p m
  tries = ⊎_elim (λ w. absurd (omega (arith, w.wait))) (λ a. a) allowed.turn

  tried : ((entry_of s' p).location ≡ Testing m) × (s'.word ≡ s.word)
  tried = try_effect (changed.effect (omega arith))

  withdraw_allowed : Allowed s' withdraw_act p m
  withdraw_allowed =
      let after = stays_sound sound allowed changed in
      let same = ap (λ (k : Parameters). k.n) changed.parameters_stay in
      record {
        forward = omega (arith, changed.clock_is);
        within = allowed.within;
        in-time = λ i d h. omega (arith, changed.clock_is, after.in-time i d h);
        turn = inr (record { some = tries.some; most = omega (arith, tries.most, same); from = rw tried.0 From.withdraw });
      }

  module _ {s'' : State} (again : Changed s' withdraw_act p m s'') where
    withdrawn : ((entry_of s'' p).location ≡ Remainder) × (s''.word ≡ s'.word)
    withdrawn = withdraw_effect (again.effect (omega arith))

    clock_only : ClockOnly s m s''
    clock_only = record {
      parameters_stay = again.parameters_stay ∙ changed.parameters_stay;
      clock_is = again.clock_is;
      word_stays = withdrawn.1 ∙ tried.1;
      entries_stay = entries_same s s'' (again.size_stays ∙ changed.size_stays) (λ i some. if_eq i p
          (λ e. rw e (ap entry (withdrawn.0 ∙ sym (try_from tries.from))))
          (λ n. again.others_stay i some n ∙ changed.others_stay i some n));
    }

-- The two steps

pub withdraw_undoes_try : WithdrawUndoesTry
withdraw_undoes_try s size p m a =
    let t = accepted_is (stepped s try_act p m) a in
    let changed = next_is_changed s size try_act p m a in
    let s' = (step_of s try_act p m).state in
    let sound = (sound_iff_plain s').1 (stays_sound t.sound t.allowed changed) in
    let back = (accepted_iff_allowed s' sound withdraw_act p m).1 (withdraw_allowed t.sound t.allowed changed) in
    record {
      accepted = back;
      state = clock_only t.sound t.allowed changed (next_is_changed s' (changed.size_stays ∙ size) withdraw_act p m back);
    }
