-- What both conversions need: a wait at a state's own clock is accepted just where the state is sound, and what an array is that calls make of
-- its places. Assumes nothing.
use Rattle.std.proofs.Common.{◌≡◌, ◌↔◌, ℕ, zero, suc, ◌+◌, ◌≤◌, ◌<◌, true, List, ◌∷◌, length, get_or, take, drop}
use Rattle.std.proofs.Common.{refl, sym, ap, ◌∙◌, arith, take_all}
use mathlib.Core.Logic.{inl}
use Rattle.std.specs.Fn.{Mut}
use Rattle.std.specs.Iterator.{ActsAs}
use Rattle.std.specs.Array.{IsFromFnResultFrom, IsFromFnResult}
use Rattle.model.proofs.Lists.{drop_at}
use Rattle.model.specs.Types.{State}
use Rattle.model.specs.Acts.{wait_act}
use Rattle.model.specs.States.{sound_of}
use Rattle.model.specs.Answers.{step_of}
use Rattle.model.specs.Facts.{Accepted}
use Rattle.deadlines.specs.Types.{DeadlineState}
use Rattle.deadlines.specs.Deadlines.{sound_with, step_with}
use Rattle.deadlines.specs.Matching.{arrived}
use Rattle.model.proofs.Tests.{by_test}
use Rattle.theory.proofs.Acceptance.{accepted_iff_allowed}
use Rattle.theory.proofs.Soundness.{sound_iff_plain}
use Rattle.theory.proofs.Steps.{stepped, accepted_is}
use Rattle.deadlines.proofs.Matched.{step_same, sound_same, sound_matched}
use Rattle.deadlines.proofs.Judging.{exit_unsound_with}

-- A wait at the clock

pub sound_iff_waits : (s : State) → (sound_of s ≡ true) ↔ Accepted (step_of s wait_act 0 s.clock)
sound_iff_waits s = (
  λ e. let h = (sound_iff_plain s).0 e in
      (accepted_iff_allowed s e wait_act 0 s.clock).1
      (record { forward = omega arith; within = h.clock; in-time = h.in-time; turn = inl (record { wait = refl; nobody = refl }) }),
  λ e. (sound_iff_plain s).1 (accepted_is (stepped s wait_act 0 s.clock) e).sound,
)

-- of the second engine, by the state of the arrivals
pub sound_iff_waits_with : (d : DeadlineState) → (sound_with d ≡ true) ↔ ((step_with d wait_act 0 d.clock).answer.code ≡ 0)
sound_iff_waits_with d = (
  λ e. let same = sound_matched d e in
      let sound = sym (sound_same (arrived d)) ∙ ap sound_with same ∙ e in
      rw (← same, step_same (arrived d) wait_act 0 d.clock) ((sound_iff_waits (arrived d)).0 sound),
  λ e. by_test (sound_with d) (λ h. h) (λ h. absurd (omega (arith, rw (← exit_unsound_with d wait_act 0 d.clock h) at e))),
)

-- An array that calls which act as h make of its places, where `made` has what h gives

module _ {F B : Type 0} (g : Mut F (ℕ × Unit {0}) B) (f : F) (h : ℕ → B) (acts : ActsAs g f h) (made ys : List B) (d : B)
    (same : (i : ℕ) → i < length made → h i ≡ get_or made i d) where
  placed_from : (i n : ℕ) → i + n ≤ length made → i + n ≤ length ys → IsFromFnResultFrom g f ys i n → take n (drop i ys) ≡ take n (drop i made)
  placed_from i zero a b m = refl
  placed_from i (suc n) a b m =
      let called = acts i m.1 m.0 m.3 in
      let rest : IsFromFnResultFrom g f ys (i + 1) n = rw called.0 at m.4 in
      rw (drop_at ys i m.1 (omega arith), drop_at made i d (omega arith), m.2.0, called.1, same i (omega arith))
      (ap (λ (l : List B). get_or made i d ∷ l) (placed_from (i + 1) n (omega arith) (omega arith) rest))

  pub placed : (n : ℕ) → length made ≡ n → IsFromFnResult g f ys n → ys ≡ made
  placed n size m =
      sym (take_all n ys (omega (arith, m.long))) ∙ placed_from 0 n (omega arith) (omega (arith, m.long)) m.each ∙ take_all n made (omega arith)
