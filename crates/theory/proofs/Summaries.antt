-- A summary is sound exactly when the plain facts hold, and a recorded step gives back what its answer tells. Assumes nothing.
use Prim.Native.Nat.{ℕ, zero, suc, ◌≤◌}
use mathlib.Core.Path.{◌≡◌, refl, sym, ap, ◌∙◌}
use mathlib.Core.Bool.{true, false}
use mathlib.Core.List.{List, [], ◌∷◌}
use native.Mathlib.Omega.{arith}
use lib.Dec.{leb}
use lib.ListN.{get_or}
use borrow.Author.Tests.{le-leb}
use Rattle.model.specs.Types.{State}
use Rattle.model.specs.Types.{Outcome}
use Rattle.model.specs.declared.Statistics.{Statistics}
use Rattle.model.specs.declared.Recorded.{Recorded}
use Rattle.model.specs.States.{sound_of}
use Rattle.model.specs.Answers.{step_of}
use Rattle.model.specs.Summaries.{waited_sound, counts_sound, statistics_sound, counting}
use Rattle.theory.specs.Summaries.{SummarySound, SummarySoundIffPlain, HasRoom, RecordedTells, RecordedIsPlain, EveryActCounted}
use Rattle.model.proofs.Tests.{if_eq, and_true_iff, clash, tests}
use Rattle.theory.proofs.Soundness.{sound_iff_plain}
use Rattle.theory.proofs.Acceptance.{accepted_iff_allowed, refused_stays}
use Rattle.theory.proofs.Steps.{unsound_iff_one, unsound_is, step_refuses}
use Rattle.theory.proofs.RecordedSteps.{Open, Judged, judged, accepted-counted, refused-counted}
use Rattle.theory.proofs.Countings.{refused_added, accepted_added}

-- Soundness

sound_fits : (clock : ℕ) (l : List ℕ) → waited_sound clock l ≡ true → (k : ℕ) → get_or l k 0 ≤ clock
unfolding waited_sound
sound_fits clock [] e k = omega arith
sound_fits clock (w ∷ ws) e zero = omega (arith, (simp tests at e).0)
sound_fits clock (w ∷ ws) e (suc k) = sound_fits clock ws ((and_true_iff (leb w clock) _).0 e).1 k

fits_sound : (clock : ℕ) (ws : List ℕ) → ((k : ℕ) → get_or ws k 0 ≤ clock) → waited_sound clock ws ≡ true
unfolding waited_sound
fits_sound clock [] h = refl
fits_sound clock (w ∷ ws) h = (and_true_iff _ _).1 (le-leb w clock (h 0), fits_sound clock ws (λ k. h (suc k)))

pub summary_sound_iff_plain : SummarySoundIffPlain
unfolding statistics_sound
summary_sound_iff_plain clock x = (
  λ e. let h = (and_true_iff (counts_sound x.counts) _).0 e in
      record { counts = omega (arith, simp tests at h.0); waited = sound_fits clock x.waited h.1 },
  λ h. simp tests (omega (arith, h.counts), fits_sound clock x.waited h.waited),
)

unsound_summary : {clock : ℕ} {x : Statistics} → statistics_sound clock x ≡ false → SummarySound clock x → ⊥
unsound_summary {clock} {x} e h = clash ((summary_sound_iff_plain clock x).1 h) e

-- The recorded step

module _ (s : State) (x : Statistics) (act p m : ℕ) where
  abbrev Tells : Recorded → Type 0
  Tells = RecordedTells s x act p m

  -- a step of a sound table answers none of 1, 2 and 3
  step_none : sound_of s ≡ true → (step_of s act p m).answer.code ≤ 3 → (step_of s act p m).answer.code ≡ 0
  step_none sound h =
      if_eq (step_of s act p m).answer.code 0 (λ e. e) (λ n. absurd (omega (arith, step_refuses s act p m sound n)))

  open_room : Open s x act p m → HasRoom s.clock x
  open_room o = record { sound = (summary_sound_iff_plain s.clock x).0 o.summary; not_full = o.not_full }

  counted_tells : sound_of s ≡ true → HasRoom s.clock x → Tells (counting s x act p m (step_of s act p m))
  counted_tells sound room =
      let none = step_none sound in
      record {
        one = unsound_iff_one s act p m;
        two = (λ e. absurd (omega (arith, none (omega arith))), λ h. absurd (h.1 room.sound));
        three = (λ e. absurd (omega (arith, none (omega arith))), λ h. absurd (room.not_full h.2));
        step = λ _. refl;
        unchanged = λ h k. absurd (omega (arith, none (omega arith)));
      }

  judged_tells : {r : Recorded} → Judged s x act p m r → Tells r
  judged_tells (Judged.no_table e) = record {
    one = (λ _. e, λ _. refl);
    two = (λ c. absurd (omega arith), λ h. clash h.0 e);
    three = (λ c. absurd (omega arith), λ h. clash h.0 e);
    step = λ _. sym (unsound_is s act p m e);
    unchanged = λ h k. (refl, refl, refl);
  }
  judged_tells (Judged.no-summary sound e) = record {
    one = (λ c. absurd (omega arith), λ f. clash sound f);
    two = (λ c. (sound, unsound_summary e), λ _. refl);
    three = (λ c. absurd (omega arith), λ h. absurd (unsound_summary e h.1));
    step = λ room. absurd (unsound_summary e room.sound);
    unchanged = λ h k. (refl, refl, refl);
  }
  judged_tells (Judged.filled sound stands e) =
      let plain = (summary_sound_iff_plain s.clock x).0 stands in
      record {
        one = (λ c. absurd (omega arith), λ f. clash sound f);
        two = (λ c. absurd (omega arith), λ h. absurd (h.1 plain));
        three = (λ c. (sound, plain, e), λ _. refl);
        step = λ room. absurd (room.not_full e);
        unchanged = λ h k. (refl, refl, refl);
      }
  judged_tells (Judged.counted o) = counted_tells o.sound (open_room o)

pub recorded_is_plain : RecordedIsPlain
recorded_is_plain s x act p m = judged_tells s x act p m (judged s x act p m)

-- What is counted

pub every_act_counted : EveryActCounted
every_act_counted s x plain room size act p m =
    let sound = (sound_iff_plain s).1 plain in
    let step = (recorded_is_plain s x act p m).step room in
    let why = judged s x act p m in
    record {
      step = step;
      refused = λ n. (
        ap (λ (o : Outcome). o.state) step ∙ refused_stays s act p m (rw step at n),
        rw (refused-counted s x act p m why (rw step (step_refuses s act p m sound (rw step at n)).some)) (refused_added x),
      );
      accepted = λ e.
          let allowed = (accepted_iff_allowed s sound act p m).0 (rw step at e) in
          rw (accepted-counted s x act p m why e) (accepted_added plain allowed x size);
    }
