-- What a step gives, and why: a refusal whose condition is the first that holds, or acceptance of an act that is allowed. For all of the
-- theory `step_of` is taken apart here. Assumes nothing.
use Prim.Native.Nat.{ℕ, ◌≤◌}
use mathlib.Core.Path.{◌≡◌, refl}
use mathlib.Core.Logic.{◌≢◌}
use mathlib.Core.Bool.{true, false, not}
use native.Mathlib.Omega.{arith}
use borrow.Author.Tests.{ltb-true, ltb-false, lt-ltb, le-ltb, ne_eqb, not-true, not-false}
use Rattle.model.specs.Types.{State}
use Rattle.model.specs.Types.{Outcome}
use Rattle.model.specs.States.{stage_of, release, sound_of, entry_of}
use Rattle.model.specs.Acts.{wait_act}
use Rattle.model.specs.Actions.{effect}
use Rattle.model.specs.Answers.{answers, backward, beyond, unknown, misnamed, first_deadline, missed, misplaced, early, accepts, step_of}
use Rattle.model.specs.Facts.{Accepted}
use Rattle.theory.specs.Soundness.{Sound, UnsoundIffOne}
use Rattle.theory.specs.Acceptance.{Allowed}
use Rattle.theory.specs.Lateness.{AllInTime}
use Rattle.theory.specs.Refusals.{InPlace, Forward, Within, Known, Named, OnTime, Refusal}
use Rattle.model.proofs.Tests.{by_test, by_cond, tests}
use Rattle.theory.proofs.Rows.{placed_checks, checks_placed}
use Rattle.theory.proofs.Soundness.{sound_iff_plain}
use Rattle.theory.proofs.Lateness.{missed_first, first_is_due, none_missed_iff_all_in_time}
use Rattle.theory.proofs.Conditions.{opposite, misnamed_told, misplaced_told, placed_told, release_is, early_told, turn_fits, fits_turn}

module _ (s : State) (act p m : ℕ) where
  -- From the conditions to the step

  -- the tests of 1, 4, 5, 6 and 7 fail
  record Admitted : Type 0 where
    sound : sound_of s ≡ true
    forward : backward s.clock m ≡ false
    within : beyond m ≡ false
    known : unknown act ≡ false
    named : misnamed s.parameters.n act p ≡ false

  admitted : Named s act p m → Admitted
  admitted h =
      let w = h.before.before in
      record {
        sound = (sound_iff_plain s).1 w.before.sound;
        forward = le-ltb _ _ w.before.forward;
        within = le-ltb _ _ w.within;
        known = le-ltb _ _ h.before.known;
        named = (opposite (misnamed_told s.parameters.n act p)).1 h.named;
      }

  none_missed : AllInTime s m → missed (first_deadline s) m ≡ false
  none_missed = (none_missed_iff_all_in_time s m).1

  pub refusal_step : {code process time : ℕ} → Refusal s act p m code process time → step_of s act p m ≡ answers code process time s
  unfolding step_of
  refusal_step (Refusal.unsound n) = simp ((opposite (sound_iff_plain s)).1 n)
  refusal_step (Refusal.backward h k) = simp ((sound_iff_plain s).1 h, lt-ltb _ _ k)
  refusal_step (Refusal.beyond h k) = simp ((sound_iff_plain s).1 h.sound, le-ltb _ _ h.forward, lt-ltb _ _ k)
  refusal_step (Refusal.unknown h k) =
      let f = h.before in
      simp ((sound_iff_plain s).1 f.sound, le-ltb _ _ f.forward, le-ltb _ _ h.within, lt-ltb _ _ k)
  refusal_step (Refusal.misnamed h k) =
      let f = h.before.before in
      simp (
        (sound_iff_plain s).1 f.sound,
        le-ltb _ _ f.forward,
        le-ltb _ _ h.before.within,
        le-ltb _ _ h.known,
        (misnamed_told _ _ _).1 k,
      )
  refusal_step (Refusal.late i d h k) =
      let a = admitted h in
      simp (
        a.sound,
        a.forward,
        a.within,
        a.known,
        a.named,
        first_is_due k.first,
        ne_eqb i 0 (omega (arith, k.first.has.from)),
        lt-ltb _ _ k.missed,
      )
  refusal_step (Refusal.misplaced h n k) =
      let a = admitted h.before in
      let e = (misplaced_told s act p h.before.before.known).1 (n, k) in
      simp (a.sound, a.forward, a.within, a.known, a.named, none_missed h.in-time, e)
  refusal_step (Refusal.early t h c at k) =
      let a = admitted h.before in
      let placed = (placed_told s act p h.before.before.known).1 (λ _. checks_placed s p c at) in
      let e = (early_told s act p m at).1 (c, k) in
      simp (a.sound, a.forward, a.within, a.known, a.named, none_missed h.in-time, placed, e) (rw (release_is s p at))

  pub allowed_step : Sound s → Allowed s act p m → step_of s act p m ≡ accepts (effect s act p m)
  unfolding step_of
  allowed_step sound h =
      let f = turn_fits s act p m h.turn in
      simp (
        (sound_iff_plain s).1 sound,
        le-ltb _ _ h.forward,
        le-ltb _ _ h.within,
        le-ltb _ _ f.known,
        f.named,
        none_missed h.in-time,
        f.placed,
        f.released,
      )

  -- From the step to the conditions

  pub data Stepped : Outcome → Type 0 where
    refused : {code process time : ℕ} → Refusal s act p m code process time → Stepped (answers code process time s)
    accepted : Sound s → Allowed s act p m → Stepped (accepts (effect s act p m))

  -- past 9 too
  record Placed : Type 0 where
    before : OnTime s act p m
    placed : act ≢ wait_act → InPlace s act p

  too_early : Placed → early (release s (entry_of s p)) act m ≡ true → Refusal s act p m 10 p (release s (entry_of s p))
  too_early h e =
      let check = (simp tests at e).0 in
      let at = placed_checks s p check (h.placed (omega arith)) in
      rw (release_is s p at) (Refusal.early _ h.before check at ((early_told s act p m at).0 e).1)

  passed : Placed → early (release s (entry_of s p)) act m ≡ false → Stepped (accepts (effect s act p m))
  passed h e =
      let known = h.before.before.before in
      accepted known.before.before.sound (record {
        forward = known.before.before.forward;
        within = known.before.within;
        in-time = h.before.in-time;
        turn = fits_turn s act p m (record {
          known = known.known;
          named = (opposite (misnamed_told s.parameters.n act p)).1 h.before.before.named;
          placed = (placed_told s act p known.known).1 h.placed;
          released = e;
        });
      })

  pub stepped : Stepped (step_of s act p m)
  unfolding step_of
  stepped =
      by_cond Stepped (not (sound_of s)) (λ e. refused (Refusal.unsound ((opposite (sound_iff_plain s)).0 (not-true _ e))))
      (λ g₁. let sound = (sound_iff_plain s).0 (not-false _ g₁) in
      by_cond Stepped (backward s.clock m) (λ e. refused (Refusal.backward sound (ltb-true _ _ e)))
      (λ g₄. let forward : Forward s m = record { sound = sound; forward = ltb-false _ _ g₄ } in
      by_cond Stepped (beyond m) (λ e. refused (Refusal.beyond forward (ltb-true _ _ e)))
      (λ g₅. let within : Within s m = record { before = forward; within = ltb-false _ _ g₅ } in
      by_cond Stepped (unknown act) (λ e. refused (Refusal.unknown within (ltb-true _ _ e)))
      (λ g₆. let known : Known s act m = record { before = within; known = ltb-false _ _ g₆ } in
      let told = misnamed_told s.parameters.n act p in
      by_cond Stepped (misnamed s.parameters.n act p) (λ e. refused (Refusal.misnamed known (told.0 e)))
      (λ g₇. let named : Named s act p m = record { before = known; named = (opposite told).0 g₇ } in
      by_cond Stepped (missed (first_deadline s) m) (λ e. refused (Refusal.late _ _ named (missed_first s m e)))
      (λ g₈. let in-time : OnTime s act p m = record { before = named; in-time = (none_missed_iff_all_in_time s m).0 g₈ } in
      by_cond Stepped (misplaced (stage_of (entry_of s p).location) act)
      (λ e. let h = (misplaced_told s act p known.known).0 e in refused (Refusal.misplaced in-time h.0 h.1))
      (λ g₉. let placed : Placed = record { before = in-time; placed = (placed_told s act p known.known).0 g₉ } in
      by_cond Stepped (early (release s (entry_of s p)) act m) (λ e. refused (too_early placed e)) (λ g₁₀. passed placed g₁₀))))))))

-- What an answer tells

-- the numbers that a summary counts as refused
pub record Refuses (code : ℕ) : Type 0 where
  pub some : 4 ≤ code
  pub most : code ≤ 10

-- the number of a refusal, which is 1 only of a state that is not sound
record Refusing (s : State) (code : ℕ) : Type 0 where
  some : code ≢ 0
  counted : Sound s → Refuses code

-- an accepted act was allowed, and has its effect
pub record Taken (s : State) (act p m : ℕ) (o : Outcome) : Type 0 where
  pub sound : Sound s
  pub allowed : Allowed s act p m
  pub is : o ≡ accepts (effect s act p m)

module _ {s : State} {act p m : ℕ} where
  refusal_code : {code process time : ℕ} → Refusal s act p m code process time → Refusing s code
  refusal_code (Refusal.unsound n) = record { some = omega arith; counted = λ h. absurd (n h) }
  refusal_code (Refusal.backward _ _) = omega arith
  refusal_code (Refusal.beyond _ _) = omega arith
  refusal_code (Refusal.unknown _ _) = omega arith
  refusal_code (Refusal.misnamed _ _) = omega arith
  refusal_code (Refusal.late _ _ _ _) = omega arith
  refusal_code (Refusal.misplaced _ _ _) = omega arith
  refusal_code (Refusal.early _ _ _ _ _) = omega arith

  pub accepted_is : {o : Outcome} → Stepped s act p m o → Accepted o → Taken s act p m o
  accepted_is (refused r) e = absurd ((refusal_code r).some e)
  accepted_is (accepted sound h) e = record { sound = sound; allowed = h; is = refl }

  sound_refuses : {o : Outcome} → Stepped s act p m o → Sound s → o.answer.code ≢ 0 → Refuses o.answer.code
  sound_refuses (refused r) h n = (refusal_code r).counted h
  sound_refuses (accepted _ _) h n = absurd (n refl)

module _ (s : State) (act p m : ℕ) where
  pub step_refuses : sound_of s ≡ true → (step_of s act p m).answer.code ≢ 0 → Refuses (step_of s act p m).answer.code
  step_refuses e = sound_refuses (stepped s act p m) ((sound_iff_plain s).0 e)

  pub unsound_is : sound_of s ≡ false → step_of s act p m ≡ answers 1 0 0 s
  unsound_is e = refusal_step s act p m (Refusal.unsound ((opposite (sound_iff_plain s)).0 e))

pub unsound_iff_one : UnsoundIffOne
unsound_iff_one s act p m = (
  λ e. by_test (sound_of s) (λ f. absurd (omega (arith, step_refuses s act p m f (omega arith)))) (λ f. f),
  λ f. rw (unsound_is s act p m f),
)
