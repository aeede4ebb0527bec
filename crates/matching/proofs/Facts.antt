-- The plain facts of a state of deadlines are those of the state that it matches: who is critical or trying, which times a process has, which actions
-- are allowed, and what they change. These laws look at each location, so that other proofs need not. Assumes nothing.
use Prim.Native.Nat.{ℕ, ◌≤◌}
use mathlib.Core.Path.{◌≡◌, refl, sym, ap, ◌∙◌}
use mathlib.Core.Logic.{inl, inr, ⊎_elim, ◌↔◌}
use native.Mathlib.Omega.{arith}
use Rattle.model.specs.Types.{Location}
use Rattle.model.specs.declared.Location.TheVariants.{Critical}
use Rattle.model.specs.Types.{State}
use Rattle.model.specs.States.{entry_of}
use Rattle.model.specs.Facts.{IsCritical, IsTrying, Tries, Arrival, Deadline, HasDeadline}
use Rattle.theory.specs.Soundness.{Sound}
use Rattle.theory.specs.Acceptance.{From, Effect, Acts, Allowed, Changed}
use Rattle.deadlines.specs.Types.{DeadlineLocation}
use Rattle.model.specs.declared.Location.TheVariants as with
use Rattle.deadlines.specs.Types.{DeadlineState}
use Rattle.deadlines.specs.Deadlines.{entry_with, entry_in}
use Rattle.deadlines.specs.Matching.{LocationsMatch, Matches}
use Rattle.theory.proofs.Locations.{trying_iff_plain}
use Rattle.matching.specs.Facts.{Times, HasTimes, IsCriticalWith, TriesWith, IsTryingWith}
use Rattle.matching.specs.Facts.{FromWith, ActsWith, AllowedWith, EffectWith, ChangedWith}
use Rattle.matching.proofs.Matchings.{one_location, size_same, places_match}

-- Two locations that match

module _ {a b c : ℕ} where
  critical_to : {q : DeadlineLocation} → LocationsMatch a b c Critical q → q ≡ with.Critical
  critical_to LocationsMatch.critical = refl

  critical_fro : {l : Location} → LocationsMatch a b c l with.Critical → l ≡ Critical
  critical_fro LocationsMatch.critical = refl

  tries_to : {l : Location} {q : DeadlineLocation} → LocationsMatch a b c l q → Tries l → TriesWith q
  tries_to LocationsMatch.testing Tries.testing = TriesWith.testing
  tries_to LocationsMatch.setting Tries.setting = TriesWith.setting
  tries_to LocationsMatch.checking Tries.checking = TriesWith.checking
  tries_to LocationsMatch.entering Tries.entering = TriesWith.entering
  tries_to LocationsMatch.remainder h = elim h [ ]
  tries_to LocationsMatch.critical h = elim h [ ]
  tries_to LocationsMatch.resetting h = elim h [ ]
  tries_to LocationsMatch.leaving h = elim h [ ]

  tries_fro : {l : Location} {q : DeadlineLocation} → LocationsMatch a b c l q → TriesWith q → Tries l
  tries_fro LocationsMatch.testing TriesWith.testing = Tries.testing
  tries_fro LocationsMatch.setting TriesWith.setting = Tries.setting
  tries_fro LocationsMatch.checking TriesWith.checking = Tries.checking
  tries_fro LocationsMatch.entering TriesWith.entering = Tries.entering
  tries_fro LocationsMatch.remainder h = elim h [ ]
  tries_fro LocationsMatch.critical h = elim h [ ]
  tries_fro LocationsMatch.resetting h = elim h [ ]
  tries_fro LocationsMatch.leaving h = elim h [ ]

  -- the last time is the deadline
  times_to : {l : Location} {q : DeadlineLocation} {x : ℕ} → LocationsMatch a b c l q → Deadline a c l x → (f : ℕ) × Times q f x
  times_to LocationsMatch.testing Deadline.testing = (_, Times.testing)
  times_to LocationsMatch.setting Deadline.setting = (_, Times.setting)
  times_to LocationsMatch.checking Deadline.checking = (_, Times.checking)
  times_to LocationsMatch.entering Deadline.entering = (_, Times.entering)
  times_to LocationsMatch.resetting Deadline.resetting = (_, Times.resetting)
  times_to LocationsMatch.leaving Deadline.leaving = (_, Times.leaving)
  times_to LocationsMatch.remainder h = elim h [ ]
  times_to LocationsMatch.critical h = elim h [ ]

  times_fro : {l : Location} {q : DeadlineLocation} {f x : ℕ} → LocationsMatch a b c l q → Times q f x → Deadline a c l x
  times_fro LocationsMatch.testing Times.testing = Deadline.testing
  times_fro LocationsMatch.setting Times.setting = Deadline.setting
  times_fro LocationsMatch.checking Times.checking = Deadline.checking
  times_fro LocationsMatch.entering Times.entering = Deadline.entering
  times_fro LocationsMatch.resetting Times.resetting = Deadline.resetting
  times_fro LocationsMatch.leaving Times.leaving = Deadline.leaving
  times_fro LocationsMatch.remainder h = elim h [ ]
  times_fro LocationsMatch.critical h = elim h [ ]

  module _ {m : ℕ} where
    -- an arrival is past, so that but for a check the first time is
    from_to : {act : ℕ} {l : Location} {q : DeadlineLocation} → LocationsMatch a b c l q → ((t : ℕ) → Arrival l t → t ≤ m)
        → From b m act l → FromWith m act q
    from_to LocationsMatch.remainder past From.try = FromWith.try
    from_to LocationsMatch.testing past From.test = FromWith.test (past _ Arrival.testing)
    from_to LocationsMatch.setting past From.set = FromWith.set (past _ Arrival.setting)
    from_to LocationsMatch.checking past (From.check h) = FromWith.check h
    from_to LocationsMatch.entering past From.crit = FromWith.crit (past _ Arrival.entering)
    from_to LocationsMatch.critical past From.exit = FromWith.exit
    from_to LocationsMatch.resetting past From.reset = FromWith.reset (past _ Arrival.resetting)
    from_to LocationsMatch.leaving past From.rem = FromWith.rem (past _ Arrival.leaving)
    from_to LocationsMatch.testing past From.withdraw = FromWith.withdraw (past _ Arrival.testing)

    from_fro : {act : ℕ} {l : Location} {q : DeadlineLocation} → LocationsMatch a b c l q → FromWith m act q → From b m act l
    from_fro LocationsMatch.remainder FromWith.try = From.try
    from_fro LocationsMatch.testing (FromWith.test h) = From.test
    from_fro LocationsMatch.setting (FromWith.set h) = From.set
    from_fro LocationsMatch.checking (FromWith.check h) = From.check h
    from_fro LocationsMatch.entering (FromWith.crit h) = From.crit
    from_fro LocationsMatch.critical FromWith.exit = From.exit
    from_fro LocationsMatch.resetting (FromWith.reset h) = From.reset
    from_fro LocationsMatch.leaving (FromWith.rem h) = From.rem
    from_fro LocationsMatch.testing (FromWith.withdraw h) = From.withdraw

    effect_to : {p act w v : ℕ} {l : Location} {q : DeadlineLocation} → LocationsMatch a b c l q → Effect p m act w l v
        → EffectWith a b c p m act w q v
    effect_to LocationsMatch.testing Effect.try = EffectWith.try
    effect_to LocationsMatch.setting Effect.test_free = EffectWith.test_free
    effect_to LocationsMatch.testing (Effect.test_taken n) = EffectWith.test_taken n
    effect_to LocationsMatch.checking Effect.set = EffectWith.set
    effect_to LocationsMatch.entering Effect.check_own = EffectWith.check_own
    effect_to LocationsMatch.testing (Effect.check_other n) = EffectWith.check_other n
    effect_to LocationsMatch.critical Effect.crit = EffectWith.crit
    effect_to LocationsMatch.resetting Effect.exit = EffectWith.exit
    effect_to LocationsMatch.leaving Effect.reset = EffectWith.reset
    effect_to LocationsMatch.remainder Effect.rem = EffectWith.rem
    effect_to LocationsMatch.remainder Effect.withdraw = EffectWith.withdraw

-- Two states that match

module _ {s : State} {d : DeadlineState} (match : Matches s d) where
  pub critical_iff : (i : ℕ) → IsCriticalWith d i ↔ IsCritical s i
  critical_iff i = (
    λ h. record { from = h.from; at = critical_fro (rw h.at at (places_match match i)) },
    λ h. record { from = h.from; at = critical_to (rw h.at at (places_match match i)) },
  )

  pub trying_iff : (i : ℕ) → IsTryingWith d i ↔ IsTrying s i
  trying_iff i = (
    λ h. record { from = h.from; at = (trying_iff_plain _).1 (tries_fro (places_match match i) h.at) },
    λ h. record { from = h.from; at = tries_to (places_match match i) ((trying_iff_plain _).0 h.at) },
  )

  -- a last time is a deadline
  pub last_is_deadline : {i f l : ℕ} → HasTimes d i f l → HasDeadline s i l
  last_is_deadline {i} h = record { from = h.from; is = times_fro (places_match match i) h.are }

  pub deadline_is_last : {i l : ℕ} → HasDeadline s i l → (f : ℕ) × HasTimes d i f l
  deadline_is_last {i} h =
      let times = times_to (places_match match i) h.is in
      (times.0, record { from = h.from; are = times.1 })

  module _ {act p m : ℕ} where
    acts_fro : ActsWith d act p m → Acts s act p m
    acts_fro h = record {
      some = h.some;
      most = rw match.parameters at h.most;
      from = from_fro (places_match match p) h.from;
    }

    acts_to : ((t : ℕ) → Arrival (entry_of s p).location t → t ≤ m) → Acts s act p m → ActsWith d act p m
    acts_to past h = record {
      some = h.some;
      most = rw match.parameters h.most;
      from = from_to (places_match match p) past h.from;
    }

    pub allowed_fro : AllowedWith d act p m → Allowed s act p m
    allowed_fro h = record {
      forward = rw match.clock at h.forward;
      within = h.within;
      in-time = λ i l k. let times = deadline_is_last k in h.in-time i times.0 l times.1;
      turn = ⊎_elim inl (λ a. inr (acts_fro a)) h.turn;
    }

    pub allowed_to : Sound s → Allowed s act p m → AllowedWith d act p m
    allowed_to sound h = record {
      forward = rw match.clock h.forward;
      within = h.within;
      in-time = λ i f l k. h.in-time i l (last_is_deadline k);
      turn = ⊎_elim inl (λ a. inr (acts_to (λ t k. omega (arith, sound.past p t k, h.forward)) a)) h.turn;
    }

    -- and what an action makes of both
    pub changed_to : {s' : State} {e : DeadlineState} → Matches s' e → Changed s act p m s' → ChangedWith d act p m e
    unfolding entry_of entry_in
    changed_to {s'} {e} after h = record {
      parameters_stay = after.parameters ∙ h.parameters_stay ∙ sym match.parameters;
      size_stays = size_same after ∙ h.size_stays ∙ sym (size_same match);
      clock_is = after.clock ∙ h.clock_is;
      others_stay = λ i from n.
          ap entry_with (one_location (rw (h.parameters_stay, h.others_stay i from n) at (places_match after i)) (places_match match i));
      wait_keeps = λ w. after.word ∙ h.wait_keeps w ∙ sym match.word;
      effect = λ n. rw (match.parameters, match.word, after.word)
          (effect_to (rw h.parameters_stay at (places_match after p)) (h.effect n));
    }
