-- Section 4 of the specification, the refusals of a step: each code with what the answer carries, its condition in plain facts, and that
-- no condition before it holds. A step is refused by exactly these. Assumes nothing.
use Rattle.std.specs.Prelude.{ℕ, ◌+◌, ◌≤◌, ◌<◌, ◌≡◌, ◌≢◌, ◌↔◌}
use Rattle.model.specs.declared.Location.TheVariants.{Checking}
use Rattle.model.specs.Types.{State}
use Rattle.model.specs.Acts.{wait_act, check_act, last_act}
use Rattle.model.specs.States.{last_time, entry_of}
use Rattle.model.specs.Answers.{answer_of, step_of}
use Rattle.theory.specs.Soundness.{Sound}
use Rattle.theory.specs.Acceptance.{From}
use Rattle.theory.specs.Lateness.{AllInTime, FirstMissed}

-- Conditions that need a name

-- [4.7] an act with a process that it may not have, where there are n
pub data Misnamed (n : ℕ) : ℕ → ℕ → Type 0 where
  wait : {p : ℕ} → p ≢ 0 → Misnamed n wait_act p
  nobody : {act : ℕ} → act ≢ wait_act → Misnamed n act 0
  above : {act p : ℕ} → act ≢ wait_act → n < p → Misnamed n act p

-- [4.9] process p is in the location that the act leaves: it may take the act there at some time
abbrev pub InPlace : State → ℕ → ℕ → Type 0
InPlace s act p = (t : ℕ) × From s.parameters.b t act (entry_of s p).location

-- What holds where the conditions up to one of them do not, in the order of the codes

-- [4.80] [4.83] neither 1 nor 4; 2 and 3 are the summary's
pub record Forward (s : State) (m : ℕ) : Type 0 where
  pub sound : Sound s
  pub forward : s.clock ≤ m

-- [4.80] nor 5
pub record Within (s : State) (m : ℕ) : Type 0 where
  pub before : Forward s m
  pub within : m ≤ last_time

-- [4.80] nor 6
pub record Known (s : State) (act m : ℕ) : Type 0 where
  pub before : Within s m
  pub known : act ≤ last_act

-- [4.80] nor 7
pub record Named (s : State) (act p m : ℕ) : Type 0 where
  pub before : Known s act m
  pub named : Misnamed s.parameters.n act p → ⊥

-- [4.80] nor 8
pub record OnTime (s : State) (act p m : ℕ) : Type 0 where
  pub before : Named s act p m
  pub in-time : AllInTime s m

-- The refusals

-- [4.80] [4.83] the act of process p at the time m is refused with this code, process and time
pub data Refusal (s : State) (act p m : ℕ) : ℕ → ℕ → ℕ → Type 0 where
  -- [4.1]
  unsound : (Sound s → ⊥) → Refusal s act p m 1 0 0
  -- [4.4]
  backward : Sound s → m < s.clock → Refusal s act p m 4 0 s.clock
  -- [4.5]
  beyond : Forward s m → last_time < m → Refusal s act p m 5 0 0
  -- [4.6]
  unknown : Within s m → last_act < act → Refusal s act p m 6 0 0
  -- [4.7]
  misnamed : Known s act m → Misnamed s.parameters.n act p → Refusal s act p m 7 0 0
  -- [4.8]
  late : (i d : ℕ) → Named s act p m → FirstMissed s m i d → Refusal s act p m 8 i d
  -- [4.9]
  misplaced : OnTime s act p m → act ≢ wait_act → (InPlace s act p → ⊥) → Refusal s act p m 9 p 0
  -- [4.10] [2.100] it is in place, so that 9 does not hold
  early : (t : ℕ) → OnTime s act p m → act ≡ check_act → (entry_of s p).location ≡ Checking t → m < t + s.parameters.b
      → Refusal s act p m 10 p (t + s.parameters.b)

-- [4.80] [4.83] of any state, sound or not
abbrev pub RefusedIffRefusal : Type 0
RefusedIffRefusal = (s : State) (act p m code process time : ℕ) → code ≢ 0
    → ((step_of s act p m).answer ≡ answer_of code process time) ↔ Refusal s act p m code process time
