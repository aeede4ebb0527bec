-- Section 2 of the specification: which parameters stand, the largest a, and what a sound state is, in plain facts, and that `sound_of` tells it and the
-- step answers 1 to all others; that two may be critical in a sound state; what a fresh table is, and that `fresh_of` gives it. Assumes nothing.
use Rattle.std.specs.Prelude.{ℕ, ◌-◌, ◌≤◌, ◌<◌, ◌≡◌, ◌↔◌, ◌≢◌, true, false, length, get_or}
use Rattle.model.specs.declared.Location.TheVariants.{Remainder}
use Rattle.model.specs.declared.Parameters.{Parameters}
use Rattle.model.specs.Types.{State}
use Rattle.model.specs.Types.{Outcome}
use Rattle.model.specs.States.{no_parameters, largest_limit, last_time, entry_of, sound_of}
use Rattle.model.specs.Answers.{answer_of, step_of, fresh_of}
use Rattle.model.specs.Facts.{Accepted, Arrival, HasDeadline, IsCritical}

-- [2.20]
pub record CountStands (n : ℕ) : Type 0 where
  pub some : 1 ≤ n
  pub most : n ≤ 96

-- [2.30] [2.32] the a of a process is named by its place, and not by what the step asks for it
pub record LimitsStand (k : Parameters) : Type 0 where
  -- [2.10]
  pub size : length k.a ≡ 96
  pub some : (i : ℕ) → 1 ≤ i → i ≤ k.n → 1 ≤ get_or k.a (i - 1) 0
  pub apart : (i : ℕ) → 1 ≤ i → i ≤ k.n → get_or k.a (i - 1) 0 < k.b
  -- [2.32] past the list's end 0 is looked at
  pub above : (i : ℕ) → k.n < i → get_or k.a (i - 1) 0 ≡ 0
  pub order : k.b ≤ k.c
  pub most : k.c ≤ 10_000_000

-- [2.20] [2.30] [2.32] both
pub record ParametersStand (k : Parameters) : Type 0 where
  pub count : CountStands k.n
  pub limits : LimitsStand k

-- [2.92] no process from 1 to n has a larger a than m, and one of them has that
pub record IsLargest (k : Parameters) (m : ℕ) : Type 0 where
  pub bounds : (i : ℕ) → 1 ≤ i → i ≤ k.n → get_or k.a (i - 1) 0 ≤ m
  pub process : ℕ
  pub some : 1 ≤ process
  pub most : process ≤ k.n
  pub has : get_or k.a (process - 1) 0 ≡ m

-- [2.92]
abbrev pub LargestIsPlain : Type 0
LargestIsPlain = (k : Parameters) → ParametersStand k → IsLargest k (largest_limit k)

-- [2.120]
pub record Sound (s : State) : Type 0 where
  pub parameters : ParametersStand s.parameters
  -- [2.40]
  pub clock : s.clock ≤ last_time
  -- [2.50]
  pub word : s.word ≤ s.parameters.n
  pub above : (i : ℕ) → s.parameters.n < i → (entry_of s i).location ≡ Remainder
  pub past : (i t : ℕ) → Arrival (entry_of s i).location t → t ≤ s.clock
  pub in-time : (i d : ℕ) → HasDeadline s i d → s.clock ≤ d

-- [2.120] [2.130] exactly these facts, and no other
abbrev pub SoundIffPlain : Type 0
SoundIffPlain = (s : State) → (sound_of s ≡ true) ↔ Sound s

-- [2.135] a sound state in which two processes are critical
pub record SoundWithTwo (s : State) : Type 0 where
  pub sound : Sound s
  pub size : length s.processes ≡ 96
  pub first : IsCritical s 1
  pub second : IsCritical s 2

-- [2.135] there is one
abbrev pub TwoCriticalMayBeSound : Type 0
TwoCriticalMayBeSound = (s : State) × SoundWithTwo s

-- [4.1] [3.85] an act is answered 1 exactly if the state is not sound
abbrev pub UnsoundIffOne : Type 0
UnsoundIffOne = (s : State) (act p m : ℕ) → ((step_of s act p m).answer.code ≡ 1) ↔ (sound_of s ≡ false)

-- A fresh table

-- [2.60] s is such a table, with these parameters
pub record Fresh (k : Parameters) (s : State) : Type 0 where
  pub parameters_are : s.parameters ≡ k
  pub clock_is : s.clock ≡ 0
  pub word_is : s.word ≡ 0
  pub size : length s.processes ≡ 96
  pub all : (i : ℕ) → (entry_of s i).location ≡ Remainder

-- [2.65] the outcome o of a call for one: it is given exactly for the parameters that stand, and it is sound
pub record FreshTable (k : Parameters) (o : Outcome) : Type 0 where
  -- [4.11] [4.12] it is refused exactly where one of them holds
  pub accepted : Accepted o ↔ ParametersStand k
  -- [4.70]
  pub answer : Accepted o → o.answer ≡ answer_of 0 0 0
  -- [4.11]
  pub count : (o.answer ≡ answer_of 11 0 0) ↔ (CountStands k.n → ⊥)
  -- [4.12] [4.90]
  pub limits : (o.answer ≡ answer_of 12 0 0) ↔ (CountStands k.n × (LimitsStand k → ⊥))
  pub fresh : Accepted o → Fresh k o.state
  pub sound : Accepted o → sound_of o.state ≡ true
  -- [4.100]
  pub refused : o.answer.code ≢ 0 → Fresh no_parameters o.state
  -- [4.100]
  pub unsound : o.answer.code ≢ 0 → sound_of o.state ≡ false

-- [2.65] [4.11] [4.12] [4.100] for any parameters
abbrev pub FreshIsPlain : Type 0
FreshIsPlain = (k : Parameters) → FreshTable k (fresh_of k)
