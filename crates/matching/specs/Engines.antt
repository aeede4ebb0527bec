-- Section 12 of the specification, the two engines side by side: matching states, which of them are sound, one step of each, and the ways to and fro.
-- Assumes nothing.
use Rattle.std.specs.Prelude.{ℕ, ◌≡◌, ◌↔◌, true, false}
use Rattle.model.specs.declared.Parameters.{Parameters}
use Rattle.model.specs.Types.{State}
use Rattle.model.specs.Types.{Outcome}
use Rattle.model.specs.States.{sound_of}
use Rattle.model.specs.Answers.{answers, blank, step_of, fresh_of}
use Rattle.deadlines.specs.Types.{DeadlineState}
use Rattle.deadlines.specs.Types.{DeadlineOutcome}
use Rattle.deadlines.specs.Deadlines.{sound_with, answers_with, blank_with, step_with, fresh_with}
use Rattle.deadlines.specs.Matching.{Matches, to_deadlines, to_arrivals}

-- Matching

-- [12.25] every state matches one state of deadlines, and no state of deadlines matches two
pub record OneForOne : Type 0 where
  pub some : (s : State) → (d : DeadlineState) × Matches s d
  pub one : (s : State) (d e : DeadlineState) → Matches s d → Matches s e → d ≡ e
  pub back : (s t : State) (d : DeadlineState) → Matches s d → Matches t d → s ≡ t

-- [12.35] [12.30] sound is what some sound state matches
abbrev pub SoundExactly : Type 0
SoundExactly = (d : DeadlineState) → (sound_with d ≡ true) ↔ ((s : State) × (sound_of s ≡ true) × Matches s d)

-- [12.35] and both are sound or neither is
abbrev pub SoundTogether : Type 0
SoundTogether = (s : State) (d : DeadlineState) → Matches s d → sound_with d ≡ sound_of s

-- [4.1] [12.35] a state of deadlines that no sound state matches is answered with 1, and no other is
abbrev pub UnsoundIffOneWith : Type 0
UnsoundIffOneWith = (d : DeadlineState) (act p m : ℕ)
    → ((step_with d act p m).answer.code ≡ 1) ↔ ((s : State) → sound_of s ≡ true → Matches s d → ⊥)

-- [12.35] and that is all that it is answered, with the state given back
abbrev pub UnmatchedIsOne : Type 0
UnmatchedIsOne = (d : DeadlineState) → ((s : State) → sound_of s ≡ true → Matches s d → ⊥)
    → (act p m : ℕ) → step_with d act p m ≡ answers_with 1 0 0 d

-- One call of each engine

-- [12.80] the same answer, and states that match
pub record OutcomesMatch (o : Outcome) (e : DeadlineOutcome) : Type 0 where
  pub answer : e.answer ≡ o.answer
  pub states : Matches o.state e.state

-- [12.82] whatever the parameters
abbrev pub FreshMatch : Type 0
FreshMatch = (k : Parameters) → OutcomesMatch (fresh_of k) (fresh_with k)

-- [12.80] sound or not, accepted or refused
abbrev pub StepsMatch : Type 0
StepsMatch = (s : State) (d : DeadlineState) → Matches s d → (act p m : ℕ) → OutcomesMatch (step_of s act p m) (step_with d act p m)

-- To and fro

-- [12.100] [12.105] the way to: where the state is sound, to what matches it, and back again
pub record GoesTo (s : State) : Type 0 where
  pub answer : (to_deadlines s).answer.code ≡ 0
  pub matches : Matches s (to_deadlines s).state
  pub back : to_arrivals (to_deadlines s).state ≡ answers 0 0 0 s

-- [12.100] [12.105] the way fro
pub record GoesFro (d : DeadlineState) : Type 0 where
  pub answer : (to_arrivals d).answer.code ≡ 0
  pub matches : Matches (to_arrivals d).state d
  pub back : to_deadlines (to_arrivals d).state ≡ answers_with 0 0 0 d

-- [12.100] [12.105]
pub record Inverse : Type 0 where
  pub to : (s : State) → sound_of s ≡ true → GoesTo s
  pub fro : (d : DeadlineState) → sound_with d ≡ true → GoesFro d
  pub to_refused : (s : State) → sound_of s ≡ false → to_deadlines s ≡ answers_with 1 0 0 blank_with
  pub fro_refused : (d : DeadlineState) → sound_with d ≡ false → to_arrivals d ≡ answers 1 0 0 blank
