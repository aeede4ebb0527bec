-- Section 12 of the specification, a state of deadlines in plain facts: which processes are where, their times, and which actions are allowed. None of
-- the tests that the second engine is defined by are used, so that the theorems check those from a second side. Assumes nothing.
use Rattle.std.specs.Prelude.{ℕ, ◌+◌, ◌-◌, ◌≤◌, ◌≡◌, ◌⊎◌, ◌≢◌, ◌↔◌, true, length, get_or}
use Rattle.model.specs.Acts.{wait_act, try_act, test_act, set_act, check_act, crit_act, exit_act, reset_act, rem_act, withdraw_act}
use Rattle.model.specs.States.{last_time}
use Rattle.theory.specs.Acceptance.{Waits}
use Rattle.deadlines.specs.Types.{DeadlineLocation}
use Rattle.model.specs.declared.Location.TheVariants.{Remainder, Testing, Setting, Checking, Entering, Critical, Resetting, Leaving}
use Rattle.deadlines.specs.Types.{DeadlineState}
use Rattle.deadlines.specs.Types.{DeadlineOutcome}
use Rattle.deadlines.specs.Deadlines.{period, entry_in, sound_with, step_with}

-- [4.0] a call is accepted
abbrev pub AcceptedWith : DeadlineOutcome → Type 0
AcceptedWith o = o.answer.code ≡ 0

-- [12.10] the two times of a location
pub data Times : DeadlineLocation → ℕ → ℕ → Type 0 where
  testing : {f l : ℕ} → Times (Testing (period f l)) f l
  setting : {f l : ℕ} → Times (Setting (period f l)) f l
  checking : {f l : ℕ} → Times (Checking (period f l)) f l
  entering : {f l : ℕ} → Times (Entering (period f l)) f l
  resetting : {f l : ℕ} → Times (Resetting (period f l)) f l
  leaving : {f l : ℕ} → Times (Leaving (period f l)) f l

-- [12.10] process i, from 1, has the first time f and the last time l
pub record HasTimes (d : DeadlineState) (i f l : ℕ) : Type 0 where
  pub from : 1 ≤ i
  pub are : Times (entry_in d i).location f l

-- helper: process i, from 1, is critical
pub record IsCriticalWith (d : DeadlineState) (i : ℕ) : Type 0 where
  pub from : 1 ≤ i
  pub at : (entry_in d i).location ≡ Critical

-- [2.110] the locations of a process that is trying
pub data TriesWith : DeadlineLocation → Type 0 where
  testing : {f l : ℕ} → TriesWith (Testing (period f l))
  setting : {f l : ℕ} → TriesWith (Setting (period f l))
  checking : {f l : ℕ} → TriesWith (Checking (period f l))
  entering : {f l : ℕ} → TriesWith (Entering (period f l))

-- [2.110] process i, from 1, is trying
pub record IsTryingWith (d : DeadlineState) (i : ℕ) : Type 0 where
  pub from : 1 ≤ i
  pub at : TriesWith (entry_in d i).location

-- [3.1] [3.2] [3.3] [3.4] [3.5] [3.6] [3.7] [3.8] [3.9] [12.70] the actions of a process in a location, at a time m that is not before its first time
pub data FromWith (m : ℕ) : ℕ → DeadlineLocation → Type 0 where
  try : FromWith m try_act Remainder
  test : {f l : ℕ} → f ≤ m → FromWith m test_act (Testing (period f l))
  set : {f l : ℕ} → f ≤ m → FromWith m set_act (Setting (period f l))
  check : {f l : ℕ} → f ≤ m → FromWith m check_act (Checking (period f l))
  crit : {f l : ℕ} → f ≤ m → FromWith m crit_act (Entering (period f l))
  exit : FromWith m exit_act Critical
  reset : {f l : ℕ} → f ≤ m → FromWith m reset_act (Resetting (period f l))
  rem : {f l : ℕ} → f ≤ m → FromWith m rem_act (Leaving (period f l))
  withdraw : {f l : ℕ} → f ≤ m → FromWith m withdraw_act (Testing (period f l))

-- [12.70] a process from 1 to n in the action's place
pub record ActsWith (d : DeadlineState) (act p m : ℕ) : Type 0 where
  pub some : 1 ≤ p
  pub most : p ≤ d.parameters.n
  pub from : FromWith m act (entry_in d p).location

-- [12.70]
pub record AllowedWith (d : DeadlineState) (act p m : ℕ) : Type 0 where
  pub forward : d.clock ≤ m
  pub within : m ≤ last_time
  -- nobody's last time is past, whoever acts
  pub in-time : (i f l : ℕ) → HasTimes d i f l → m ≤ l
  pub turn : Waits act p ⊎ ActsWith d act p m

-- [12.70]
abbrev pub AcceptedIffAllowedWith : Type 0
AcceptedIffAllowedWith = (d : DeadlineState) → sound_with d ≡ true → (act p m : ℕ) → AcceptedWith (step_with d act p m) ↔ AllowedWith d act p m

-- What an accepted action changes

-- [12.60] where an action of process p at the time m leads at the word w, and the word after it, with its own a and with b and c
pub data EffectWith (a b c p m : ℕ) : ℕ → ℕ → DeadlineLocation → ℕ → Type 0 where
  try : {w : ℕ} → EffectWith a b c p m try_act w (Testing (period m (m + a))) w
  test_free : EffectWith a b c p m test_act 0 (Setting (period m (m + a))) 0
  test_taken : {w : ℕ} → w ≢ 0 → EffectWith a b c p m test_act w (Testing (period m (m + a))) w
  set : {w : ℕ} → EffectWith a b c p m set_act w (Checking (period (m + b) (m + c))) p
  check_own : EffectWith a b c p m check_act p (Entering (period m (m + a))) p
  check_other : {w : ℕ} → w ≢ p → EffectWith a b c p m check_act w (Testing (period m (m + a))) w
  crit : {w : ℕ} → EffectWith a b c p m crit_act w Critical w
  exit : {w : ℕ} → EffectWith a b c p m exit_act w (Resetting (period m (m + a))) w
  reset : {w : ℕ} → EffectWith a b c p m reset_act w (Leaving (period m (m + a))) 0
  rem : {w : ℕ} → EffectWith a b c p m rem_act w Remainder w
  withdraw : {w : ℕ} → EffectWith a b c p m withdraw_act w Remainder w

-- [12.60] e is d after the action of process p at the time m: it differs in the clock, in p's entry and in the word only. The a of p is named by
-- its place, and not by what the step asks for it.
pub record ChangedWith (d : DeadlineState) (act p m : ℕ) (e : DeadlineState) : Type 0 where
  pub parameters_stay : e.parameters ≡ d.parameters
  pub size_stays : length e.processes ≡ length d.processes
  pub clock_is : e.clock ≡ m
  pub others_stay : (i : ℕ) → 1 ≤ i → i ≢ p → entry_in e i ≡ entry_in d i
  -- and `others_stay` keeps every entry, as none is of process 0
  pub wait_keeps : act ≡ wait_act → e.word ≡ d.word
  pub effect : act ≢ wait_act
      → EffectWith (get_or d.parameters.a (p - 1) 0) d.parameters.b d.parameters.c p m act d.word (entry_in e p).location e.word

-- [12.60] for a state of 96 entries, as each of the code is
abbrev pub NextIsChangedWith : Type 0
NextIsChangedWith = (d : DeadlineState) → length d.processes ≡ 96 → (act p m : ℕ) → AcceptedWith (step_with d act p m)
    → ChangedWith d act p m (step_with d act p m).state

-- [12.50] a refused step gives the state back, whatever it is
abbrev pub RefusedStaysWith : Type 0
RefusedStaysWith = (d : DeadlineState) (act p m : ℕ) → (step_with d act p m).answer.code ≢ 0 → (step_with d act p m).state ≡ d
