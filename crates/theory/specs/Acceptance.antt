-- Section 3 of the specification: which acts the algorithm allows, in plain facts, and what they change, its table as two relations,
-- `From` and `Effect`. `step_of` accepts exactly these, and a refused step gives the state back. Assumes nothing.
use Rattle.std.specs.Prelude.{ℕ, ◌+◌, ◌≤◌, ◌≡◌, ◌⊎◌, ◌≢◌, ◌↔◌, true, length}
use Rattle.model.specs.Types.{Location}
use Rattle.model.specs.declared.Location.TheVariants.{Remainder, Testing, Setting, Checking, Entering, Critical, Resetting, Leaving}
use Rattle.model.specs.Types.{State}
use Rattle.model.specs.Types.{Outcome}
use Rattle.model.specs.Acts.{wait_act, try_act, test_act, set_act, check_act, crit_act, exit_act, reset_act, rem_act, withdraw_act}
use Rattle.model.specs.States.{last_time, entry_of, sound_of}
use Rattle.model.specs.Answers.{step_of}
use Rattle.model.specs.Facts.{Accepted, HasDeadline}

-- [3.80] the acts that a process may take in a location at the time m. Only a check waits for its release.
pub data From (b m : ℕ) : ℕ → Location → Type 0 where
  -- [3.1]
  try : From b m try_act Remainder
  -- [3.2]
  test : {t : ℕ} → From b m test_act (Testing t)
  -- [3.3]
  set : {t : ℕ} → From b m set_act (Setting t)
  -- [3.4] [2.100]
  check : {t : ℕ} → t + b ≤ m → From b m check_act (Checking t)
  -- [3.5]
  crit : {t : ℕ} → From b m crit_act (Entering t)
  -- [3.6]
  exit : From b m exit_act Critical
  -- [3.7]
  reset : {t : ℕ} → From b m reset_act (Resetting t)
  -- [3.8]
  rem : {t : ℕ} → From b m rem_act (Leaving t)
  -- [3.9]
  withdraw : {t : ℕ} → From b m withdraw_act (Testing t)

-- [3.60] where an act of process p at the time m leads at the word w, and the word after it; m is the since wherever there is one
pub data Effect (p m : ℕ) : ℕ → ℕ → Location → ℕ → Type 0 where
  -- [3.1]
  try : {w : ℕ} → Effect p m try_act w (Testing m) w
  -- [3.2]
  test_free : Effect p m test_act 0 (Setting m) 0
  -- [3.2]
  test_taken : {w : ℕ} → w ≢ 0 → Effect p m test_act w (Testing m) w
  -- [3.3]
  set : {w : ℕ} → Effect p m set_act w (Checking m) p
  -- [3.4]
  check_own : Effect p m check_act p (Entering m) p
  -- [3.4]
  check_other : {w : ℕ} → w ≢ p → Effect p m check_act w (Testing m) w
  -- [3.5]
  crit : {w : ℕ} → Effect p m crit_act w Critical w
  -- [3.6]
  exit : {w : ℕ} → Effect p m exit_act w (Resetting m) w
  -- [3.7]
  reset : {w : ℕ} → Effect p m reset_act w (Leaving m) 0
  -- [3.8]
  rem : {w : ℕ} → Effect p m rem_act w Remainder w
  -- [3.9]
  withdraw : {w : ℕ} → Effect p m withdraw_act w Remainder w

-- [3.0] [3.80] a wait, which is of no process
pub record Waits (act p : ℕ) : Type 0 where
  pub wait : act ≡ wait_act
  pub nobody : p ≡ 0

-- [3.80] a process from 1 to n in the act's place
pub record Acts (s : State) (act p m : ℕ) : Type 0 where
  pub some : 1 ≤ p
  pub most : p ≤ s.parameters.n
  pub from : From s.parameters.b m act (entry_of s p).location

-- [3.80] the algorithm allows the act of process p at the time m
pub record Allowed (s : State) (act p m : ℕ) : Type 0 where
  pub forward : s.clock ≤ m
  pub within : m ≤ last_time
  -- no process is late, whoever acts
  pub in-time : (i d : ℕ) → HasDeadline s i d → m ≤ d
  pub turn : Waits act p ⊎ Acts s act p m

-- [3.85] of a sound state; of others, `UnsoundIffOne`
abbrev pub AcceptedIffAllowed : Type 0
AcceptedIffAllowed = (s : State) → sound_of s ≡ true → (act p m : ℕ) → Accepted (step_of s act p m) ↔ Allowed s act p m

-- [3.70] s' is s after the act of process p at the time m: it differs in the clock, in p's entry and in the word only
pub record Changed (s : State) (act p m : ℕ) (s' : State) : Type 0 where
  pub parameters_stay : s'.parameters ≡ s.parameters
  pub size_stays : length s'.processes ≡ length s.processes
  -- [3.50]
  pub clock_is : s'.clock ≡ m
  pub others_stay : (i : ℕ) → 1 ≤ i → i ≢ p → entry_of s' i ≡ entry_of s i
  -- [3.0] and `others_stay` keeps every entry, as none is of process 0
  pub wait_keeps : act ≡ wait_act → s'.word ≡ s.word
  pub effect : act ≢ wait_act → Effect p m act s.word (entry_of s' p).location s'.word

-- [3.70] for a state of 96 entries, as each of the code is
abbrev pub NextIsChanged : Type 0
NextIsChanged = (s : State) → length s.processes ≡ 96 → (act p m : ℕ) → Accepted (step_of s act p m)
    → Changed s act p m (step_of s act p m).state

-- [4.110] the state, in a step without a summary
abbrev pub RefusedStays : Type 0
RefusedStays = (s : State) (act p m : ℕ) → (step_of s act p m).answer.code ≢ 0 → (step_of s act p m).state ≡ s

-- [3.90] of any state, sound or not
abbrev pub WaitNowChangesNothing : Type 0
WaitNowChangesNothing = (s : State) → (step_of s wait_act 0 s.clock).state ≡ s

-- A try that is taken back

-- [3.95] s' is s but for the clock, which is m
pub record ClockOnly (s : State) (m : ℕ) (s' : State) : Type 0 where
  pub parameters_stay : s'.parameters ≡ s.parameters
  pub clock_is : s'.clock ≡ m
  pub word_stays : s'.word ≡ s.word
  pub entries_stay : s'.processes ≡ s.processes

-- [3.95] a withdraw with the outcome o takes back the try, at the time m, that was made in the state s
pub record TakenBack (s : State) (m : ℕ) (o : Outcome) : Type 0 where
  pub accepted : Accepted o
  pub state : ClockOnly s m o.state

-- [3.95] for a state of 96 entries, as each of the code is; it is sound, as the try is accepted
abbrev pub WithdrawUndoesTry : Type 0
WithdrawUndoesTry = (s : State) → length s.processes ≡ 96 → (p m : ℕ) → Accepted (step_of s try_act p m)
    → TakenBack s m (step_of (step_of s try_act p m).state withdraw_act p m)
