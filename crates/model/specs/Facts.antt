-- The terms of the specification as plain facts about a state: what the theorems speak in. But for where a state comes from they use
-- none of the tests that the step is defined by, so that the theorems check those from a second side. Assumes nothing.
use Rattle.std.specs.Prelude.{ℕ, ◌+◌, ◌-◌, ◌≤◌, ◌≡◌, ◌≢◌, true, get_or}
use Rattle.model.specs.Types.{Location}
use Rattle.model.specs.declared.Location.TheVariants.{Testing, Setting, Checking, Entering, Critical, Resetting, Leaving}
use Rattle.model.specs.declared.Parameters.{Parameters}
use Rattle.model.specs.Types.{State}
use Rattle.model.specs.Types.{Outcome}
use Rattle.model.specs.Acts.{withdraw_act}
use Rattle.model.specs.States.{trying, entry_of}
use Rattle.model.specs.Answers.{fresh_of}

-- [4.0] a call is accepted
abbrev pub Accepted : Outcome → Type 0
Accepted o = o.answer.code ≡ 0

-- [2.65] [8.10] s is a fresh state, and the call for it was accepted
pub record IsFresh (s : State) : Type 0 where
  pub parameters : Parameters
  pub accepted : Accepted (fresh_of parameters)
  pub is : s ≡ (fresh_of parameters).state

-- helper: process i, from 1, is critical
pub record IsCritical (s : State) (i : ℕ) : Type 0 where
  pub from : 1 ≤ i
  pub at : (entry_of s i).location ≡ Critical

-- [2.110] process i, from 1, is trying
pub record IsTrying (s : State) (i : ℕ) : Type 0 where
  pub from : 1 ≤ i
  pub at : trying (entry_of s i).location ≡ true

-- [2.110] the locations of a process that is trying
pub data Tries : Location → Type 0 where
  testing : {t : ℕ} → Tries (Testing t)
  setting : {t : ℕ} → Tries (Setting t)
  checking : {t : ℕ} → Tries (Checking t)
  entering : {t : ℕ} → Tries (Entering t)

-- [8.120] an act by which its process does not leave the line
abbrev pub LeadsOn : ℕ → Type 0
LeadsOn act = act ≢ withdraw_act

-- [2.80] the since of a location
pub data Arrival : Location → ℕ → Type 0 where
  testing : {t : ℕ} → Arrival (Testing t) t
  setting : {t : ℕ} → Arrival (Setting t) t
  checking : {t : ℕ} → Arrival (Checking t) t
  entering : {t : ℕ} → Arrival (Entering t) t
  resetting : {t : ℕ} → Arrival (Resetting t) t
  leaving : {t : ℕ} → Arrival (Leaving t) t

-- [2.90] the deadline of a location
pub data Deadline (a c : ℕ) : Location → ℕ → Type 0 where
  testing : {t : ℕ} → Deadline a c (Testing t) (t + a)
  setting : {t : ℕ} → Deadline a c (Setting t) (t + a)
  checking : {t : ℕ} → Deadline a c (Checking t) (t + c)
  entering : {t : ℕ} → Deadline a c (Entering t) (t + a)
  resetting : {t : ℕ} → Deadline a c (Resetting t) (t + a)
  leaving : {t : ℕ} → Deadline a c (Leaving t) (t + a)

-- [2.90] process i, from 1, has the deadline d; the two limits are named here, its own a by its place, and not by what the step asks for them
pub record HasDeadline (s : State) (i d : ℕ) : Type 0 where
  pub from : 1 ≤ i
  pub is : Deadline (get_or s.parameters.a (i - 1) 0) s.parameters.c (entry_of s i).location d
