-- Section 4 of the specification, what the code 8 speaks of: the first deadline of a state, the smallest and of equal ones that of the
-- lowest process, and whether every deadline is kept. Assumes nothing.
use Rattle.std.specs.Prelude.{ℕ, ◌≤◌, ◌<◌, ◌≡◌, ◌≢◌, ◌↔◌, false}
use Rattle.model.specs.Types.{State}
use Rattle.model.specs.Answers.{Due, first_deadline, missed}
use Rattle.model.specs.Facts.{HasDeadline}

-- The first deadline

-- [4.8] process p has the deadline d, no other is smaller, and no lower process has the same
pub record IsFirst (s : State) (p d : ℕ) : Type 0 where
  pub has : HasDeadline s p d
  pub smallest : (i e : ℕ) → HasDeadline s i e → d ≤ e
  pub lowest : (i : ℕ) → HasDeadline s i d → p ≤ i

-- [4.8] of any state, sound or not
pub record FirstTold (s : State) (first : Due) : Type 0 where
  pub none : (first.process ≡ 0) ↔ ((i d : ℕ) → HasDeadline s i d → ⊥)
  pub some : first.process ≢ 0 → IsFirst s first.process first.time

-- [4.8]
abbrev pub FirstIsFirst : Type 0
FirstIsFirst = (s : State) → FirstTold s (first_deadline s)

-- What answer 8 tells

-- [4.8] who is named, and with what: process p has missed the deadline d at the time m
pub record FirstMissed (s : State) (m p d : ℕ) : Type 0 where
  pub first : IsFirst s p d
  pub missed : d < m

-- [4.8] every deadline is kept at the time m
abbrev pub AllInTime : State → ℕ → Type 0
AllInTime s m = (i d : ℕ) → HasDeadline s i d → m ≤ d

-- [4.8] the first deadline is not missed exactly where every deadline is kept
abbrev pub NoneMissedIffAllInTime : Type 0
NoneMissedIffAllInTime = (s : State) (m : ℕ) → (missed (first_deadline s) m ≡ false) ↔ AllInTime s m
