-- The rank of a location: how far a process has come on its way from the remainder to the critical place and back. The proofs of every
-- list compare places by it, and never by the stage: that is a number for callers and stays what it is, so that a new place between two
-- others has a stage after all of them, but a rank between theirs. Assumes nothing.
use Prim.Native.Nat.{ℕ, ◌+◌, ◌≤◌}
use mathlib.Core.Path.{◌≡◌, refl}
use mathlib.Core.Logic.{◌≢◌}
use mathlib.Core.Bool.{true, false≢true}
use native.Mathlib.Omega.{arith}
use Rattle.model.specs.Types.{Location}
use Rattle.model.specs.declared.Location.TheVariants.{Remainder, Testing, Setting, Checking, Entering, Critical, Resetting, Leaving}
use Rattle.model.specs.States.{since_of, trying}
use Rattle.model.specs.Facts.{Deadline}

-- The ranks

abbrev pub at_remainder : ℕ
at_remainder = 0

abbrev pub at_testing : ℕ
at_testing = 1

abbrev pub at_setting : ℕ
at_setting = 2

abbrev pub at_checking : ℕ
at_checking = 3

abbrev pub at_entering : ℕ
at_entering = 4

abbrev pub at_critical : ℕ
at_critical = 5

abbrev pub at_resetting : ℕ
at_resetting = 6

abbrev pub at_leaving : ℕ
at_leaving = 7

abbrev pub rank_of : Location → ℕ
rank_of Remainder = at_remainder
rank_of (Testing t) = at_testing
rank_of (Setting t) = at_setting
rank_of (Checking t) = at_checking
rank_of (Entering t) = at_entering
rank_of Critical = at_critical
rank_of (Resetting t) = at_resetting
rank_of (Leaving t) = at_leaving

-- What a rank tells. These laws look at each location, so that other proofs need not.

pub critical-at : (l : Location) → rank_of l ≡ at_critical → l ≡ Critical
critical-at Remainder e = absurd (omega arith)
critical-at (Testing t) e = absurd (omega arith)
critical-at (Setting t) e = absurd (omega arith)
critical-at (Checking t) e = absurd (omega arith)
critical-at (Entering t) e = absurd (omega arith)
critical-at Critical e = refl
critical-at (Resetting t) e = absurd (omega arith)
critical-at (Leaving t) e = absurd (omega arith)

pub trying_between : (l : Location) → trying l ≡ true → (at_testing ≤ rank_of l) × (rank_of l ≤ at_entering)
trying_between Remainder e = absurd (false≢true e)
trying_between (Testing t) e = omega arith
trying_between (Setting t) e = omega arith
trying_between (Checking t) e = omega arith
trying_between (Entering t) e = omega arith
trying_between Critical e = absurd (false≢true e)
trying_between (Resetting t) e = absurd (false≢true e)
trying_between (Leaving t) e = absurd (false≢true e)

-- no deadline in l is before the time m
pub record InTime (a c m : ℕ) (l : Location) : Type 0 where
  pub short : rank_of l ≢ at_remainder → rank_of l ≢ at_checking → rank_of l ≢ at_critical → m ≤ since_of l + a
  pub long : rank_of l ≡ at_checking → m ≤ since_of l + c

pub in-time : {a c m : ℕ} (l : Location) → ((d : ℕ) → Deadline a c l d → m ≤ d) → InTime a c m l
in-time Remainder h = omega arith
in-time (Testing t) h = omega (arith, h _ Deadline.testing)
in-time (Setting t) h = omega (arith, h _ Deadline.setting)
in-time (Checking t) h = omega (arith, h _ Deadline.checking)
in-time (Entering t) h = omega (arith, h _ Deadline.entering)
in-time Critical h = omega arith
in-time (Resetting t) h = omega (arith, h _ Deadline.resetting)
in-time (Leaving t) h = omega (arith, h _ Deadline.leaving)

-- with a longer time than its own
pub later : {a a' c m : ℕ} {l : Location} → a ≤ a' → InTime a c m l → InTime a' c m l
later h k = record { short = λ r g e. omega (arith, k.short r g e); long = k.long }
