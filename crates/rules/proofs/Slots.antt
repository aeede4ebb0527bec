-- The place of a process's entry: for a process up to 96 that before its number, and for any number one of the 96. Assumes nothing.
use Rattle.std.proofs.Common.{◌≡◌, ℕ, ◌-◌, ◌<◌, ◌≤◌, arith, le-ltb, lt-ltb}
use Rattle.rules.specs.Judging.{slot_of}
use Rattle.model.proofs.Tests.{if_lt}

pub slot_in : (p : ℕ) → p ≤ 96 → slot_of p ≡ p - 1
slot_in p h = rw (le-ltb 96 p h)

pub slot_below : (p : ℕ) → slot_of p < 96
slot_below p = if_lt 96 p (λ h. rw (lt-ltb 96 p h) (omega arith)) (λ h. rw (le-ltb 96 p h) (omega arith))

-- `search (rules, slot_fits)` finds that a place which a call gave back is one of the 96
pub slot_fits : (p slot : ℕ) → slot ≡ slot_of p → slot < 96
slot_fits p slot e = rw e (slot_below p)
