-- The stages of a process, a number for each location: from the remainder to the critical stage and back. No other definition has
-- such a number. Assumes nothing.
use Rattle.std.specs.Prelude.{ℕ}

-- [2.70]
abbrev pub remainder : ℕ
remainder = 0

-- [2.70]
abbrev pub testing : ℕ
testing = 1

-- [2.70]
abbrev pub setting : ℕ
setting = 2

-- [2.70]
abbrev pub checking : ℕ
checking = 3

-- [2.70]
abbrev pub entering : ℕ
entering = 4

-- [2.70]
abbrev pub critical : ℕ
critical = 5

-- [2.70]
abbrev pub resetting : ℕ
resetting = 6

-- [2.70]
abbrev pub leaving : ℕ
leaving = 7
