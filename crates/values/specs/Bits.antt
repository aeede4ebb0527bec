-- The bits of all numbers of a list together, by which one look tells that they are all 0, or that none is too great.
-- Assumes nothing.
use Rattle.std.specs.Prelude.{ℕ, Bool, true, ◌&&◌, List, [], ◌∷◌, ◌==◌, bit_or}

-- helper: with those that came before
unfoldable pub bits_on : ℕ → List ℕ → ℕ
bits_on bits [] = bits
bits_on bits (x ∷ xs) = bits_on (bit_or bits x) xs

-- helper: of the list alone
abbrev pub bits_of : List ℕ → ℕ
bits_of l = bits_on 0 l

-- helper: numbers that are all 0, as those of entries in the remainder are
unfoldable pub are_zero : List ℕ → Bool
are_zero [] = true
are_zero (x ∷ xs) = x == 0 && are_zero xs
