-- The bits of all numbers together: each turn of the pass, and that no number is greater. Assumes nothing.
use Rattle.std.proofs.Common.{◌≡◌, ℕ, zero, suc, ◌+◌, ◌<◌, ◌≤◌, List, [], ◌∷◌, length, get_or, drop, arith}
use lib.Bits.{bit_or, or_add_and, and_le_l, and_le_r}
use Rattle.values.specs.Bits.{bits_on, bits_of}
use Rattle.model.proofs.Lists.{drop_at, drop_end}

-- A turn of the pass

pub bits_next : (l : List ℕ) (bits i : ℕ) → i < length l → bits_on (bit_or bits (get_or l i 0)) (drop (i + 1) l) ≡ bits_on bits (drop i l)
unfolding bits_on
bits_next l bits i h = rw (drop_at l i 0 h)

pub bits_end : (l : List ℕ) (bits i : ℕ) → length l ≡ i → bits_on bits (drop i l) ≡ bits
unfolding bits_on
bits_end l bits i e = rw (drop_end l i (omega arith) (omega arith))

-- No bit is lost

or_left : (a b : ℕ) → a ≤ bit_or a b
or_left a b = omega (arith, or_add_and a b, and_le_r a b)

or_right : (a b : ℕ) → b ≤ bit_or a b
or_right a b = omega (arith, or_add_and a b, and_le_l a b)

bits_before : (bits : ℕ) (l : List ℕ) → bits ≤ bits_on bits l
unfolding bits_on
bits_before bits [] = omega arith
bits_before bits (x ∷ xs) = omega (arith, or_left bits x, bits_before (bit_or bits x) xs)

bits_in : (bits : ℕ) (l : List ℕ) (k : ℕ) → get_or l k 0 ≤ bits_on bits l
unfolding bits_on
bits_in bits [] k = omega arith
bits_in bits (x ∷ xs) zero = omega (arith, or_right bits x, bits_before (bit_or bits x) xs)
bits_in bits (x ∷ xs) (suc k) = bits_in (bit_or bits x) xs k

pub bits_above : (l : List ℕ) (k : ℕ) → get_or l k 0 ≤ bits_of l
bits_above l k = bits_in 0 l k
