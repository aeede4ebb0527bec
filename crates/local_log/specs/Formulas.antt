-- Section 13 of the specification, the answer worked out: `least_shift`, from the entries alone, and `compared_of`, the one answer that `Compared`
-- allows. Assumes nothing.
use Rattle.std.specs.Prelude.{ℕ, Bool, true, false, cond, not, ◌&&◌, List, [], ◌∷◌, ℤ, pos, ◌+ℤ◌, ◌-ℤ◌, neg_ℤ, ◌==◌, int_le, nat_le, unsigned_abs}
use Rattle.model.specs.States.{last_time}
use Rattle.local_log.specs.declared.Comparison.{Comparison}
use Rattle.local_log.specs.Comparisons.{Entry, most_shift, times_in, actions_in, comparison}

-- Which shift

-- helper: the greater of two whole numbers
abbrev pub greater_of : ℤ → ℤ → ℤ
greater_of a b = cond (int_le a b) b a

-- [13.70] the greater of -d and, over all places, of the other time less the local one and e
unfoldable pub least_shift : ℕ → ℕ → List Entry → List Entry → ℤ
least_shift d e [] other = neg_ℤ (pos d)
least_shift d e (x ∷ xs) [] = neg_ℤ (pos d)
least_shift d e (x ∷ xs) (y ∷ ys) = greater_of (pos y.time -ℤ (pos x.time +ℤ pos e)) (least_shift d e xs ys)

-- What is tested

-- [13.30] no time is past the clock's end
unfoldable pub in_time : List ℕ → Bool
in_time [] = true
in_time (t ∷ times) = nat_le t last_time && in_time times

-- [13.30]
abbrev pub within : ℕ → ℕ → List Entry → List Entry → Bool
within d e local other = nat_le d most_shift && nat_le e most_shift && in_time (times_in local) && in_time (times_in other)

-- helper: equal lists
unfoldable pub same_numbers : List ℕ → List ℕ → Bool
same_numbers [] [] = true
same_numbers [] (y ∷ ys) = false
same_numbers (x ∷ xs) [] = false
same_numbers (x ∷ xs) (y ∷ ys) = x == y && same_numbers xs ys

-- [13.50]
unfoldable pub all_near : ℕ → ℤ → List Entry → List Entry → Bool
all_near e s [] other = true
all_near e s (x ∷ xs) [] = true
all_near e s (x ∷ xs) (y ∷ ys) = nat_le (unsigned_abs (pos y.time -ℤ (pos x.time +ℤ s))) e && all_near e s xs ys

-- [13.50]
abbrev pub serves : ℕ → ℕ → List Entry → List Entry → ℤ → Bool
serves d e local other s = int_le (neg_ℤ (pos d)) s && int_le s (pos d) && all_near e s local other

-- The answer

-- [13.72] [13.60] one condition a line
unfoldable pub compared_of : ℕ → ℕ → List Entry → List Entry → Comparison
compared_of d e local other =
    cond (not (within d e local other)) (comparison 19 (pos 0))
    (cond (not (same_numbers (actions_in local) (actions_in other))) (comparison 20 (pos 0))
    (cond (not (serves d e local other (least_shift d e local other))) (comparison 21 (pos 0))
    (comparison 0 (least_shift d e local other))))
