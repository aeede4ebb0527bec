-- Values of a that are all from 1 on and below b, and the bit by which one look tells it. For the proofs only. Assumes nothing.
use Rattle.std.specs.Prelude.{ℕ, Bool, true, ◌&&◌, List, [], ◌∷◌, nat_le, nat_lt}

-- helper: the top bit of 64
abbrev pub top_bit : ℕ
top_bit = 9223372036854775808

-- helper: of each
unfoldable pub within : ℕ → List ℕ → Bool
within b [] = true
within b (x ∷ a) = (nat_le 1 x && nat_lt x b) && within b a
