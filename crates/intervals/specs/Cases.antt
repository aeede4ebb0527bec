-- Section 11 of the specification, its cases: whole traces, byte for byte, and a list that no run makes. Assumes nothing.
use Rattle.std.specs.Prelude.{ℕ, ◌≡◌, List, [], ◌∷◌}
use Rattle.model.specs.Acts.{crit_act, exit_act}
use Rattle.model.specs.Tallies.{attempt}
use Rattle.model.specs.Texts.{bytes}
use Rattle.model.specs.Writings.{fitted, unwritten}
use Rattle.grammar.specs.Wholes.{whole_input, two_input}
use Rattle.intervals.specs.Intervals.{until, interval, intervals_of, write_intervals_of}

-- [11.100] of the trace of [7.60], into any output
abbrev pub WholeIntervals : Type 0
WholeIntervals = (out : List ℕ) → write_intervals_of whole_input out ≡ fitted (bytes "window,from,to\n2,20,-\n") out

-- [11.105] a refused crit has no line, a refused exit ends nothing, be it of the same process or not, and the second interval is open
abbrev pub TwoIntervals : Type 0
TwoIntervals = (out : List ℕ) → write_intervals_of two_input out ≡ fitted (bytes "window,from,to\n1,12,16\n2,31,-\n") out

-- [11.110] no step, and no text
abbrev pub NoIntervals : Type 0
NoIntervals = (out : List ℕ)
    → (write_intervals_of (bytes "windows,a,b,c\n2,5,8,12\ntime,window,act\n") out ≡ fitted (bytes "window,from,to\n") out)
    × (write_intervals_of (bytes "") out ≡ unwritten 13 1 out)

-- [11.30] of any list: an interval ends with the accepted exit of its own process. In no run from a fresh state do two of them overlap,
-- so no trace shows it
abbrev pub OwnExit : Type 0
OwnExit =
    intervals_of (attempt crit_act 1 1 0 ∷ attempt crit_act 2 2 0 ∷ attempt exit_act 1 3 4 ∷ attempt exit_act 2 4 0 ∷ attempt exit_act 1 5 0 ∷ [])
    ≡ interval 1 1 (until 5) ∷ interval 2 2 (until 4) ∷ []
