-- Section 13 of the specification, the cases of accepted logs. Assumes nothing.
use Rattle.std.specs.Prelude.{ℕ, min, ◌≡◌, List, [], ◌∷◌, length}
use Rattle.grammar.specs.Wholes.{two_input}
use Rattle.local_log.specs.Comparisons.{Entry, entries_of}
use Rattle.accepted_log.specs.AcceptedLogs.{unlogged, logged_in, read_accepted_of}

-- [13.165] that of process 1
abbrev pub first_log : List Entry
first_log = entries_of (0 ∷ 1 ∷ 2 ∷ 10 ∷ 12 ∷ 16 ∷ 18 ∷ 22 ∷ []) (1 ∷ 2 ∷ 3 ∷ 4 ∷ 5 ∷ 6 ∷ 7 ∷ 8 ∷ [])

-- [13.165] that of process 2
abbrev pub second_log : List Entry
second_log = entries_of (18 ∷ 20 ∷ 21 ∷ 29 ∷ 31 ∷ []) (1 ∷ 2 ∷ 3 ∷ 4 ∷ 5 ∷ [])

-- [13.165]
abbrev pub TwoLogs : Type 0
TwoLogs = (times actions : List ℕ)
    → (read_accepted_of two_input 1 times actions ≡ logged_in first_log times actions)
    × (read_accepted_of two_input 2 times actions ≡ logged_in second_log times actions)
    × (read_accepted_of two_input 0 times actions ≡ unlogged 7 0 times actions)
    × (read_accepted_of two_input 3 times actions ≡ unlogged 7 0 times actions)

-- [13.165] one place too few
abbrev pub ShortLists : Type 0
ShortLists = (times actions : List ℕ) → min (length times) (length actions) ≡ 7
    → read_accepted_of two_input 1 times actions ≡ unlogged 16 0 times actions
