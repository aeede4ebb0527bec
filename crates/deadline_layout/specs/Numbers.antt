-- Section 12 of the specification: a deadline table comes back from its numbers, and numbers from what they tell. Assumes nothing.
use Rattle.std.specs.Prelude.{ℕ, ◌≡◌, true, List, ◌++◌}
use Rattle.model.specs.Readings.{over}
use Rattle.layout.specs.Layouts.{layout}
use Rattle.layout.specs.Numbers.{HasAll}
use Rattle.deadlines.specs.Types.{DeadlineState}
use Rattle.deadline_layout.specs.Encodings.{deadline_length, state_numbers_with, is_deadline_table, deadline_table_in}

-- [2.10] [12.10] 96 values of a and 96 entries, as each of the code has
abbrev pub IsWholeWith : DeadlineState → Type 0
IsWholeWith d = HasAll d.parameters d.processes

-- [12.112] the numbers of a state of deadlines, whatever stands after them, tell that one
abbrev pub DeadlinesComeBack : Type 0
DeadlinesComeBack = (d : DeadlineState) → IsWholeWith d → (rest : List ℕ)
    → (is_deadline_table (state_numbers_with d ++ rest) ≡ true) × (deadline_table_in (state_numbers_with d ++ rest) ≡ d)

-- [12.112] numbers that tell a state of deadlines are its numbers, whatever stands after them
abbrev pub DeadlineNumbersComeBack : Type 0
DeadlineNumbersComeBack = (l : List ℕ) → is_deadline_table l ≡ true → over (state_numbers_with (deadline_table_in l)) l ≡ l

-- [9.15] the layout's number stands for deadline tables too
abbrev pub DeadlineLayout : Type 0
DeadlineLayout = layout.deadlines ≡ deadline_length
