-- Section 9 of the specification: a table and a summary come back from their numbers, and numbers from what they tell.
-- Assumes nothing.
use Rattle.std.specs.Prelude.{◌≡◌, ℕ, ◌≤◌, true, List, ◌++◌, length}
use Rattle.model.specs.declared.Parameters.{Parameters}
use Rattle.model.specs.Types.{State}
use Rattle.model.specs.declared.Statistics.{Statistics}
use Rattle.model.specs.Readings.{over}
use Rattle.layout.specs.Encodings.{state_numbers, is_table, table_in, summary_length, statistics_numbers, summary_in}

-- Tables

-- [2.10] 96 values of a and 96 entries, as the types of the code have it; of either engine
pub record HasAll {A : Type 0} (k : Parameters) (qs : List A) : Type 0 where
  pub limits : length k.a ≡ 96
  pub entries : length qs ≡ 96

-- [2.10] of a state
abbrev pub IsWhole : State → Type 0
IsWhole s = HasAll s.parameters s.processes

-- [9.40] the numbers of a table, whatever stands after them, are those of a table, and tell that one
abbrev pub TableComesBack : Type 0
TableComesBack = (s : State) → IsWhole s → (rest : List ℕ)
    → (is_table (state_numbers s ++ rest) ≡ true) × (table_in (state_numbers s ++ rest) ≡ s)

-- [9.10] what numbers tell is a whole state
abbrev pub TableIsWhole : Type 0
TableIsWhole = (l : List ℕ) → is_table l ≡ true → IsWhole (table_in l)

-- [9.40] numbers that tell a table are its numbers, whatever stands after them
abbrev pub NumbersComeBack : Type 0
NumbersComeBack = (l : List ℕ) → is_table l ≡ true → over (state_numbers (table_in l)) l ≡ l

-- Summaries, of 96 waits so far

-- [9.40] as a table does
abbrev pub SummaryComesBack : Type 0
SummaryComesBack = (x : Statistics) → length x.waited ≡ 96 → (rest : List ℕ) → summary_in (statistics_numbers x ++ rest) ≡ x

-- [9.40] any numbers, if there are enough of them
abbrev pub SummaryNumbersComeBack : Type 0
SummaryNumbersComeBack = (l : List ℕ) → summary_length ≤ length l → over (statistics_numbers (summary_in l)) l ≡ l
