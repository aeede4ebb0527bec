-- The search for the first deadline over a lent deadline table, [4.85]: what `survey_table` finds, by its contract. For the proofs only, since
-- `survey_with` is; of the state that a table tells, `deadlines/specs/Search` and `matching/specs/Search` say the same. Assumes nothing.
use Rattle.std.specs.Prelude.{ℕ, ◌≤◌, ◌≡◌, ◌≢◌, true, false, List, length, take}
use Rattle.rules.specs.Search.{TellsFirst}
use Rattle.deadlines.specs.Deadlines.{first_last}
use Rattle.deadline_layout.specs.Encodings.{deadline_length, deadline_table_in, is_sound_deadline_table}
use Rattle.deadline_layout.specs.Steps.{survey_with}

-- [4.85] [12.130]
abbrev pub DeadlineTableSearchTellsFirst : Type 0
DeadlineTableSearchTellsFirst = (l : List ℕ) (acting : ℕ) → is_sound_deadline_table l ≡ true
    → TellsFirst (deadline_table_in l).clock (deadline_table_in l).parameters.c (first_last (deadline_table_in l))
    (survey_with (take deadline_length l) acting)

-- [4.85] [12.115] where the numbers tell no sound state of deadlines, no deadline is told but a fault
abbrev pub DeadlineTableSearchFindsFault : Type 0
DeadlineTableSearchFindsFault = (l : List ℕ) (acting : ℕ) → deadline_length ≤ length l → is_sound_deadline_table l ≡ false
    → (survey_with (take deadline_length l) acting).faulty ≢ 0
