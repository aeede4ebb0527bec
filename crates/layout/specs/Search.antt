-- The search for the first deadline over a lent table, [4.85]: what `survey_table` finds, by its contract. For the proofs only, since `survey_in`
-- is; of the state that a table tells, `rules/specs/Search` and `matching/specs/Search` say the same. Assumes nothing.
use Rattle.std.specs.Prelude.{◌≡◌, ℕ, ◌≤◌, true, false, ◌≢◌, List, length, take}
use Rattle.model.specs.Answers.{first_deadline}
use Rattle.rules.specs.Search.{TellsFirst}
use Rattle.layout.specs.Encodings.{table_length, table_in, is_sound_table}
use Rattle.layout.specs.Steps.{survey_in}

-- [4.85] [9.60]
abbrev pub TableSearchTellsFirst : Type 0
TableSearchTellsFirst = (l : List ℕ) (acting : ℕ) → is_sound_table l ≡ true
    → TellsFirst (table_in l).clock (table_in l).parameters.c (first_deadline (table_in l)) (survey_in (take table_length l) acting)

-- [4.85] [9.20] where the numbers tell no sound state, no deadline is told but a fault
abbrev pub TableSearchFindsFault : Type 0
TableSearchFindsFault = (l : List ℕ) (acting : ℕ) → table_length ≤ length l → is_sound_table l ≡ false
    → (survey_in (take table_length l) acting).faulty ≢ 0
