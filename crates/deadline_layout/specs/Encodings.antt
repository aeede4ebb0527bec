-- Section 12 of the specification, its lists: a state of deadlines as numbers at fixed places, for a caller who can lend nothing else. What stands
-- before the entries is as in a table of `layout`. Assumes nothing.
use Rattle.std.specs.Prelude.{ℕ, ◌+◌, ◌*◌, Bool, true, false, ◌&&◌, List, [], ◌∷◌, ◌++◌, length, take, drop, leb, eqb}
use Rattle.model.specs.Stages.{leaving}
use Rattle.layout.specs.Encodings.{header_length, header_numbers, table_parameters, clock_in, word_in}
use Rattle.deadlines.specs.Types.{DeadlineProcess}
use Rattle.deadlines.specs.Types.{DeadlineState}
use Rattle.deadlines.specs.Deadlines.{stage_with, first_of, last_of, deadline_at, entry_with, sound_with}

-- A deadline table, the numbers of a state of deadlines

-- [12.110] the numbers of an entry
abbrev pub deadline_stride : ℕ
deadline_stride = 3

-- [12.110] the numbers of a deadline table
abbrev pub deadline_length : ℕ
deadline_length = header_length + deadline_stride * 96

-- [12.110] where the stage of an entry stands, entry 0 being that of process 1
abbrev pub stage_place_with : ℕ → ℕ
stage_place_with i = header_length + deadline_stride * i

-- [12.110] where its first time stands
abbrev pub first_place : ℕ → ℕ
first_place i = stage_place_with i + 1

-- [12.110] where its last time stands
abbrev pub last_place : ℕ → ℕ
last_place i = stage_place_with i + 2

-- [12.110] the numbers of the entries
unfoldable pub deadline_numbers : List DeadlineProcess → List ℕ
deadline_numbers [] = []
deadline_numbers (q ∷ qs) = stage_with q.location ∷ first_of q.location ∷ last_of q.location ∷ deadline_numbers qs

-- [12.110]
unfoldable pub state_numbers_with : DeadlineState → List ℕ
state_numbers_with d = header_numbers d.parameters d.clock d.word ++ deadline_numbers d.processes

-- The state of deadlines that numbers tell

-- [12.110] the entries that numbers tell
unfoldable pub deadlines_in : List ℕ → List DeadlineProcess
deadlines_in [] = []
deadlines_in (stage ∷ []) = []
deadlines_in (stage ∷ f ∷ []) = []
deadlines_in (stage ∷ f ∷ l ∷ rest) = entry_with (deadline_at stage f l) ∷ deadlines_in rest

-- [12.110] of just the numbers of a deadline table
unfoldable pub state_with_in : List ℕ → DeadlineState
state_with_in l =
    record {
      parameters = table_parameters l;
      clock = clock_in l;
      word = word_in l;
      processes = deadlines_in (drop header_length l);
    }

-- [12.115] a stage and two times tell a location if there is one that has them
abbrev pub tells_times : ℕ → ℕ → ℕ → Bool
tells_times stage f l = leb stage leaving && eqb (first_of (deadline_at stage f l)) f && eqb (last_of (deadline_at stage f l)) l

-- [12.115] of the numbers of all entries
unfoldable pub are_deadlines : List ℕ → Bool
are_deadlines [] = true
are_deadlines (stage ∷ []) = false
are_deadlines (stage ∷ f ∷ []) = false
are_deadlines (stage ∷ f ∷ l ∷ rest) = tells_times stage f l && are_deadlines rest

-- [12.115] a list that starts with the numbers of a state of deadlines
unfoldable pub is_deadline_table : List ℕ → Bool
is_deadline_table l = leb deadline_length (length l) && are_deadlines (drop header_length (take deadline_length l))

-- [12.110] the state of deadlines that the first numbers of a list tell
abbrev pub deadline_table_in : List ℕ → DeadlineState
deadline_table_in l = state_with_in (take deadline_length l)

-- [12.115] a list that starts with the numbers of a sound state of deadlines
unfoldable pub is_sound_deadline_table : List ℕ → Bool
is_sound_deadline_table l = is_deadline_table l && sound_with (deadline_table_in l)
