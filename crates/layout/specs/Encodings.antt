-- Section 9 of the specification, its lists: a state and a summary as numbers at fixed places, for a caller who can lend nothing else.
-- Assumes nothing.
use Rattle.std.specs.Prelude.{ℕ, ◌+◌, ◌*◌, Bool, true, false, cond, ◌&&◌, List, [], ◌∷◌, ◌++◌, length, take, drop, ◌==◌, nat_le, nat_lt, slice_index}
use Rattle.model.specs.Types.{Process}
use Rattle.model.specs.declared.Parameters.{Parameters}
use Rattle.model.specs.Types.{State}
use Rattle.model.specs.declared.Counts.{Counts}
use Rattle.model.specs.declared.Statistics.{Statistics}
use Rattle.model.specs.Stages.{leaving}
use Rattle.model.specs.States.{entry, stage_of, since_of, sound_of, location_at, parameters_of}
use Rattle.model.specs.Readings.{over}
use Rattle.model.specs.Summaries.{counts_of, counts_numbers, statistics_of}

-- A table, the numbers of a state

-- [9.10] where n stands
abbrev pub count_place : ℕ
count_place = 0

-- [9.10] where b stands
abbrev pub b_place : ℕ
b_place = 1

-- [9.10] where c stands
abbrev pub c_place : ℕ
c_place = 2

-- [9.10] where the clock stands
abbrev pub clock_place : ℕ
clock_place = 3

-- [9.10] where the word stands
abbrev pub word_place : ℕ
word_place = 4

-- [9.10] where the values of a start
abbrev pub limits_place : ℕ
limits_place = 5

-- [9.10] where the a of an entry's process stands, entry 0 being that of process 1
abbrev pub limit_place : ℕ → ℕ
limit_place i = limits_place + i

-- [9.10] the numbers before the entries
abbrev pub header_length : ℕ
header_length = limits_place + 96

-- [9.10] the numbers of an entry
abbrev pub stride : ℕ
stride = 2

-- [9.10] the numbers of a table
abbrev pub table_length : ℕ
table_length = header_length + stride * 96

-- [9.10] where the stage of an entry stands, entry 0 being that of process 1
abbrev pub stage_place : ℕ → ℕ
stage_place i = header_length + stride * i

-- [9.10] where its arrival stands
abbrev pub since_place : ℕ → ℕ
since_place i = stage_place i + 1

-- [9.10] the numbers of the entries
unfoldable pub process_numbers : List Process → List ℕ
process_numbers [] = []
process_numbers (q ∷ qs) = stage_of q.location ∷ since_of q.location ∷ process_numbers qs

-- [9.10] the numbers before them
abbrev pub header_numbers : Parameters → ℕ → ℕ → List ℕ
header_numbers k clock word = k.n ∷ k.b ∷ k.c ∷ clock ∷ word ∷ k.a

-- [9.10]
unfoldable pub state_numbers : State → List ℕ
state_numbers s = header_numbers s.parameters s.clock s.word ++ process_numbers s.processes

-- [9.10] [12.110] a list with other numbers before the entries; one that has no room for them stays
abbrev pub header_put : List ℕ → Parameters → ℕ → ℕ → List ℕ
header_put l k clock word = cond (nat_lt (length l) header_length) l (over (header_numbers k clock word) l)

-- The state that numbers tell

-- [9.10] n
abbrev pub count_in : List ℕ → ℕ
count_in l = slice_index l count_place

-- [9.10] b
abbrev pub b_in : List ℕ → ℕ
b_in l = slice_index l b_place

-- [9.10] c
abbrev pub c_in : List ℕ → ℕ
c_in l = slice_index l c_place

-- [9.10] the values of a
abbrev pub limits_told : List ℕ → List ℕ
limits_told l = take 96 (drop limits_place l)

-- [9.10] its parameters
abbrev pub table_parameters : List ℕ → Parameters
table_parameters l = parameters_of (count_in l) (b_in l) (c_in l) (limits_told l)

-- [9.10] the clock
abbrev pub clock_in : List ℕ → ℕ
clock_in l = slice_index l clock_place

-- [9.10] the word
abbrev pub word_in : List ℕ → ℕ
word_in l = slice_index l word_place

-- [9.10] the entries that numbers tell
unfoldable pub processes_in : List ℕ → List Process
processes_in [] = []
processes_in (stage ∷ []) = []
processes_in (stage ∷ since ∷ rest) = entry (location_at stage since) ∷ processes_in rest

-- [9.10] of just the numbers of a table
unfoldable pub state_in : List ℕ → State
state_in l =
    record {
      parameters = table_parameters l;
      clock = clock_in l;
      word = word_in l;
      processes = processes_in (drop header_length l);
    }

-- [9.20] a stage and a since tell a location if there is one that has them
abbrev pub tells_entry : ℕ → ℕ → Bool
tells_entry stage since = nat_le stage leaving && since_of (location_at stage since) == since

-- [9.20] of the numbers of all entries
unfoldable pub are_entries : List ℕ → Bool
are_entries [] = true
are_entries (stage ∷ []) = false
are_entries (stage ∷ since ∷ rest) = tells_entry stage since && are_entries rest

-- [9.20] a list that starts with the numbers of a state
unfoldable pub is_table : List ℕ → Bool
is_table l = nat_le table_length (length l) && are_entries (drop header_length (take table_length l))

-- [9.10] the state that the first numbers of a list tell
abbrev pub table_in : List ℕ → State
table_in l = state_in (take table_length l)

-- [9.20] a list that starts with the numbers of a sound state
unfoldable pub is_sound_table : List ℕ → Bool
is_sound_table l = is_table l && sound_of (table_in l)

-- A summary

-- [9.30] where the count of accepted actions stands
abbrev pub accepted_place : ℕ
accepted_place = 0

-- [9.30] that of refused ones
abbrev pub refused_place : ℕ
refused_place = 1

-- [9.30] that of entries
abbrev pub entries_place : ℕ
entries_place = 2

-- [9.30] that of exits
abbrev pub exits_place : ℕ
exits_place = 3

-- [9.30] where the longest wait stands
abbrev pub longest_place : ℕ
longest_place = 4

-- [9.30] the numbers before the waits so far
abbrev pub counts_length : ℕ
counts_length = 5

-- [9.30] where the wait so far of an entry stands
abbrev pub waited_place : ℕ → ℕ
waited_place i = counts_length + i

-- [9.30] the numbers of a summary
abbrev pub summary_length : ℕ
summary_length = counts_length + 96

-- [9.30]
unfoldable pub statistics_numbers : Statistics → List ℕ
statistics_numbers x = counts_numbers x.counts ++ x.waited

-- [9.30] the counts that they tell
abbrev pub summary_counts : List ℕ → Counts
summary_counts l =
    counts_of (slice_index l accepted_place) (slice_index l refused_place) (slice_index l entries_place) (slice_index l exits_place)
    (slice_index l longest_place)

-- [9.30] the summary that just its numbers tell
unfoldable pub statistics_in : List ℕ → Statistics
statistics_in l = statistics_of (summary_counts l) (drop counts_length l)

-- [9.30] the summary that the first numbers of a list tell
abbrev pub summary_in : List ℕ → Statistics
summary_in l = statistics_in (take summary_length l)
