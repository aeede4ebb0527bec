-- The numbers of an entry, and what the functions that write places make of a list. For the proofs only. `proofs/` relates these
-- definitions to the encodings. Assumes nothing.
use Rattle.std.specs.Prelude.{ℕ, ◌+◌, ◌*◌, Bool, List, [], ◌∷◌, take, drop, set, slice_index, slice_set}
use Rattle.model.specs.Types.{Location}
use Rattle.model.specs.declared.Counts.{Counts}
use Rattle.model.specs.States.{stage_of, since_of, location_at}
use Rattle.layout.specs.Encodings.{clock_place, word_place, stride, stage_place, since_place, tells_entry}
use Rattle.layout.specs.Encodings.{accepted_place, refused_place, entries_place, exits_place, longest_place}

-- The numbers of an entry

-- [9.10] its stage and its arrival
pub record EntryNumbers : Type 0 where
  pub stage : ℕ
  pub since : ℕ

-- helper: of its parts
abbrev pub entry_numbers : ℕ → ℕ → EntryNumbers
entry_numbers stage since = record { stage = stage; since = since }

-- [9.10] of the entry whose numbers start at a place
abbrev pub numbers_at : List ℕ → ℕ → EntryNumbers
numbers_at l at = entry_numbers (slice_index l at) (slice_index l (at + 1))

-- [9.10] of each entry, one after the other
unfoldable pub entries_in : List ℕ → List EntryNumbers
entries_in [] = []
entries_in (stage ∷ []) = []
entries_in (stage ∷ since ∷ rest) = entry_numbers stage since ∷ entries_in rest

-- [9.20] whether they tell a location
abbrev pub tells_location : EntryNumbers → Bool
tells_location e = tells_entry e.stage e.since

-- [2.70] [2.80] the location that they tell
abbrev pub location_of : EntryNumbers → Location
location_of e = location_at e.stage e.since

-- A table

-- [9.10] the numbers of entry i
abbrev pub entry_in : List ℕ → ℕ → EntryNumbers
entry_in l i = numbers_at l (stage_place i)

-- [9.10] the location that entry i tells
abbrev pub location_in : List ℕ → ℕ → Location
location_in l i = location_of (entry_in l i)

-- [9.10] the numbers of the entries from i on
abbrev pub entries_from : List ℕ → ℕ → List ℕ
entries_from l i = drop (stage_place i) l

-- [9.10] those of the first k entries of a list of entries
abbrev pub first_entries : ℕ → List ℕ → List ℕ
first_entries k l = take (stride * k) l

-- [9.10] with another clock and another word
abbrev pub clocked : List ℕ → ℕ → ℕ → List ℕ
clocked l m word = slice_set (slice_set l clock_place m) word_place word

-- [9.10] with entry i in another location
abbrev pub placed_at : List ℕ → ℕ → Location → List ℕ
placed_at l i to = slice_set (slice_set l (stage_place i) (stage_of to)) (since_place i) (since_of to)

-- A summary

-- [9.30] with other counts
abbrev pub counts_put : List ℕ → Counts → List ℕ
counts_put l k =
    set (slice_set (slice_set (slice_set (slice_set l accepted_place k.accepted) refused_place k.refused) entries_place k.entries) exits_place k.exits)
    longest_place k.longest
