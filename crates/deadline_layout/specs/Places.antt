-- Places of the numbers of entries, and what the functions that write them make of a list. For the proofs only. What stands before the entries is
-- written as in a table of `layout`. Assumes nothing.
use Rattle.std.specs.Prelude.{ℕ, ◌*◌, ◌-◌, ◌≡◌, Bool, true, List, [], ◌∷◌, get_or, take, drop, set}
use Rattle.model.specs.Types.{Location}
use Rattle.model.specs.States.{location_at}
use Rattle.deadlines.specs.Types.{DeadlineLocation}
use Rattle.deadlines.specs.Deadlines.{stage_with, first_of, last_of, deadline_at, opens_after}
use Rattle.deadline_layout.specs.Encodings.{deadline_stride, deadline_length, stage_place_with, first_place, last_place, tells_times, are_deadlines}
use Rattle.deadline_layout.specs.Encodings.{is_sound_deadline_table}

-- [12.115] what is lent of a list that starts with the numbers of a sound state of deadlines: just these
pub record IsSoundPart (l part : List ℕ) : Type 0 where
  pub sound : is_sound_deadline_table l ≡ true
  pub is : part ≡ take deadline_length l

-- Entry i of a deadline table

-- [12.110] its numbers
abbrev pub entry_in : List ℕ → ℕ → List ℕ
entry_in l i = get_or l (stage_place_with i) 0 ∷ get_or l (first_place i) 0 ∷ get_or l (last_place i) 0 ∷ []

-- [12.115] whether its numbers tell a location
abbrev pub tells_at : List ℕ → ℕ → Bool
tells_at l i = tells_times (get_or l (stage_place_with i) 0) (get_or l (first_place i) 0) (get_or l (last_place i) 0)

-- [12.110] the location that they tell
abbrev pub location_in : List ℕ → ℕ → DeadlineLocation
location_in l i = deadline_at (get_or l (stage_place_with i) 0) (get_or l (first_place i) 0) (get_or l (last_place i) 0)

-- [12.110] the numbers of the entries from i on
abbrev pub entries_from : List ℕ → ℕ → List ℕ
entries_from l i = drop (stage_place_with i) l

-- [12.115] whether all of them tell locations
abbrev pub entries_told : List ℕ → Bool
entries_told l = are_deadlines (entries_from l 0)

-- [12.100] the location of entry i, with the arrival that its first time tells
abbrev pub arrived_in : List ℕ → ℕ → ℕ → Location
arrived_in l i b =
    location_at (get_or l (stage_place_with i) 0) (get_or l (first_place i) 0 - opens_after b (get_or l (stage_place_with i) 0))

-- [12.110] those of the first k entries of a list of entries
abbrev pub first_entries : ℕ → List ℕ → List ℕ
first_entries k l = take (deadline_stride * k) l

-- [12.110] with entry i in another location
abbrev pub placed_with : List ℕ → ℕ → DeadlineLocation → List ℕ
placed_with l i to = set (set (set l (stage_place_with i) (stage_with to)) (first_place i) (first_of to)) (last_place i) (last_of to)
