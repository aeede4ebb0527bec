-- Section 13 of the specification, what holds of every comparison, in plain facts: that there is one answer, and which; how the shift is known
-- from the entries alone; and what it says of a clock that is off. Assumes nothing.
use Rattle.std.specs.Prelude.{◌≡◌, ℕ, ◌+◌, ◌<◌, ◌≤◌, min, ◌≢◌, ◌⊎◌, ◌↔◌, List, [], ◌∷◌, length, ℤ, pos, ◌+ℤ◌, neg_ℤ, ◌≤ℤ◌, slice_index, slice_index_or}
use Rattle.local_log.specs.declared.Comparison.{Comparison}
use Rattle.local_log.specs.Comparisons.{Entry, entry, entries_of, most_shift, Within, SameActions, Serves, Least, comparison, Compared}
use Rattle.local_log.specs.Formulas.{least_shift, compared_of}

-- Logs

-- [13.10] of a log in two lists: as many entries as the shorter has places, and in each place what stands there in both
abbrev pub EntriesInPlaces : Type 0
EntriesInPlaces = (times actions : List ℕ)
    → (length (entries_of times actions) ≡ min (length times) (length actions))
    × ((i : ℕ) (x : Entry) → i < length (entries_of times actions)
    → slice_index_or (entries_of times actions) i x ≡ entry (slice_index times i) (slice_index actions i))

-- One answer

-- [13.65] there is one
abbrev pub SomeAnswer : Type 0
SomeAnswer = (d e : ℕ) (local other : List Entry) → (r : Comparison) × Compared d e local other r

-- [13.65] and no other
abbrev pub OneAnswer : Type 0
OneAnswer = (d e : ℕ) (local other : List Entry) (r t : Comparison) → Compared d e local other r → Compared d e local other t → r ≡ t

-- [13.65] which code it has. For 0 it is enough that some shift serves: then there is a least one
pub record Exactly (d e : ℕ) (local other : List Entry) (r : Comparison) : Type 0 where
  pub agree : (r.code ≡ 0) ↔ (Within d e local other × SameActions local other × (s : ℤ) × Serves d e local other s)
  pub past_bounds : (r.code ≡ 19) ↔ (Within d e local other → ⊥)
  pub other_actions : (r.code ≡ 20) ↔ (Within d e local other × (SameActions local other → ⊥))
  pub no_shift : (r.code ≡ 21) ↔ (Within d e local other × SameActions local other × ((s : ℤ) → Serves d e local other s → ⊥))

-- [13.65]
abbrev pub AnsweredExactly : Type 0
AnsweredExactly = (d e : ℕ) (local other : List Entry) (r : Comparison) → Compared d e local other r → Exactly d e local other r

-- [13.60] no process in any answer, and no shift in a refusal
abbrev pub RefusedWithout : Type 0
RefusedWithout = (d e : ℕ) (local other : List Entry) (r : Comparison) → Compared d e local other r
    → (r.process ≡ 0) × (r.code ≢ 0 → r.shift ≡ pos 0)

-- Which shift

-- [13.70] at some place the other time is the local one, the shift s and e together
pub data Touches (e : ℕ) (s : ℤ) : List Entry → List Entry → Type 0 where
  here : {x y : Entry} {xs ys : List Entry} → pos y.time ≡ pos x.time +ℤ s +ℤ pos e → Touches e s (x ∷ xs) (y ∷ ys)
  later : {x y : Entry} {xs ys : List Entry} → Touches e s xs ys → Touches e s (x ∷ xs) (y ∷ ys)

-- [13.70] a shift that serves is the least exactly if it is -d or touches
abbrev pub LeastTouches : Type 0
LeastTouches = (d e : ℕ) (local other : List Entry) (s : ℤ) → Serves d e local other s
    → Least d e local other s ↔ ((s ≡ neg_ℤ (pos d)) ⊎ Touches e s local other)

-- [13.70] so it is the one that is worked out
abbrev pub WhichShift : Type 0
WhichShift = (d e : ℕ) (local other : List Entry) (s : ℤ) → Least d e local other s → s ≡ least_shift d e local other

-- [13.72] and what an answer means is the same as to be the one worked out
abbrev pub ComparedExactly : Type 0
ComparedExactly = (d e : ℕ) (local other : List Entry) (r : Comparison) → Compared d e local other r ↔ (r ≡ compared_of d e local other)

-- [13.75] two logs without an entry
abbrev pub NoEntries : Type 0
NoEntries = (d e : ℕ) → d ≤ most_shift → e ≤ most_shift → Compared d e [] [] (comparison 0 (neg_ℤ (pos d)))

-- A clock that is off

-- [13.80] where the shift s serves, the answer is 0, its shift is not above s and, if there is an entry, not more than 2e below; so with e = 0 it is s
abbrev pub ClockOff : Type 0
ClockOff = (d e : ℕ) (local other : List Entry) (s : ℤ) (r : Comparison)
    → Within d e local other → SameActions local other → Serves d e local other s → Compared d e local other r
    → (r.code ≡ 0) × (r.shift ≤ℤ s) × (local ≢ [] → s ≤ℤ (r.shift +ℤ pos (e + e))) × (e ≡ 0 → local ≢ [] → r.shift ≡ s)

-- [13.85] what agrees does so with a wider range and tolerance, at a shift that is not above
abbrev pub Wider : Type 0
Wider = (d e wider looser : ℕ) (local other : List Entry) (r t : Comparison)
    → d ≤ wider → wider ≤ most_shift → e ≤ looser → looser ≤ most_shift
    → Compared d e local other r → r.code ≡ 0 → Compared wider looser local other t → (t.code ≡ 0) × (t.shift ≤ℤ r.shift)

-- [13.87] the other way round the same shift serves with the other sign
abbrev pub OtherWayRound : Type 0
OtherWayRound = (d e : ℕ) (local other : List Entry) (s : ℤ) → Serves d e local other s ↔ Serves d e other local (neg_ℤ s)
