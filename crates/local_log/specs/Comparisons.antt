-- Section 13 of the specification, a local log held against another log: what the entries of a log are, when a shift serves, and `Compared`,
-- what an answer means. Shifts are whole numbers of either sign, and no interval and no search has a part in it. Assumes nothing.
use Rattle.std.specs.Prelude.{◌≡◌, ℕ, ◌≤◌, List, [], ◌∷◌, map, ℤ, pos, ◌+ℤ◌, ◌-ℤ◌, neg_ℤ, ◌≤ℤ◌, unsigned_abs}
use Rattle.model.specs.States.{last_time}
use Rattle.local_log.specs.declared.Comparison.{Comparison}

-- Logs

-- [13.10] an entry of a log
pub record Entry : Type 0 where
  pub time : ℕ
  pub action : ℕ

-- helper: of its parts
abbrev pub entry : ℕ → ℕ → Entry
entry time action = record { time = time; action = action }

-- [13.10] the entries of the log in two lists, one for each place that both have
unfoldable pub entries_of : List ℕ → List ℕ → List Entry
entries_of [] actions = []
entries_of (t ∷ times) [] = []
entries_of (t ∷ times) (q ∷ actions) = entry t q ∷ entries_of times actions

-- Bounds

-- [13.30] what d and e are at most
abbrev pub most_shift : ℕ
most_shift = 1_000_000

-- [13.30] no time of these entries is past the clock's end
abbrev pub InTime : List Entry → Type 0
InTime [] = Unit {0}
InTime (x ∷ xs) = (x.time ≤ last_time) × InTime xs

-- [13.30]
pub record Within (d e : ℕ) (local other : List Entry) : Type 0 where
  pub range : d ≤ most_shift
  pub tolerance : e ≤ most_shift
  pub local_times : InTime local
  pub other_times : InTime other

-- Agreement

-- helper: the times of a log
abbrev pub times_in : List Entry → List ℕ
times_in entries = map (λ (x : Entry). x.time) entries

-- helper: the actions of a log
abbrev pub actions_in : List Entry → List ℕ
actions_in entries = map (λ (x : Entry). x.action) entries

-- [13.40]
abbrev pub SameActions : List Entry → List Entry → Type 0
SameActions local other = actions_in local ≡ actions_in other

-- [13.50] the other time differs from the local one and the shift s by at most e
abbrev pub Near : ℕ → ℤ → Entry → Entry → Type 0
Near e s x y = unsigned_abs (pos y.time -ℤ (pos x.time +ℤ s)) ≤ e

-- [13.50] so at each place that both logs have
abbrev pub AllNear : ℕ → ℤ → List Entry → List Entry → Type 0
AllNear e s [] other = Unit {0}
AllNear e s (x ∷ xs) [] = Unit {0}
AllNear e s (x ∷ xs) (y ∷ ys) = Near e s x y × AllNear e s xs ys

-- [13.50] the shift s serves
pub record Serves (d e : ℕ) (local other : List Entry) (s : ℤ) : Type 0 where
  pub from : neg_ℤ (pos d) ≤ℤ s
  pub to : s ≤ℤ pos d
  pub near : AllNear e s local other

-- [13.60] it is the least that does
pub record Least (d e : ℕ) (local other : List Entry) (s : ℤ) : Type 0 where
  pub serves : Serves d e local other s
  pub least : (t : ℤ) → Serves d e local other t → s ≤ℤ t

-- The answer

-- helper: of a code and a shift
abbrev pub comparison : ℕ → ℤ → Comparison
comparison code shift = record { code = code; process = 0; shift = shift }

-- [13.60] [4.19] [4.20] [4.21] what is answered to a local log that is held against another one
pub data Compared (d e : ℕ) (local other : List Entry) : Comparison → Type 0 where
  past_bounds : (Within d e local other → ⊥) → Compared d e local other (comparison 19 (pos 0))
  other_actions : Within d e local other → (SameActions local other → ⊥) → Compared d e local other (comparison 20 (pos 0))
  no_shift : Within d e local other → SameActions local other → ((s : ℤ) → Serves d e local other s → ⊥)
      → Compared d e local other (comparison 21 (pos 0))
  agree : Within d e local other → SameActions local other → (s : ℤ) → Least d e local other s → Compared d e local other (comparison 0 s)
