-- The relation of states that match, in plain facts, is the graph of `matched`; and of two that match, the entries of each process do.
-- Assumes nothing.
use Prim.Native.Nat.{ℕ, zero, suc, ◌+◌, ◌-◌}
use mathlib.Core.Path.{◌≡◌, refl, sym, ap, ◌∙◌}
use mathlib.Core.List.{List, [], ◌∷◌}
use native.Mathlib.Omega.{arith}
use lib.ListN.{length, get_or}
use Rattle.model.specs.Types.{Location}
use Rattle.model.specs.declared.Location.TheVariants.{Remainder, Testing, Setting, Checking, Entering, Critical, Resetting, Leaving}
use Rattle.model.specs.Types.{Process}
use Rattle.model.specs.declared.Parameters.{Parameters}
use Rattle.model.specs.Types.{State}
use Rattle.model.specs.States.{idle, limit_at, entry_of}
use Rattle.deadlines.specs.Types.{DeadlineLocation}
use Rattle.deadlines.specs.Types.{DeadlineProcess}
use Rattle.deadlines.specs.Types.{DeadlineState}
use Rattle.deadlines.specs.Deadlines.{dated_at, entry_with, idle_with, entry_in}
use Rattle.deadlines.specs.Matching.{LocationsMatch, EntriesMatch, Matches, dated_from, matched, arrived}
use Rattle.deadlines.proofs.Matched.{add-zero, arrived_matched}
use Rattle.matching.specs.Engines.{OneForOne}

-- Locations

location_matched : (k : Parameters) (i : ℕ) (l : Location) → LocationsMatch (get_or k.a (i - 1) 0) k.b k.c l (dated_at k i l)
unfolding limit_at
location_matched k i Remainder = LocationsMatch.remainder
location_matched k i (Testing t) = rw (add-zero t) LocationsMatch.testing
location_matched k i (Setting t) = rw (add-zero t) LocationsMatch.setting
location_matched k i (Checking t) = LocationsMatch.checking
location_matched k i (Entering t) = rw (add-zero t) LocationsMatch.entering
location_matched k i Critical = LocationsMatch.critical
location_matched k i (Resetting t) = rw (add-zero t) LocationsMatch.resetting
location_matched k i (Leaving t) = rw (add-zero t) LocationsMatch.leaving

-- a location matches one location of deadlines
pub one_location : {a b c : ℕ} {l : Location} {q r : DeadlineLocation} → LocationsMatch a b c l q → LocationsMatch a b c l r → q ≡ r
one_location LocationsMatch.remainder LocationsMatch.remainder = refl
one_location LocationsMatch.testing LocationsMatch.testing = refl
one_location LocationsMatch.setting LocationsMatch.setting = refl
one_location LocationsMatch.checking LocationsMatch.checking = refl
one_location LocationsMatch.entering LocationsMatch.entering = refl
one_location LocationsMatch.critical LocationsMatch.critical = refl
one_location LocationsMatch.resetting LocationsMatch.resetting = refl
one_location LocationsMatch.leaving LocationsMatch.leaving = refl

-- Entries

entries_matched : (k : Parameters) (i : ℕ) (qs : List Process) → EntriesMatch k i qs (dated_from k i qs)
unfolding dated_from
entries_matched k i [] = EntriesMatch.ended
entries_matched k i (q ∷ qs) = EntriesMatch.both (location_matched k i q.location) (entries_matched k (i + 1) qs)

entries_one : {k : Parameters} {i : ℕ} {qs : List Process} {es fs : List DeadlineProcess} → EntriesMatch k i qs es → EntriesMatch k i qs fs → es ≡ fs
entries_one EntriesMatch.ended EntriesMatch.ended = refl
entries_one (EntriesMatch.both m ms) (EntriesMatch.both n ns) = λ j. entry_with (one_location m n j) ∷ entries_one ms ns j

-- there are as many
entries_size : {k : Parameters} {i : ℕ} {qs : List Process} {es : List DeadlineProcess} → EntriesMatch k i qs es → length es ≡ length qs
entries_size EntriesMatch.ended = refl
entries_size (EntriesMatch.both m ms) = ap suc (entries_size ms)

-- the entries at a place, whose a has the place x; past the end both are in the remainder
entry_matches : {k : Parameters} {i : ℕ} {qs : List Process} {es : List DeadlineProcess} → EntriesMatch k i qs es → (j x : ℕ) → i + j - 1 ≡ x
    → LocationsMatch (get_or k.a x 0) k.b k.c (get_or qs j idle).location (get_or es j idle_with).location
entry_matches EntriesMatch.ended j x e = LocationsMatch.remainder
entry_matches {i = i} (EntriesMatch.both m ms) zero x e = let first : x ≡ i - 1 = omega arith in rw first m
entry_matches (EntriesMatch.both m ms) (suc j) x e = entry_matches ms j x (omega arith)

-- States

pub matches_matched : (s : State) → Matches s (matched s)
matches_matched s =
    record { parameters = refl; clock = refl; word = refl; entries = entries_matched s.parameters 1 s.processes }

pub one_match : {s : State} {d e : DeadlineState} → Matches s d → Matches s e → d ≡ e
one_match m n = λ j. record {
  parameters = (m.parameters ∙ sym n.parameters) j;
  clock = (m.clock ∙ sym n.clock) j;
  word = (m.word ∙ sym n.word) j;
  processes = entries_one m.entries n.entries j;
}

pub is_matched : {s : State} {d : DeadlineState} → Matches s d → d ≡ matched s
is_matched {s} m = one_match m (matches_matched s)

-- [12.25]
pub one_for_one : OneForOne
one_for_one = record {
  some = λ s. (matched s, matches_matched s);
  one = λ s d e m n. one_match m n;
  back = λ s t d m n. sym (arrived_matched s) ∙ ap arrived (sym (is_matched m) ∙ is_matched n) ∙ arrived_matched t;
}

-- Two states that match

module _ {s : State} {d : DeadlineState} (m : Matches s d) where
  pub size_same : length d.processes ≡ length s.processes
  size_same = entries_size m.entries

  pub places_match : (i : ℕ)
      → LocationsMatch (get_or s.parameters.a (i - 1) 0) s.parameters.b s.parameters.c (entry_of s i).location (entry_in d i).location
  unfolding entry_of entry_in
  places_match i = entry_matches m.entries (i - 1) (i - 1) (omega arith)
