-- The entries of a log: how many there are, what stands in each place, and their times. Assumes nothing.
use Rattle.std.proofs.Common.{◌≡◌, ℕ, zero, suc, ◌<◌, min, List, [], ◌∷◌, length, get_or, take, refl, ap, ◌∙◌, arith}
use lib.Seq.{take-nil}
use Rattle.local_log.specs.Comparisons.{Entry, entry, entries_of, times_in, actions_in}
use Rattle.local_log.specs.Answers.{EntriesInPlaces}

pub length_entries : (times actions : List ℕ) → length (entries_of times actions) ≡ min (length times) (length actions)
unfolding entries_of
length_entries [] actions = omega arith
length_entries (t ∷ times) [] = omega arith
length_entries (t ∷ times) (q ∷ actions) = omega (arith, length_entries times actions)

in_place : (times actions : List ℕ) (i : ℕ) (x : Entry) → i < length (entries_of times actions)
    → get_or (entries_of times actions) i x ≡ entry (get_or times i 0) (get_or actions i 0)
unfolding entries_of
in_place [] actions i x h = absurd (omega arith)
in_place (t ∷ times) [] i x h = absurd (omega arith)
in_place (t ∷ times) (q ∷ actions) zero x h = refl
in_place (t ∷ times) (q ∷ actions) (suc i) x h = in_place times actions i x (omega arith)

-- [13.10]
pub entries_in_places : EntriesInPlaces
entries_in_places times actions = (length_entries times actions, in_place times actions)

-- of a log in two lists, they and its actions are the first of each
pub times-of : (times actions : List ℕ) → times_in (entries_of times actions) ≡ take (min (length times) (length actions)) times
unfolding entries_of
times-of [] actions = rw take-nil
times-of (t ∷ times) [] = ap (λ (k : ℕ). take k (t ∷ times)) {x = 0} {y = min (suc (length times)) 0} (omega arith)
times-of (t ∷ times) (q ∷ actions) =
    ap (λ (l : List ℕ). t ∷ l) (times-of times actions)
    ∙ ap (λ (k : ℕ). take k (t ∷ times)) {x = suc (min (length times) (length actions))} {y = min (suc (length times)) (suc (length actions))} (omega arith)

pub actions-of : (times actions : List ℕ) → actions_in (entries_of times actions) ≡ take (min (length times) (length actions)) actions
unfolding entries_of
actions-of [] actions = ap (λ (k : ℕ). take k actions) {x = 0} {y = min 0 (length actions)} (omega arith)
actions-of (t ∷ times) [] = rw take-nil
actions-of (t ∷ times) (q ∷ actions) =
    ap (λ (l : List ℕ). q ∷ l) (actions-of times actions)
    ∙ ap (λ (k : ℕ). take k (q ∷ actions)) {x = suc (min (length times) (length actions))} {y = min (suc (length times)) (suc (length actions))} (omega arith)
