-- How many steps are lent: each of the lists has so many places; and how many are left. Assumes nothing.
use Prim.Native.Nat.{ℕ, zero, suc, ◌-◌, ◌≤◌, min}
use mathlib.Core.Path.{◌≡◌, refl, sym, ap, ◌∙◌}
use mathlib.Core.List.{List, [], ◌∷◌}
use native.Mathlib.Omega.{arith}
use lib.ListN.{length, take, drop, length-drop}
use Rattle.model.specs.Texts.{Event, event}
use Rattle.model.specs.Readings.{Lists, room}
use Rattle.model.specs.Writings.{events_in, events_of}
use Rattle.grammar.specs.RoundTrips.{first_of}
use Rattle.model.proofs.Steps.{from, steps_from, steps_end}
use Rattle.execution.specs.declared.recording.Steps.{Steps}
use Rattle.execution.specs.Steps.{lists_of}

pub room_of : (s : Steps) → room (lists_of s) ≡ length s.times.now
room_of s =
    let few : min (length s.times.now) (min (length s.processes.now) (length s.actions.now)) ≡ length s.times.now =
    omega (arith, s.processes_len, s.actions_len) in
    few

-- those after the first n are so many fewer
pub room_after : (s t : Steps) (n : ℕ) → lists_of t ≡ from n (lists_of s) → length t.times.now ≡ length s.times.now - n
room_after s t n e = ap (λ (l : Lists). length l.times) e ∙ length-drop n s.times.now

-- where all have been taken none are left
pub none_left : (l : Lists) (i : ℕ) → room l ≤ i → drop i (events_of l) ≡ []
none_left l i h = sym (steps_from l i) ∙ steps_end l i h

first_in : (n : ℕ) (ts ps qs : List ℕ) → events_in (take n ts) (take n ps) (take n qs) ≡ take n (events_in ts ps qs)
unfolding events_in
first_in zero ts ps qs = refl
first_in (suc n) [] ps qs = refl
first_in (suc n) (t ∷ ts) [] qs = refl
first_in (suc n) (t ∷ ts) (p ∷ ps) [] = refl
first_in (suc n) (t ∷ ts) (p ∷ ps) (q ∷ qs) = ap (λ (es : List Event). event t p q ∷ es) (first_in n ts ps qs)

-- the first places of lists have their first steps
pub steps_first : (n : ℕ) (l : Lists) → events_of (first_of n l) ≡ take n (events_of l)
steps_first n l = first_in n l.times l.processes l.actions
