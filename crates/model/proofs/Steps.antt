-- The steps that three lists stand for: how many there are, which stands at a place, and those from a place on. Assumes nothing.
use Prim.Native.Nat.{ℕ, zero, suc, ◌+◌, ◌≤◌, ◌<◌, min}
use mathlib.Core.Path.{◌≡◌, refl, ◌∙◌}
use mathlib.Core.List.{List, [], ◌∷◌}
use native.Mathlib.Omega.{arith}
use lib.ListN.{length, get_or, drop, drop_of_length-le}
use Rattle.model.specs.Texts.{Event, event}
use Rattle.model.specs.Readings.{Lists, lists, room}
use Rattle.model.specs.Writings.{events_in, events_of, event_in}
use Rattle.model.proofs.Lists.{drop_at}

length_in : (ts ps qs : List ℕ) → length (events_in ts ps qs) ≡ min (length ts) (min (length ps) (length qs))
unfolding events_in
length_in [] ps qs = omega arith
length_in (t ∷ ts) [] qs = omega arith
length_in (t ∷ ts) (p ∷ ps) [] = omega arith
length_in (t ∷ ts) (p ∷ ps) (q ∷ qs) = omega (arith, length_in ts ps qs)

at_in : (ts ps qs : List ℕ) (i : ℕ) (e : Event) → i < length ts → i < length ps → i < length qs
    → get_or (events_in ts ps qs) i e ≡ event (get_or ts i 0) (get_or ps i 0) (get_or qs i 0)
unfolding events_in
at_in [] ps qs i e f g h = absurd (omega arith)
at_in (t ∷ ts) [] qs i e f g h = absurd (omega arith)
at_in (t ∷ ts) (p ∷ ps) [] i e f g h = absurd (omega arith)
at_in (t ∷ ts) (p ∷ ps) (q ∷ qs) zero e f g h = refl
at_in (t ∷ ts) (p ∷ ps) (q ∷ qs) (suc i) e f g h = at_in ts ps qs i e (omega arith) (omega arith) (omega arith)

none_second : (ts qs : List ℕ) → events_in ts [] qs ≡ []
unfolding events_in
none_second [] qs = refl
none_second (t ∷ ts) qs = refl

none_third : (ts ps : List ℕ) → events_in ts ps [] ≡ []
unfolding events_in
none_third [] ps = refl
none_third (t ∷ ts) [] = refl
none_third (t ∷ ts) (p ∷ ps) = refl

from_in : (i : ℕ) (ts ps qs : List ℕ) → events_in (drop i ts) (drop i ps) (drop i qs) ≡ drop i (events_in ts ps qs)
unfolding events_in
from_in zero ts ps qs = refl
from_in (suc i) [] ps qs = refl
from_in (suc i) (t ∷ ts) [] qs = none_second (drop i ts) (drop (suc i) qs)
from_in (suc i) (t ∷ ts) (p ∷ ps) [] = none_third (drop i ts) (drop i ps)
from_in (suc i) (t ∷ ts) (p ∷ ps) (q ∷ qs) = from_in i ts ps qs

-- the lists from place i on
abbrev pub from : ℕ → Lists → Lists
from i l = lists (drop i l.times) (drop i l.processes) (drop i l.actions)

module _ (l : Lists) where
  pub length_steps : length (events_of l) ≡ room l
  length_steps = length_in l.times l.processes l.actions

  pub step_at : (i : ℕ) (e : Event) → i < room l → get_or (events_of l) i e ≡ event_in l i
  step_at i e h = at_in l.times l.processes l.actions i e (omega arith) (omega arith) (omega arith)

  -- they stand for the steps from there on
  pub steps_from : (i : ℕ) → events_of (from i l) ≡ drop i (events_of l)
  steps_from i = from_in i l.times l.processes l.actions

  pub steps_end : (i : ℕ) → room l ≤ i → events_of (from i l) ≡ []
  steps_end i h =
      let z : length (events_of l) ≤ i = omega (arith, length_steps) in
      steps_from i ∙ drop_of_length-le (events_of l) z

  pub steps_next : (i : ℕ) → i < room l → events_of (from i l) ≡ event_in l i ∷ events_of (from (i + 1) l)
  steps_next i h =
      let e : Event = event_in l i in
      steps_from i ∙ drop_at (events_of l) i e (omega (arith, length_steps))
      ∙ rw (step_at i e h, steps_from (i + 1))
