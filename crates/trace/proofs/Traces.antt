-- The steps in three lists, from a place on: their forms and their text. Assumes nothing.
use Prim.Native.Nat.{ℕ, ◌+◌, ◌≤◌, ◌<◌}
use mathlib.Core.Path.{◌≡◌}
use mathlib.Core.Bool.{true, false}
use mathlib.Core.List.{[], ◌++◌}
use native.Mathlib.Omega.{arith}
use Rattle.std.specs.Prelude.{None, Some}
use Rattle.model.specs.Texts.{event_text, events_text, has_form}
use Rattle.model.specs.Readings.{Lists, room}
use Rattle.model.specs.Writings.{events_of, event_in, formless_from}
use Rattle.model.proofs.Steps.{from, steps_end, steps_next}

module _ (l : Lists) (i : ℕ) where
  pub formless_end : (line : ℕ) → room l ≤ i → formless_from line (events_of (from i l)) ≡ None
  unfolding formless_from
  formless_end line h = rw (steps_end l i h)

  pub text_end : room l ≤ i → events_text (events_of (from i l)) ≡ []
  unfolding events_text
  text_end h = rw (steps_end l i h)

  module _ (within : i < room l) where
    pub text_at : events_text (events_of (from i l)) ≡ event_text (event_in l i) ++ events_text (events_of (from (i + 1) l))
    unfolding events_text
    text_at = rw (steps_next l i within)

    -- where the first step has the line `first`
    pub formless_here : (first : ℕ) → has_form (event_in l i) ≡ false → Some (first + i) ≡ formless_from (first + i) (events_of (from i l))
    unfolding formless_from
    formless_here first e = rw (steps_next l i within) (rw e)

    pub formless_next : (first : ℕ) → has_form (event_in l i) ≡ true
        → formless_from (first + (i + 1)) (events_of (from (i + 1) l)) ≡ formless_from (first + i) (events_of (from i l))
    unfolding formless_from
    formless_next first e = let q : first + i + 1 ≡ first + (i + 1) = omega arith in rw (steps_next l i within) (rw (e, q))
