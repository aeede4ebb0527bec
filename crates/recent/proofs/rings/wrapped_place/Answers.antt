-- `recent::rings::wrapped_place` meets its contract: a place that is one stays, any other is counted from the end of the places on.
-- Assumes nothing.
use mathlib.Core.Path.{sym}
use Rattle.recent.proofs.Places.{wrapped_inside, wrapped_past}
use Rattle.recent.proofs.rings.wrapped_place.Goals as goal

pub returns-then-place-lt-PLACES : goal.returns-then-place-lt-PLACES
returns-then-place-lt-PLACES c = sym (wrapped_inside _ c.if-place-lt-PLACES.true)

pub returns-else-place-lt-PLACES : goal.returns-else-place-lt-PLACES
returns-else-place-lt-PLACES c = sym (wrapped_past _ c.if-place-lt-PLACES.false)
