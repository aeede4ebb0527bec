-- `recent::rings::rest_from` meets its contract: the ring that is left has the order, the last time and the figures of the whole one.
-- Assumes nothing.
use Prim.Native.Nat.{◌-◌}
use Rattle.recent.specs.Looking.{Resting}
use Rattle.recent.proofs.rings.rest_from.Given as goal

abbrev pub invariant-loop-gone : goal.invariant-loop-gone
invariant-loop-gone l = Resting l.board l.first l.count l.since l.place (l.count - l.gone) l.time
