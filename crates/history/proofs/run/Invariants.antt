-- `history::run` meets its contract: the invariant is what the first i calls of the list give. Assumes nothing.
use Rattle.history.specs.Lists.{rows}
use Rattle.history.proofs.Turns.{Turning}
use Rattle.history.proofs.run.Given as goal

abbrev pub invariant-loop-i : goal.invariant-loop-i
invariant-loop-i l =
    Turning l.initial.state l.calls (rows l.initial.counts l.initial.waited l.initial.answers) l.count l.i l.state (rows l.counts l.waited l.answers)
