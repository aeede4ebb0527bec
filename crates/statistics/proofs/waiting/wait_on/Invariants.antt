-- `statistics::waiting::wait_on` meets its contract: the places before i are gone over. Assumes nothing.
use Rattle.std.proofs.Common.{◌≡◌}
use Rattle.statistics.specs.Waitings.{gains_of, stage_at, waited_from}
use Rattle.statistics.proofs.waiting.wait_on.Given as goal

abbrev pub invariant-loop-i : goal.invariant-loop-i
invariant-loop-i g l =
    l.waited ≡ waited_from (gains_of l.unused) (stage_at (g.S.Stages.entries l.stages)) 0 l.i l.fn.waited
