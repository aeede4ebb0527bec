-- What the steps that are left come to is what all of them do.
use Rattle.std.proofs.Common.{ℕ, ◌-◌}
use Rattle.workload.specs.Work.{steps_in, Sums}
use Rattle.workload.proofs.run.Given as goal

abbrev pub invariant-loop-i : goal.invariant-loop-i
invariant-loop-i g l =
    let m = g.M.Machine in
    (last : _) (total : ℕ) → Sums m.step l.fn.case l.i (steps_in l.fn.case - l.i) l.machine last l.sum total
    → Sums m.step l.fn.case 0 (steps_in l.fn.case) l.fn.machine last 0 total
