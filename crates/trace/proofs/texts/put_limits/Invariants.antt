-- The loop of `texts::put_limits`: the lines from that of process i + 1 on are left to put. Assumes nothing.
use Rattle.std.proofs.Common.{◌+◌, ◌*◌, ◌≤◌, drop}
use Rattle.model.specs.Texts.{limits_text}
use Rattle.text.proofs.Putting.{Left}
use Rattle.trace.proofs.texts.put_limits.Given as goal

abbrev pub invariant-loop-i : goal.invariant-loop-i
invariant-loop-i l =
    (l.size ≤ 42 * l.i) × Left l.initial.out l.at (limits_text 1 l.a) l.out (l.at + l.size) (limits_text (l.i + 1) (drop l.i l.a))
