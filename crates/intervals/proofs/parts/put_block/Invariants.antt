-- The loop of `intervals::parts::put_block`: what is left to put, and what is left of the answers, which tells whether a line is begun at the
-- end. Assumes nothing.
use Rattle.std.proofs.Common.{◌≡◌, ◌+◌, ◌*◌, ◌≤◌, drop}
use Rattle.model.proofs.Steps.{from}
use Rattle.text.proofs.Putting.{Left}
use Rattle.execution.specs.Steps.{lists_of}
use Rattle.execution.specs.Blocks.{attempts_by}
use Rattle.intervals.specs.Parts.{parts_text, open_after}
use Rattle.intervals.proofs.parts.put_block.Given as goal

abbrev pub invariant-loop-i : goal.invariant-loop-i
invariant-loop-i l =
    let all = attempts_by (lists_of l.steps) l.answers in
    let rest = attempts_by (from l.i (lists_of l.steps)) (drop l.i l.answers) in
    (l.size ≤ 42 * l.i)
    × Left l.initial.out l.at (parts_text all) l.out (l.at + l.size) (parts_text rest)
    × (open_after l.begun rest ≡ open_after l.initial.begun all)
