-- `accepted_log::steps::keep_block` meets its contract: the loop's invariant says what is left to put, and that what is yet to be looked at is
-- as it was. Assumes nothing.
use Rattle.std.proofs.Common.{◌+◌, drop}
use Rattle.execution.specs.Steps.{lists_in, lists_after}
use Rattle.execution.specs.Blocks.{attempts_by}
use Rattle.accepted_log.specs.AcceptedLogs.{accepted_log}
use Rattle.accepted_log.proofs.Keeping.{Left}
use Rattle.accepted_log.proofs.steps.keep_block.Given as goal

abbrev pub invariant-loop-i : goal.invariant-loop-i
invariant-loop-i l =
    let given = lists_after l.from (lists_in l.initial.steps) in
    let all = accepted_log l.process (attempts_by given l.answers) in
    let rest = accepted_log l.process (attempts_by (lists_after l.i given) (drop l.i l.answers)) in
    Left all l.initial.size rest l.size (l.from + l.i) (lists_in l.initial.steps) (lists_in l.steps)
