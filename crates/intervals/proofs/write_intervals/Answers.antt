-- `intervals::write_intervals` meets its contract: a refusal is handed on, and the steps of a trace give the text of its intervals, which is
-- no longer than the trace. Assumes nothing.
use Rattle.std.proofs.Common.{refl, ap, ◌∙◌}
use Rattle.model.specs.Writings.{events_of}
use Rattle.model.proofs.Given.{write-gave}
use Rattle.execution.proofs.Fresh.{ready_fresh, refusal_fresh}
use Rattle.intervals.specs.Intervals.{write_intervals_of}
use Rattle.intervals.proofs.Traces.{ready_short, ready_written}
use Rattle.intervals.proofs.write_intervals.Goals as goal

pub returns-in-Err : goal.returns-in-Err
unfolding write_intervals_of
returns-in-Err c =
    rw (refusal_fresh _ c.new-lists.ensures c.start.ensures c.in-Err.is) (write-gave c.refused.ensures refl)

pub write_run-requires : goal.write_run-requires
write_run-requires c =
    rw (ap events_of c.first-steps.ensures.steps) (ready_short (ready_fresh _ c.new-lists.ensures c.start.ensures c.in-Ok.is))

pub returns : goal.returns
returns c =
    let r = ready_fresh _ c.new-lists.ensures c.start.ensures c.in-Ok.is in
    rw (ap events_of c.first-steps.ensures.steps) at c.write_run.ensures ∙ ready_written r c.args.out.now
