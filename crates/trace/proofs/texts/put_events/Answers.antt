-- `texts::put_events` meets its contract: step after step is put. Assumes nothing.
use Rattle.std.proofs.Common.{arith}
use Rattle.model.specs.Readings.{lists}
use Rattle.text.proofs.Putting.{left_all, left_next}
use Rattle.trace.proofs.Traces.{text_at, text_end}
use Rattle.trace.proofs.Sizes.{left_nothing, left_long}
use Rattle.trace.proofs.texts.put_events.Goals as goal

pub loop-i-init : goal.loop-i-init
loop-i-init c = (omega arith, left_all)

pub overflow_add-at : goal.overflow_add-at
overflow_add-at c = omega (arith, c.put_event-at.ensures.upper_bound)

pub returns-then-at-gt65536 : goal.returns-then-at-gt65536
returns-then-at-gt65536 c =
    let v = c.loop-i in
    let a = c.args in
    let at = text_at (lists a.times.now a.processes.now a.actions.now) v.i (omega arith) in
    left_long (left_next (rw at at v.invariant.1) c.put_event-at.ensures.put) c.if-at-gt65536.true

pub loop-i-preserved : goal.loop-i-preserved
loop-i-preserved c =
    let v = c.loop-i in
    let a = c.args in
    let at = text_at (lists a.times.now a.processes.now a.actions.now) v.i (omega arith) in
    (omega arith, left_next (rw at at v.invariant.1) c.put_event-at.ensures.put)

pub returns : goal.returns
returns c =
    let v = c.loop-i in
    let a = c.args in
    let end = text_end (lists a.times.now a.processes.now a.actions.now) v.i (omega arith) in
    left_nothing (rw end at v.invariant.1) v.invariant.0
