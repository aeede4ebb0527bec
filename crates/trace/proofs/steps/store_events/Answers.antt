-- `steps::store_events` meets its contract: the lists have a place for each step, and the walk ends where the text or its last good line
-- does. Assumes nothing.
use Rattle.std.proofs.Common.{sym, ◌∙◌, arith}
use lib.ListN.{length-drop}
use Rattle.std.proofs.lemmas.Result.{err_from_is_err_and}
use Rattle.model.specs.Readings.{lists}
use Rattle.model.proofs.Lists.{part_is}
use Rattle.trace.proofs.Rows.{some_bytes, no_bytes, walk_fewer, walk_end, walk_fault, walk_some, walk_within}
use Rattle.trace.proofs.Stores.{store_start, store_end, store_fault, store_place, store_step}
use Rattle.trace.proofs.steps.store_events.Goals as goal

pub loop-rest-init : goal.loop-rest-init
loop-rest-init c =
    let a = c.args in
    store_start a.s.now a.first (lists a.times.now a.processes.now a.actions.now) c.requires.s_len_bound

pub overflow_add-first : goal.overflow_add-first
overflow_add-first c = omega (arith, walk_fewer c.loop-rest.invariant.walk)

pub returns-in_err-event-clause-value : goal.returns-in_err-event-clause-value
returns-in_err-event-clause-value c =
    let p = err_from_is_err_and c.from_residual.result c.from_residual.ensures.1 in
    let some = some_bytes c.loop-rest.rest.now c.loop-rest-test.ensures in
    rw (p.1, p.2) (walk_fault c.loop-rest.invariant.walk some c.requires.first_nonzero _ (sym c.event_at.ensures ∙ c.in_err-event.was))

pub returns-in_err-event-clause-actions_value : goal.returns-in_err-event-clause-actions_value
returns-in_err-event-clause-actions_value c =
    let some = some_bytes c.loop-rest.rest.now c.loop-rest-test.ensures in
    store_fault c.loop-rest.invariant some _ (sym c.event_at.ensures ∙ c.in_err-event.was)

pub bounds-times-count : goal.bounds-times-count
bounds-times-count c =
    let some = some_bytes c.loop-rest.rest.now c.loop-rest-test.ensures in
    omega (arith, store_place c.loop-rest.invariant some _ (sym c.event_at.ensures ∙ c.in_ok-event.was))

pub bounds-processes-count : goal.bounds-processes-count
bounds-processes-count c =
    let some = some_bytes c.loop-rest.rest.now c.loop-rest-test.ensures in
    omega (arith, store_place c.loop-rest.invariant some _ (sym c.event_at.ensures ∙ c.in_ok-event.was))

pub bounds-actions-count : goal.bounds-actions-count
bounds-actions-count c =
    let some = some_bytes c.loop-rest.rest.now c.loop-rest-test.ensures in
    omega (arith, store_place c.loop-rest.invariant some _ (sym c.event_at.ensures ∙ c.in_ok-event.was))

pub slice_bounds-rest-count : goal.slice_bounds-rest-count
slice_bounds-rest-count c =
    walk_within c.loop-rest.invariant.walk (some_bytes _ c.loop-rest-test.ensures) _ (sym c.event_at.ensures ∙ c.in_ok-event.was)

pub slice_bounds-rest-start : goal.slice_bounds-rest-start
slice_bounds-rest-start c =
    walk_within c.loop-rest.invariant.walk (some_bytes _ c.loop-rest-test.ensures) _ (sym c.event_at.ensures ∙ c.in_ok-event.was)

pub loop-rest-smaller : goal.loop-rest-smaller
loop-rest-smaller c =
    let some = some_bytes c.loop-rest.rest.now c.loop-rest-test.ensures in
    let read = sym c.event_at.ensures ∙ c.in_ok-event.was in
    let w = c.loop-rest.invariant.walk in
    rw part_is (omega (arith, length-drop c.in_ok-event.field-0.size c.loop-rest.rest.now, walk_some w some _ read, walk_within w some _ read))

pub loop-rest-preserved : goal.loop-rest-preserved
loop-rest-preserved c =
    let some = some_bytes c.loop-rest.rest.now c.loop-rest-test.ensures in
    rw part_is (store_step c.loop-rest.invariant some _ (sym c.event_at.ensures ∙ c.in_ok-event.was))

pub returns-clause-value : goal.returns-clause-value
returns-clause-value c = walk_end c.loop-rest.invariant.walk (no_bytes c.loop-rest.rest.now c.loop-rest-test.ensures)

pub returns-clause-actions_value : goal.returns-clause-actions_value
returns-clause-actions_value c = store_end c.loop-rest.invariant (no_bytes c.loop-rest.rest.now c.loop-rest-test.ensures)
