-- `steps::count_events` meets its contract: each line starts where the last one ended. Assumes nothing.
use Rattle.std.proofs.Common.{sym, ◌∙◌, arith}
use lib.ListN.{length-drop}
use Rattle.std.proofs.lemmas.Result.{err_from_is_err_and}
use Rattle.model.proofs.Lists.{part_is}
use Rattle.trace.proofs.Rows.{some_bytes, no_bytes, walk_start, walk_end, walk_fewer, walk_fault, walk_some, walk_within, walk_step}
use Rattle.trace.proofs.steps.count_events.Goals as goal

pub loop-rest-init : goal.loop-rest-init
loop-rest-init c = walk_start c.args.s.now c.args.first

pub overflow_add-first : goal.overflow_add-first
overflow_add-first c = omega (arith, walk_fewer c.loop-rest.invariant)

pub returns-in_err-size : goal.returns-in_err-size
returns-in_err-size c =
    let p = err_from_is_err_and c.from_residual.result c.from_residual.ensures.1 in
    let some = some_bytes c.loop-rest.rest.now c.loop-rest-test.ensures in
    rw (p.1, p.2) (walk_fault c.loop-rest.invariant some c.requires.first_nonzero _ (sym c.event_at.ensures ∙ c.in_err-size.was))

pub slice_bounds-rest-count : goal.slice_bounds-rest-count
slice_bounds-rest-count c =
    walk_within c.loop-rest.invariant (some_bytes _ c.loop-rest-test.ensures) _ (sym c.event_at.ensures ∙ c.in_ok-size.was)

pub slice_bounds-rest-start : goal.slice_bounds-rest-start
slice_bounds-rest-start c =
    walk_within c.loop-rest.invariant (some_bytes _ c.loop-rest-test.ensures) _ (sym c.event_at.ensures ∙ c.in_ok-size.was)

pub loop-rest-smaller : goal.loop-rest-smaller
loop-rest-smaller c =
    let some = some_bytes c.loop-rest.rest.now c.loop-rest-test.ensures in
    let read = sym c.event_at.ensures ∙ c.in_ok-size.was in
    let w = c.loop-rest.invariant in
    rw part_is (omega (arith, length-drop c.in_ok-size.field-0.size c.loop-rest.rest.now, walk_some w some _ read, walk_within w some _ read))

pub loop-rest-preserved : goal.loop-rest-preserved
loop-rest-preserved c =
    let some = some_bytes c.loop-rest.rest.now c.loop-rest-test.ensures in
    rw part_is (walk_step c.loop-rest.invariant some _ (sym c.event_at.ensures ∙ c.in_ok-size.was))

pub returns : goal.returns
returns c = walk_end c.loop-rest.invariant (no_bytes c.loop-rest.rest.now c.loop-rest-test.ensures)
