-- `report::put_run` meets its contract: the steps are taken by blocks, and the lines of a block come before those of the steps that are left.
-- Assumes nothing.
use Rattle.std.proofs.Common.{◌≡◌, ◌+◌, ◌*◌, ◌≤◌, arith}
use lib.ListN.{length-take}
use Rattle.execution.specs.Steps.{lists_of}
use Rattle.execution.proofs.Lent.{room_of, none_left}
use Rattle.model.specs.Reports.{rows_text}
use Rattle.model.specs.Folds.{results_by}
use Rattle.text.proofs.Putting.{left_next, left_done}
use Rattle.report.proofs.Runs.{run_next}
use Rattle.report.proofs.put_run.Goals as goal

pub loop-count-preserved : goal.loop-count-preserved
loop-count-preserved c =
    let v = c.loop-count in
    let put = c.put_rows-size in
    let took = c.in-Some.ensures.block in
    let all = room_of c.args.steps.now in
    let moved : 26 + v.size + put.result ≡ 26 + (v.size + put.result) = omega arith in
    let wide : put.result ≤ 84 * c.in-Some.count = omega (arith, length-take c.in-Some.count c.take_block.new.self.answers, put.ensures.upper_bound) in (
      omega (arith, took.inside, took.counted, all),
      omega (arith, took.counted),
      rw moved at (left_next (rw (run_next c.args.line took) at v.invariant.2) put.ensures.put),
    )

pub returns-clause-put : goal.returns-clause-put
unfolding rows_text results_by
returns-clause-put c =
    let v = c.loop-count in
    left_done (rw (none_left (lists_of c.args.steps.now) v.run.taken c.in_default.ensures.block.ended, c.new-run.ensures.state) at v.invariant.2) (omega arith)
