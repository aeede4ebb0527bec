-- `intervals::parts::put_steps` meets its contract: the steps are taken by blocks, and what a block puts comes before what those put that are
-- left. Assumes nothing.
use Rattle.std.proofs.Common.{◌≡◌, ◌+◌, ◌*◌, ◌≤◌, List, take, ap, arith}
use lib.ListN.{length-take}
use Rattle.model.specs.declared.Answer.{Answer}
use Rattle.model.specs.Readings.{Lists}
use Rattle.model.specs.Executions.{attempts_of}
use Rattle.text.proofs.Putting.{left_next, left_done}
use Rattle.execution.specs.Steps.{lists_of}
use Rattle.execution.specs.Blocks.{attempts_by}
use Rattle.execution.proofs.Lent.{room_of, none_left}
use Rattle.execution.proofs.Attempts.{took_next}
use Rattle.intervals.specs.Parts.{parts_text, open_after}
use Rattle.intervals.proofs.Passes.{parts_append, open_append}
use Rattle.intervals.proofs.parts.put_steps.Goals as goal

pub loop-count-preserved : goal.loop-count-preserved
loop-count-preserved c =
    let v = c.loop-count in
    let put = c.put_block-block in
    let took = c.in-Some.ensures.block in
    let all = room_of c.args.steps.now in
    let turn = took_next took in
    let answers : List Answer = take c.in-Some.count c.take_block.new.self.answers in
    let here = ap (λ (l : Lists). attempts_by l answers) c.after-next.ensures in
    let moved : 15 + v.size + put.result.size ≡ 15 + (v.size + put.result.size) = omega arith in
    let wide : put.result.size ≤ 42 * c.in-Some.count = omega (arith, length-take c.in-Some.count c.take_block.new.self.answers, put.ensures.size_bound) in (
      omega (arith, took.inside, took.counted, all),
      omega (arith, took.counted),
      rw moved at (left_next (rw (turn, parts_append) at v.invariant.2) (rw here at put.ensures.put)),
      rw (put.ensures.opened_value, here) (rw (turn, open_append) at v.invariant.3),
    )

pub returns-clause-put : goal.returns-clause-put
unfolding attempts_of parts_text
returns-clause-put c =
    let v = c.loop-count in
    left_done
    (rw (none_left (lists_of c.args.steps.now) v.run.taken c.in_default.ensures.block.ended, c.new-run.ensures.state) at v.invariant.2)
    (omega arith)

pub returns-clause-opened_value : goal.returns-clause-opened_value
unfolding attempts_of open_after
returns-clause-opened_value c =
    let v = c.loop-count in
    rw (none_left (lists_of c.args.steps.now) v.run.taken c.in_default.ensures.block.ended, c.new-run.ensures.state) at v.invariant.3
