-- `accepted_log::steps::keep_steps` meets its contract: the steps are taken by blocks, and the log of a block comes before that of the steps that
-- are left. Assumes nothing.
use Rattle.std.proofs.Common.{◌+◌, ◌-◌, ◌≤◌, List, length, take, arith}
use lib.ListN.{length-take, drop_of_length-le}
use Rattle.model.specs.declared.Answer.{Answer}
use Rattle.model.specs.Writings.{events_of}
use Rattle.model.specs.Executions.{attempts_of}
use Rattle.model.proofs.Steps.{from}
use Rattle.execution.specs.Steps.{lists_in}
use Rattle.execution.specs.Blocks.{attempts_by}
use Rattle.execution.proofs.Lent.{room_of}
use Rattle.accepted_log.specs.AcceptedLogs.{accepted_log}
use Rattle.accepted_log.proofs.Keeping.{log_append, answers_few, left_from, left_next, left_done}
use Rattle.accepted_log.proofs.Taking.{block_kept}
use Rattle.accepted_log.proofs.steps.keep_steps.Goals as goal

pub loop-block-preserved : goal.loop-block-preserved
loop-block-preserved c =
    let a = c.args in
    let v = c.loop-block in
    let k = c.in-Some.block in
    let left = v.invariant.1 in
    let l = lists_in v.steps in
    let m = lists_in a.steps.now in
    let took = rw c.first.ensures.steps at c.in-Some.ensures.block in
    let inside : v.run.taken + k ≤ a.count = omega (
      arith,
      took.inside,
      length-take a.count v.steps.times,
      length-take a.count v.steps.processes,
      length-take a.count v.steps.actions,
    ) in
    let turn = block_kept l m took (left_from left) inside in
    let answers : List Answer = take k c.take_block.new.self.answers in
    let block = from (c.take_block.new.self.taken - k) l in
    let log = accepted_log a.process (attempts_by block answers) in
    let short : length log ≤ k = omega (arith, answers_few a.process block answers, length-take k c.take_block.new.self.answers) in
    let next = left_next {xs = log} k (rw (turn, log_append) at left) c.keep_block-kept.ensures short in
    (omega (arith, took.counted, inside), rw (← took.counted) at next)

pub returns-clause-kept : goal.returns-clause-kept
unfolding attempts_of accepted_log
returns-clause-kept c =
    let a = c.args in
    let v = c.loop-block in
    let events = take a.count (events_of (lists_in a.steps.now)) in
    let all : a.count ≤ v.run.taken = omega (
      arith,
      c.in_default.ensures.block.ended,
      room_of c.first.result,
      c.first.ensures.len,
    ) in
    let short : length events ≤ v.run.taken = simp length-take (omega arith) in
    left_done (rw (drop_of_length-le events short, c.new-run.ensures.state) at v.invariant.1)
