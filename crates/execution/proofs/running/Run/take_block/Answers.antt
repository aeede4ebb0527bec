-- `execution::Run::take_block` meets its contract: the block is the next of the steps that are left. Assumes nothing.
use Rattle.std.proofs.Common.{◌≡◌, ℕ, ◌≤◌, List, map, ap, ◌∙◌, arith}
use Rattle.model.specs.Types.{State}
use Rattle.model.specs.Answers.{answer_numbers}
use Rattle.model.specs.Readings.{Lists, room}
use Rattle.model.specs.Writings.{events_of}
use Rattle.model.specs.Executions.{Executed, executed_of}
use Rattle.execution.specs.Steps.{lists_of}
use Rattle.execution.proofs.Lent.{room_of, room_after, none_left}
use Rattle.execution.proofs.Blocks.{block_taken, none_taken}
use Rattle.model.proofs.Steps.{steps_from}
use Rattle.execution.proofs.running.Run.take_block.Goals as goal

-- what the steps that are left give is what those after place i of the lists give
ran_after : (s : State) (rows : List (List ℕ)) {l m : Lists} {t : Executed}
    → t ≡ executed_of s (events_of m) rows → m ≡ l → t ≡ executed_of s (events_of l) rows
ran_after s rows e at = e ∙ ap (λ (l : Lists). executed_of s (events_of l) rows) at

pub returns-then-count-eq0 : goal.returns-then-count-eq0
returns-then-count-eq0 c =
    let r = c.args.self.now in
    let l = lists_of c.args.steps.now in
    let left = room_after c.args.steps.now c.after-left.result r.taken c.after-left.ensures in
    let all : room l ≤ r.taken = rw (room_of c.args.steps.now) (omega (arith, left)) in
    let none = ap events_of c.after-left.ensures ∙ steps_from l r.taken ∙ none_left l r.taken all in
    record {
      block = record {
        ended = all;
        counted = omega arith;
        state = none_taken r.state (map answer_numbers r.answers) none c.take_steps-self.ensures;
      };
      ran = ran_after r.state (map answer_numbers r.answers) c.take_steps-self.ensures c.after-left.ensures;
      counted = omega (arith, left);
    }

pub returns-else-count-eq0 : goal.returns-else-count-eq0
returns-else-count-eq0 c =
    let r = c.args.self.now in
    let s = c.take_steps-self in
    let k = c.min-count.result in
    let all = room_of c.args.steps.now in
    let left = room_after c.args.steps.now c.after-left.result r.taken c.after-left.ensures in
    let ran = ran_after r.state (map answer_numbers r.answers) s.ensures c.after-left.ensures in
    record {
      block = record {
        some = omega arith;
        few = omega arith;
        inside = rw all (omega (arith, left));
        counted = omega arith;
        block = block_taken r.state (lists_of c.args.steps.now) r.answers r.taken k (rw all (omega (arith, left))) s.new.answers ran;
      };
      ran = ran;
      counted = omega (arith, left);
    }
