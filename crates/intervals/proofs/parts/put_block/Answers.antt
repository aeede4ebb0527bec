-- What the check of `intervals::parts::put_block` does not find alone. Assumes nothing.
use Rattle.std.proofs.Common.{ℕ, ◌≡◌, ◌+◌, ◌<◌, List, drop, get_or, subst, arith}
use Rattle.model.specs.declared.Answer.{Answer}
use Rattle.model.specs.Answers.{answer_of}
use Rattle.model.specs.Tallies.{attempted}
use Rattle.model.specs.Texts.{Event}
use Rattle.model.specs.Readings.{room}
use Rattle.model.specs.Writings.{events_of}
use Rattle.model.proofs.Lists.{drop_end}
use Rattle.model.proofs.Steps.{from}
use Rattle.text.specs.Puts.{Put}
use Rattle.text.proofs.Putting.{left_next, left_done}
use Rattle.execution.specs.Steps.{lists_of}
use Rattle.execution.specs.Blocks.{attempts_by}
use Rattle.execution.proofs.Lent.{room_of}
use Rattle.execution.proofs.Attempts.{no_codes, attempts_next}
use Rattle.intervals.specs.Parts.{part_text, parts_text, open_with, open_after}
use Rattle.intervals.proofs.parts.put_block.Goals as goal

abbrev no_answer : Answer
no_answer = answer_of 0 0 0

pub loop-i-preserved : goal.loop-i-preserved
unfolding parts_text open_with open_after
loop-i-preserved c =
    let a = c.args in
    let v = c.loop-i in
    let l = lists_of a.steps.now in
    let part = c.put_part-size in
    let code : ℕ = (get_or a.answers.now v.i no_answer).code in
    let inside : v.i < room l = omega (arith, room_of a.steps.now) in
    let next = attempts_next l a.answers.now v.i no_answer inside c.loop-i-test.true in
    let left : List ℕ = parts_text (attempts_by (from (v.i + 1) l) (drop (v.i + 1) a.answers.now)) in
    let put = subst (λ (e : Event). Put v.out part.new.out (a.at + v.size) (part_text (attempted e code)) part.result) c.at-event.ensures
    part.ensures.put in
    let begun = subst (λ (e : Event). c.open_with-begun.result ≡ open_with v.begun (attempted e code)) c.at-event.ensures c.open_with-begun.ensures in
    let moved : a.at + v.size + part.result ≡ a.at + (v.size + part.result) = omega arith in (
      omega (arith, part.ensures.upper_bound),
      rw moved at (left_next {y = left} (rw next at v.invariant.1) put),
      rw begun (rw next at v.invariant.2),
    )

pub returns-clause-put : goal.returns-clause-put
unfolding parts_text
returns-clause-put c =
    let v = c.loop-i in
    let none = drop_end c.args.answers.now v.i c.loop-i-test.false v.auto.i-end in
    left_done (rw (none, no_codes (events_of (from v.i (lists_of c.args.steps.now)))) at v.invariant.1) (omega arith)

pub returns-clause-opened_value : goal.returns-clause-opened_value
unfolding open_after
returns-clause-opened_value c =
    let v = c.loop-i in
    let none = drop_end c.args.answers.now v.i c.loop-i-test.false v.auto.i-end in
    rw (none, no_codes (events_of (from v.i (lists_of c.args.steps.now)))) at v.invariant.2
