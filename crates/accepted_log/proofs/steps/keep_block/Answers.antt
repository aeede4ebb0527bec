-- What the check of `steps::keep_block` does not find alone. Assumes nothing.
use Rattle.std.proofs.Common.{ℕ, ◌≡◌, ◌+◌, ◌<◌, min, [], ◌∷◌, length, get_or, drop, subst, arith}
use lib.ListN.{length-drop}
use Rattle.model.specs.declared.Answer.{Answer}
use Rattle.model.specs.Answers.{answer_of}
use Rattle.model.specs.Tallies.{attempted}
use Rattle.model.specs.Texts.{Event}
use Rattle.model.specs.Writings.{events_of, event_in}
use Rattle.model.proofs.Lists.{drop_end}
use Rattle.execution.specs.Steps.{lists_in, lists_after}
use Rattle.execution.proofs.Attempts.{no_codes}
use Rattle.accepted_log.specs.AcceptedLogs.{accepted_log}
use Rattle.accepted_log.specs.Keeping.{Kept}
use Rattle.accepted_log.proofs.Keeping.{log_next, log_few, left_at, left_next, left_done}
use Rattle.accepted_log.proofs.steps.keep_block.Goals as goal

abbrev no_answer : Answer
no_answer = answer_of 0 0 0

pub loop-i-preserved : goal.loop-i-preserved
loop-i-preserved c =
    let v = c.loop-i in
    let a = c.args in
    let keep = c.keep-size in
    let l = lists_after a.from (lists_in a.steps.now) in
    let code : ℕ = (get_or a.answers.now v.i no_answer).code in
    let s = a.steps.now in
    let size : v.i < min (length (drop a.from s.times)) (min (length (drop a.from s.processes)) (length (drop a.from s.actions))) =
    simp length-drop (omega arith) in
    let next = log_next a.process l a.answers.now v.i no_answer size c.loop-i-test.true in
    let few = log_few a.process (attempted (event_in l v.i) code ∷ []) in
    let moved : a.from + v.i + 1 ≡ a.from + (v.i + 1) = omega arith in
    let put = subst (λ (e : Event). Kept (accepted_log a.process (attempted e code ∷ [])) v.size keep.result (lists_in v.steps) (lists_in keep.new.steps))
    (left_at a.from v.i v.invariant) keep.ensures in
    rw moved at (left_next 1 (rw next at v.invariant) put few)

pub returns : goal.returns
unfolding accepted_log
returns c =
    let v = c.loop-i in
    let a = c.args in
    let none = drop_end a.answers.now v.i c.loop-i-test.false v.auto.i-end in
    let l = lists_after v.i (lists_after a.from (lists_in a.steps.now)) in
    left_done (rw (none, no_codes (events_of l)) at v.invariant)
