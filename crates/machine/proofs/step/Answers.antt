-- What the check of `machine::step` does not find alone: where the ways out of the loop meet, `Surveyed` holds, and the model's step goes with
-- the answer. Assumes nothing.
use Rattle.std.proofs.Common.{◌≡◌, ℕ, ◌+◌, ◌-◌, ◌≤◌, ◌≢◌, get_or, sym, ap, ◌∙◌, arith, rules}
use Rattle.model.specs.declared.Answer.{Answer}
use Rattle.model.specs.States.{idle, entry_of}
use Rattle.model.specs.Acts.{wait_act, last_act}
use Rattle.model.specs.Actions.{transition_of}
use Rattle.model.specs.Answers.{step_of}
use Rattle.rules.specs.Judging.{judged}
use Rattle.rules.proofs.Rows.{row_is}
use Rattle.rules.proofs.Slots.{slot_in}
use Rattle.model.proofs.Lists.{length_mapped}
use Rattle.rules.proofs.Pass.{numbers_fault, nothing_passed, turn_fault, turn_passed, passed_whole}
use Rattle.rules.proofs.Pass.{Surveyed, faulty, whole}
use Rattle.rules.proofs.Judged.{Goes, goes, exit_unsound, exit_refused, exit_waited, exit_moved}
use Rattle.machine.proofs.step.Goals as goal
use Rattle.machine.proofs.step.Goals.{After-check_from, else-loop-at-test, then-loop-at-test+then-found-ne0}

pub returns-then-not-numbers_stand : goal.returns-then-not-numbers_stand
returns-then-not-numbers_stand c =
    let a = c.args in
    rw c.from.ensures
    (exit_unsound a.state a.action a.process a.time
    (numbers_fault a.state (sym c.numbers_stand.ensures ∙ c.if-not-numbers_stand.true)))

pub loop-at-init : goal.loop-at-init
loop-at-init c =
    let a = c.args in
    rw c.empty-found.ensures
    (nothing_passed a.state a.process (sym c.numbers_stand.ensures ∙ c.if-not-numbers_stand.false) (search (rules, length_mapped)))

pub loop-at-preserved : goal.loop-at-preserved
loop-at-preserved c =
    let a = c.args in
    let v = c.loop-at in
    let e : v.at - 1 + 1 ≡ v.at + 1 - 1 = omega arith in
    rw e at (turn_passed a.state a.process (v.at - 1) v.at v.found v.invariant (omega arith) (omega arith) idle c.note-found.result
    (rw (c.scene_of-scene.ensures, c.limit_of-limit.ensures) at c.note-found.ensures) c.if-found-ne0.false)

-- what the pass told, where its ways out meet
surveyed : (c : After-check_from) → (let a = c.args in Surveyed a.state a.process c.loop-at-test.found)
surveyed c =
    let a = c.args in
    let v = c.loop-at in
    elim c.loop-at-test.branch [
      | else-loop-at-test w ↦ rw w.found-is
          (whole (passed_whole a.state a.process (v.at - 1) v.found v.invariant (omega (arith, w.loop-at-test.false))))
      | then-loop-at-test+then-found-ne0 w ↦ rw w.found-is
          (faulty (turn_fault a.state a.process (v.at - 1) v.at v.found v.invariant (omega (arith, w.loop-at-test.true)) (omega arith) idle
          w.note-found.result (rw (c.scene_of-scene.ensures, w.limit_of-limit.ensures) at w.note-found.ensures) w.if-found-ne0.true)
          w.if-found-ne0.true)
    ]

-- the transition of a known act is its row
is_row : (c : After-check_from)
    → (let a = c.args in
    a.action ≢ wait_act → a.action ≤ last_act → c.transition_of-transition.result ≡ transition_of a.state.word a.action a.process a.time)
is_row c some known =
    let a = c.args in
    c.transition_of-transition.ensures ∙ row_is a.state.word a.action a.process a.time some known

-- the model's step goes with the answer
answered : (c : After-check_from) (answer : Answer)
    → (let a = c.args in
    answer ≡ judged c.loop-at-test.found c.scene_of-scene.result c.stage_of.result c.check_from.result c.transition_of-transition.result a.action a.time
    → Goes a.state a.action a.process a.time (step_of a.state a.action a.process a.time) answer)
unfolding entry_of
answered c answer e =
    let a = c.args in
    let slot = c.slot_of-slot in
    rw (e, c.check_from.ensures, c.stage_of.ensures, c.scene_of-scene.ensures)
    (goes a.state a.action a.process a.time c.loop-at-test.found (get_or a.state.processes slot.result idle).location
    c.transition_of-transition.result (surveyed c) (search (rules, length_mapped))
    (λ from to. ap (λ (i : ℕ). (get_or a.state.processes i idle).location) (slot.ensures ∙ slot_in a.process to))
    (is_row c))

pub returns-then-action-ne-WAIT : goal.returns-then-action-ne-WAIT
returns-then-action-ne-WAIT c =
    let a = c.args in
    let slot = c.slot_of-slot in
    let judged = (goal.at.returns-then-action-ne-WAIT c).After-check_from in
    rw c.entry_at.ensures
    (exit_moved a.state a.action a.process a.time slot.result c.transition_of-transition.result
    (step_of a.state a.action a.process a.time) c.judge-answer.result (λ to. slot.ensures ∙ slot_in a.process to) (is_row judged)
    (answered judged c.judge-answer.result c.judge-answer.ensures) c.if-answer-eq0.true c.if-action-ne-WAIT.true)

pub returns-else-action-ne-WAIT : goal.returns-else-action-ne-WAIT
returns-else-action-ne-WAIT c =
    let a = c.args in
    let judged = (goal.at.returns-else-action-ne-WAIT c).After-check_from in
    exit_waited a.state a.action a.process a.time (step_of a.state a.action a.process a.time) c.judge-answer.result
    (answered judged c.judge-answer.result c.judge-answer.ensures) c.if-answer-eq0.true c.if-action-ne-WAIT.false

pub returns-else-answer-eq0 : goal.returns-else-answer-eq0
returns-else-answer-eq0 c =
    let a = c.args in
    let judged = (goal.at.returns-else-answer-eq0 c).After-check_from in
    exit_refused a.state a.action a.process a.time (step_of a.state a.action a.process a.time) c.judge-answer.result
    (answered judged c.judge-answer.result c.judge-answer.ensures) c.if-answer-eq0.false
