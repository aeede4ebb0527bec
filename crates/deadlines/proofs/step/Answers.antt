-- What the check of `deadlines::step` does not find alone: where the ways out of the loop meet, `SurveyedWith` holds, and the step of the
-- definitions goes with the answer. Assumes nothing.
use Rattle.std.proofs.Common.{◌≡◌, ℕ, ◌+◌, ◌≤◌, ◌≢◌, get_or, sym, refl, ap, ◌∙◌, arith, rules}
use Rattle.model.specs.Acts.{wait_act, last_act}
use Rattle.model.specs.Actions.{transition_of}
use Rattle.model.specs.declared.Answer.{Answer}
use Rattle.rules.specs.Judging.{judged}
use Rattle.rules.proofs.Rows.{row_is}
use Rattle.rules.proofs.Slots.{slot_in}
use Rattle.model.proofs.Lists.{length_mapped}
use Rattle.model.proofs.Tests.{tests}
use Rattle.deadlines.specs.Deadlines.{idle_with, entry_in, step_with}
use Rattle.deadlines.proofs.Passing.{numbers_fault_with, nothing_passed_with, turn_fault_with, turn_passed_with}
use Rattle.deadlines.proofs.Passing.{size_with, passed_whole_with, idle_passed_with, settled_passed_with, SurveyedWith, faulty, small}
use Rattle.deadlines.proofs.Judging.{GoesWith, goes_with, within, exit_unsound_with, exit_refused_with, exit_waited_with, exit_moved_with}
use Rattle.deadlines.proofs.step.Goals as goal
use Rattle.deadlines.proofs.step.Goals.{After-first_of, else-loop-at-test, then-loop-at-test+else-stage_of-eq-REMAINDER+else-here-n+then-found-ne0}

pub returns-then-not-numbers_stand : goal.returns-then-not-numbers_stand
returns-then-not-numbers_stand c =
    let a = c.args in
    rw c.from.ensures
    (exit_unsound_with a.state a.action a.process a.time
    (numbers_fault_with a.state (sym c.numbers_stand.ensures ∙ c.if-not-numbers_stand.true)))

pub loop-at-init : goal.loop-at-init
loop-at-init c =
    let a = c.args in
    rw c.empty-found.ensures
    (nothing_passed_with a.state a.process (sym c.numbers_stand.ensures ∙ c.if-not-numbers_stand.false) (search (rules, length_mapped)))

pub loop-at-preserved-then-are_zero : goal.loop-at-preserved-then-are_zero
loop-at-preserved-then-are_zero c =
    let v = c.loop-at in
    let a = c.args in
    let zero = simp tests at (sym c.are_zero.ensures ∙ c.if-are_zero.true) in
    let last : v.at ≤ 92 = c.if-at-le92.true in
    let one = idle_passed_with a.state a.process v.at v.found v.invariant (omega arith) idle_with
    (sym c.stage_of.ensures ∙ c.if-stage_of-eq-REMAINDER.true) in
    let e2 : v.at + 1 + 1 ≡ v.at + 2 = omega arith in
    let e3 : v.at + 2 + 1 ≡ v.at + 3 = omega arith in
    let e4 : v.at + 3 + 1 ≡ v.at + 4 = omega arith in
    let two = rw e2 at (idle_passed_with a.state a.process (v.at + 1) v.found one (omega arith) idle_with
    (sym c.stage_of-second.ensures ∙ zero.0.0)) in
    let three = rw e3 at (idle_passed_with a.state a.process (v.at + 2) v.found two (omega arith) idle_with
    (sym c.stage_of-third.ensures ∙ zero.0.1)) in
    rw e4 at (idle_passed_with a.state a.process (v.at + 3) v.found three (omega arith) idle_with
    (sym c.stage_of-fourth.ensures ∙ zero.1))

pub loop-at-preserved-then-stage_of-eq-REMAINDER : goal.loop-at-preserved-then-stage_of-eq-REMAINDER
loop-at-preserved-then-stage_of-eq-REMAINDER c =
    let a = c.args in
    let v = c.loop-at in
    idle_passed_with a.state a.process v.at v.found v.invariant (omega arith) idle_with
    (sym c.stage_of.ensures ∙ c.if-stage_of-eq-REMAINDER.true)

pub loop-at-preserved-then-is_settled_at : goal.loop-at-preserved-then-is_settled_at
loop-at-preserved-then-is_settled_at c =
    let a = c.args in
    let v = c.loop-at in
    settled_passed_with a.state a.process v.at v.found v.invariant (omega (arith, c.loop-at-test.true)) idle_with
    c.if-here-n.true
    (c.is_settled_at.ensures.fits c.if-is_settled_at.true)
    (rw (c.limit_of-limit.ensures, c.due_so_far.ensures)
    at (sym c.is_settled_at.ensures.equals ∙ c.if-is_settled_at.true))

pub loop-at-preserved : goal.loop-at-preserved
loop-at-preserved c =
    let a = c.args in
    let v = c.loop-at in
    turn_passed_with a.state a.process v.at (v.at + 1) v.found v.invariant (omega (arith, c.loop-at-test.true)) refl idle_with
    c.note-found.result
    (rw (c.scene_of-scene.ensures, c.limit_of-limit.ensures) at c.note-found.ensures) c.if-found-ne0.false

-- what the pass told, where its ways out meet
surveyed : (c : After-first_of) → (let a = c.args in SurveyedWith a.state a.process c.loop-at-test.found)
surveyed c =
    let a = c.args in
    let v = c.loop-at in
    elim c.loop-at-test.branch [
      | else-loop-at-test w ↦ rw w.found-is
          (passed_whole_with a.state a.process v.at v.found v.invariant (omega (arith, w.loop-at-test.false)))
      | then-loop-at-test+else-stage_of-eq-REMAINDER+else-here-n+then-found-ne0 w ↦ rw w.found-is
          (faulty (turn_fault_with a.state a.process v.at (v.at + 1) v.found v.invariant (omega (arith, w.loop-at-test.true)) refl
          idle_with w.note-found.result (rw (c.scene_of-scene.ensures, w.limit_of-limit.ensures) at w.note-found.ensures)
          w.if-found-ne0.true) w.if-found-ne0.true)
    ]

-- the transition of a known act is its row
is_row : (c : After-first_of)
    → (let a = c.args in
    a.action ≢ wait_act → a.action ≤ last_act → c.transition_of-transition.result ≡ transition_of a.state.word a.action a.process a.time)
is_row c some known =
    let a = c.args in
    c.transition_of-transition.ensures ∙ row_is a.state.word a.action a.process a.time some known

-- the step of the definitions goes with the answer
answered : (c : After-first_of) (answer : Answer)
    → (let a = c.args in
    answer ≡ judged c.loop-at-test.found c.scene_of-scene.result c.stage_of-2.result c.first_of.result c.transition_of-transition.result a.action a.time
    → GoesWith a.state a.action a.process a.time (step_with a.state a.action a.process a.time) answer)
unfolding entry_in
answered c answer e =
    let a = c.args in
    let v = c.loop-at in
    let slot = c.slot_of-slot in
    rw (e, c.first_of.ensures, c.stage_of-2.ensures, c.scene_of-scene.ensures)
    (goes_with a.state a.action a.process a.time c.loop-at-test.found (get_or a.state.processes slot.result idle_with).location
    c.transition_of-transition.result (surveyed c) (size_with a.state a.process v.at v.found v.invariant)
    (λ from to. ap (λ (i : ℕ). (get_or a.state.processes i idle_with).location) (slot.ensures ∙ slot_in a.process to))
    (is_row c))

pub returns-then-action-ne-WAIT : goal.returns-then-action-ne-WAIT
returns-then-action-ne-WAIT c =
    let slot = c.slot_of-slot in
    let a = c.args in
    let judged = (goal.at.returns-then-action-ne-WAIT c).After-first_of in
    rw (c.entry_with.ensures, c.dated.ensures, c.limit_of-limit-then-action-ne-WAIT.ensures)
    (exit_moved_with a.state a.action a.process a.time slot.result c.transition_of-transition.result
    (step_with a.state a.action a.process a.time) c.judge-answer.result
    (λ to. slot.ensures ∙ slot_in a.process to) (is_row judged)
    (within _ _ _ _ _ _ _ (sym (ap (λ (r : Answer). r.code) c.judge-answer.ensures) ∙ c.if-answer-eq0.true))
    (small a.state (sym c.numbers_stand.ensures ∙ c.if-not-numbers_stand.false))
    (answered judged c.judge-answer.result c.judge-answer.ensures) c.if-answer-eq0.true c.if-action-ne-WAIT.true)

pub returns-else-action-ne-WAIT : goal.returns-else-action-ne-WAIT
returns-else-action-ne-WAIT c =
    let a = c.args in
    let judged = (goal.at.returns-else-action-ne-WAIT c).After-first_of in
    exit_waited_with a.state a.action a.process a.time (step_with a.state a.action a.process a.time) c.judge-answer.result
    (answered judged c.judge-answer.result c.judge-answer.ensures) c.if-answer-eq0.true c.if-action-ne-WAIT.false

pub returns-else-answer-eq0 : goal.returns-else-answer-eq0
returns-else-answer-eq0 c =
    let a = c.args in
    let judged = (goal.at.returns-else-answer-eq0 c).After-first_of in
    exit_refused_with a.state a.action a.process a.time (step_with a.state a.action a.process a.time) c.judge-answer.result
    (answered judged c.judge-answer.result c.judge-answer.ensures) c.if-answer-eq0.false
