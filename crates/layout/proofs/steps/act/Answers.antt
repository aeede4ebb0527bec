-- `layout::steps::act` meets its contract: the own entry, the row and the answer are those of the definition, and an accepted action is
-- written. Assumes nothing.
use Rattle.layout.proofs.Acts.{acted_accepted, acted_refused}
use Rattle.layout.proofs.steps.act.Goals as goal

pub returns-then-answer-eq0 : goal.returns-then-answer-eq0
returns-then-answer-eq0 c =
    let a = c.args in
    acted_accepted a.table.now a.found a.action a.process a.time c.slot_of-slot.result c.slot_of-slot.ensures
    c.location_in-own.ensures c.transition_of-transition.ensures
    (rw (c.check_from.ensures, c.stage_of.ensures, c.scene_of.ensures) at c.judge-answer.ensures) c.if-answer-eq0.true c.put_action.ensures

pub returns-else-answer-eq0 : goal.returns-else-answer-eq0
returns-else-answer-eq0 c =
    let a = c.args in
    acted_refused a.table.now a.found a.action a.process a.time c.slot_of-slot.result c.slot_of-slot.ensures
    c.location_in-own.ensures c.transition_of-transition.ensures
    (rw (c.check_from.ensures, c.stage_of.ensures, c.scene_of.ensures) at c.judge-answer.ensures) c.if-answer-eq0.false
