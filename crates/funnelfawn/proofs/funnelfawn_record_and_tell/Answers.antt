-- `funnelfawn::funnelfawn_record_and_tell` meets its contract: the recorded step stands, and the board is told where a crit was accepted.
-- Assumes nothing.
use Rattle.funnelfawn.proofs.Telling.{tell_refused, tell_other, tell_entered}
use Rattle.funnelfawn.proofs.funnelfawn_record_and_tell.Goals as goal
use Rattle.funnelfawn.proofs.funnelfawn_record_and_tell.Goals.{then-answer-ne0-via-then-answer-ne0, then-answer-ne0-via-else-answer-ne0+then-action-ne-CRIT}

pub returns-then-answer-ne0 : goal.returns-then-answer-ne0
returns-then-answer-ne0 c =
    let a = c.args in
    elim c.then-answer-ne0.branch [
      | then-answer-ne0-via-then-answer-ne0 w ↦ tell_refused a.table.now a.summary.now a.board.now a.action a.process a.time
          c.record_entry-entered.ensures w.if-answer-ne0.true c.accepted.ensures
      | then-answer-ne0-via-else-answer-ne0+then-action-ne-CRIT w ↦ tell_other a.table.now a.summary.now a.board.now a.action a.process a.time
          c.record_entry-entered.ensures w.if-answer-ne0.false w.if-action-ne-CRIT.true c.accepted.ensures
    ]

pub returns : goal.returns
returns c =
    let a = c.args in
    tell_entered a.table.now a.summary.now a.board.now a.action a.process a.time
    c.record_entry-entered.ensures c.if-answer-ne0.false c.if-action-ne-CRIT.false
    c.add-told.ensures
