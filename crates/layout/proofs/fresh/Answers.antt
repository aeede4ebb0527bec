-- `layout::fresh` meets its contract: 11 and 12 before 16, and the table over the first numbers. Assumes nothing.
use Rattle.layout.proofs.Starting.{fresh_refused, fresh_short, fresh_saved}
use Rattle.layout.proofs.fresh.Goals as goal

pub returns-then-answer-ne0 : goal.returns-then-answer-ne0
returns-then-answer-ne0 c =
    fresh_refused _ c.args.table.now c.fresh-outcome.ensures c.if-answer-ne0.true

pub returns-in_default : goal.returns-in_default
returns-in_default c =
    fresh_short _ c.args.table.now c.fresh-outcome.ensures c.if-answer-ne0.false c.in_default.ensures.cases c.from.ensures

pub returns : goal.returns
returns c =
    fresh_saved _ c.args.table.now c.fresh-outcome.ensures c.if-answer-ne0.false c.in-Some.ensures.cases.enough c.put_table.ensures
