-- `layout::step` meets its contract: the first numbers of the list are judged and written. Assumes nothing.
use Rattle.layout.proofs.Lending.{short_unsound, step_unsound, step_front}
use Rattle.layout.proofs.step.Goals as goal

pub returns-in_default : goal.returns-in_default
returns-in_default c =
    let a = c.args in
    step_unsound a.table.now a.action a.process a.time (short_unsound _ c.in_default.ensures.cases) c.from.ensures

pub returns : goal.returns
returns c =
    let a = c.args in
    let first = c.in-Some.ensures.cases in
    step_front a.table.now first.enough a.action a.process a.time
    (rw first.same at (rw c.survey_table-found.ensures at c.act.ensures))
