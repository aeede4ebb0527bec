-- `deadline_layout::step` meets its contract: the first numbers of the list are judged and written. Assumes nothing.
use Prim.Native.Nat.{◌<◌}
use native.Mathlib.Omega.{arith}
use Rattle.std.proofs.lemmas.Grind.{common_steps}
use lib.ListN.{length}
use Rattle.deadline_layout.proofs.Lending.{short_unsound, step_unsound, step_front}
use Rattle.deadline_layout.proofs.step.Goals as goal

pub returns-in_default : goal.returns-in_default
returns-in_default c =
    let a = c.args in
    let short : length a.table.now < 389 = grind (arith, common_steps) in
    step_unsound a.table.now a.action a.process a.time (short_unsound _ short) c.from.ensures

pub returns : goal.returns
returns c =
    let a = c.args in
    step_front a.table.now c.in-Some.ensures.cases.enough a.action a.process a.time
    (rw (c.survey_table-found.ensures, c.in-Some.ensures.cases.same) at c.act.ensures)
