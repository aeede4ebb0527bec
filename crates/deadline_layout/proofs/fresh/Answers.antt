-- `deadline_layout::fresh` meets its contract: 11 and 12 before 16, and the table over the first numbers. Assumes nothing.
use Prim.Native.Nat.{◌<◌}
use native.Mathlib.Omega.{arith}
use Rattle.std.proofs.lemmas.Grind.{common_steps}
use lib.ListN.{length}
use Rattle.deadline_layout.proofs.Starting.{fresh_refused, fresh_short, fresh_saved}
use Rattle.deadline_layout.proofs.fresh.Goals as goal

pub returns-then-outcome-ne0 : goal.returns-then-outcome-ne0
returns-then-outcome-ne0 c = fresh_refused _ c.args.table.now c.fresh-outcome.ensures c.if-outcome-ne0.true

pub returns-in_default : goal.returns-in_default
returns-in_default c =
    let short : length c.args.table.now < 389 = grind (arith, common_steps) in
    fresh_short _ c.args.table.now c.fresh-outcome.ensures c.if-outcome-ne0.false short c.from.ensures

pub returns : goal.returns
returns c =
    fresh_saved _ c.args.table.now c.fresh-outcome.ensures c.if-outcome-ne0.false c.in-Some.ensures.cases.enough c.put_table.ensures
