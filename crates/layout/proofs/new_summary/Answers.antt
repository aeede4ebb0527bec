-- `layout::new_summary` meets its contract: the first numbers are written anew. Assumes nothing.
use Rattle.layout.proofs.Starting.{summary_short, summary_cleared}
use Rattle.layout.proofs.new_summary.Goals as goal

pub returns-in_default : goal.returns-in_default
returns-in_default c = summary_short c.args.summary.now c.in_default.ensures.cases c.from.ensures

pub returns : goal.returns
returns c = summary_cleared c.args.summary.now c.in-Some.ensures.cases.enough c.accepted.ensures c.clear.ensures
