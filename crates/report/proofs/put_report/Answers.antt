-- `report::put_report` meets its contract: the names line, and then the line of a refusal or those of the steps. Assumes nothing.
use Rattle.std.proofs.Common.{refl, ap, arith}
use Rattle.model.specs.Writings.{events_of}
use Rattle.model.specs.Reports.{report_text}
use Rattle.execution.proofs.Fresh.{ready_fresh, refusal_fresh}
use Rattle.text.proofs.Wholes.{after_names}
use Rattle.report.proofs.put_report.Goals as goal

pub returns-in-Err-clause-put : goal.returns-in-Err-clause-put
unfolding report_text
returns-in-Err-clause-put c =
    rw (refusal_fresh _ c.new-lists.ensures c.start.ensures c.in-Err.is)
    (after_names c.put_text-names.ensures refl (rw c.from.ensures at c.put_line.ensures.put))

pub put_run-requires : goal.put_run-requires
put_run-requires c = omega (arith, (ready_fresh _ c.new-lists.ensures c.start.ensures c.in-Ok.is).low)

pub returns-clause-put : goal.returns-clause-put
unfolding report_text
returns-clause-put c =
    let r = ready_fresh _ c.new-lists.ensures c.start.ensures c.in-Ok.is in
    rw (r.is, ← r.state, ← ap events_of c.first-steps.ensures.steps) (after_names c.put_text-names.ensures refl c.put_run.ensures.put)
