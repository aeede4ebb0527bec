-- What the check of `put_rows` does not find alone. Assumes nothing.
use Rattle.std.proofs.Common.{◌≡◌, ◌+◌, arith}
use Rattle.model.specs.Answers.{answer_of}
use Rattle.model.specs.Reports.{rows_text}
use Rattle.model.proofs.Lists.{drop_end}
use Rattle.text.proofs.Putting.{left_next, left_done}
use Rattle.report.proofs.Runs.{rows_next}
use Rattle.report.proofs.put_rows.Goals as goal

pub loop-i-preserved : goal.loop-i-preserved
loop-i-preserved c =
    let v = c.loop-i in
    let line = c.put_line-size in
    let next = rows_next c.args.line c.args.answers.now v.i (answer_of 0 0 0) c.loop-i-test.true in
    let moved : c.args.at + v.size + line.result ≡ c.args.at + (v.size + line.result) = omega arith in
    (omega (arith, line.ensures.upper_bound), rw moved at (left_next (rw next at v.invariant.1) line.ensures.put))

pub returns-clause-put : goal.returns-clause-put
unfolding rows_text
returns-clause-put c =
    let v = c.loop-i in
    let none = drop_end c.args.answers.now v.i c.loop-i-test.false v.auto.i-end in
    left_done (rw none at v.invariant.1) (omega arith)
