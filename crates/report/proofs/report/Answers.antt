-- `report::report` meets its contract: an output of no bytes measures, and room for any report needs no measuring.
-- Assumes nothing.
use Rattle.std.proofs.Common.{◌≡◌, ◌≤◌, ◌<◌, length, refl, ap, ◌∙◌, arith}
use borrow.Author.Tests.{lt-ltb}
use Rattle.model.proofs.Given.{write-gave}
use Rattle.model.specs.declared.Answer.{Answer}
use Rattle.model.specs.Writings.{fitted}
use Rattle.model.specs.Reports.{report_text}
use Rattle.text.proofs.Wholes.{nothing_put, put_whole}
use Rattle.report.proofs.report.Goals as goal
use Rattle.report.proofs.report.Goals.{then-out-lt-MOST_BYTES+else-out-needed, else-out-lt-MOST_BYTES}

pub returns-then-out-needed : goal.returns-then-out-needed
unfolding fitted
returns-then-out-needed c =
    let measured = c.put_report-needed.ensures.put in
    let short : length c.args.out.now < length (report_text c.args.text.now) =
    omega (arith, rw (nothing_put measured) at c.if-out-needed.true, measured.wide) in
    let less = c.if-out-lt-MOST_BYTES.true in
    rw (lt-ltb _ _ short) record {
      report = write-gave c.from.ensures (rw (nothing_put measured));
      room = λ (h : 687734 ≤ length c.args.out.now). absurd (omega (arith, less));
    }

-- measuring leaves the output as it was, and there is room, since it was measured or there is room for any report
pub returns : goal.returns
returns c =
    let put = c.put_report-size.ensures in
    let same : c.if-out-lt-MOST_BYTES.out ≡ c.args.out.now =
    elim c.if-out-lt-MOST_BYTES.branch [
      | then-out-lt-MOST_BYTES+else-out-needed w ↦ w.out-is ∙ rw (nothing_put w.put_report-needed.ensures.put)
      | else-out-lt-MOST_BYTES w ↦ w.out-is
    ] in
    let room : c.put_report-size.result ≤ length c.args.out.now =
    elim c.if-out-lt-MOST_BYTES.branch [
      | then-out-lt-MOST_BYTES+else-out-needed w ↦
          let measured = w.put_report-needed.ensures.put in
          omega (arith, put.put.wide, measured.wide, rw (nothing_put measured) at w.if-out-needed.false)
      | else-out-lt-MOST_BYTES w ↦ omega (arith, put.upper_bound, w.if-out-lt-MOST_BYTES.false)
    ] in
    record {
      report = write-gave c.accepted.ensures refl ∙ put_whole (rw same at put.put) room;
      room = λ _. ap (λ (a : Answer). a.code) c.accepted.ensures;
    }
