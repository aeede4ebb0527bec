-- With room for any report the answer is 0, and the report is whole. Assumes nothing.
use Rattle.std.proofs.Common.{ℕ, List, ◌≡◌, sym, ap, ◌∙◌, arith}
use Rattle.model.specs.declared.Answer.{Answer}
use Rattle.model.specs.Writings.{write_gave}
use Rattle.model.specs.Reports.{report_text, report_of}
use Rattle.model.proofs.Given.{gave_answer, gave_out}
use Rattle.text.proofs.Wholes.{Whole, whole}
use Rattle.replay.proofs.reports.render.Goals as goal

-- what `report` answers and leaves
rendered : {r : Answer} {new : List ℕ} (text out : List ℕ) → write_gave r new ≡ report_of text out → r.code ≡ 0
    → Whole (report_text text) new r.time
rendered text out gave done =
    let answer = gave_answer gave in
    rw (answer, gave_out gave) (whole (report_text text) out (sym (ap (λ (a : Answer). a.code) answer) ∙ done))

pub shared_ref_as_front-result : goal.shared_ref_as_front-result
shared_ref_as_front-result c =
    let e = c.report-answer.ensures in
    let done = e.room (omega (arith, c.told-out)) in
    omega (arith, (rendered c.args.text.now c.args.out.now e.report done).within, c.report-answer.auto.out, c.told-out)

pub returns : goal.returns
returns c =
    let e = c.report-answer.ensures in
    (rendered c.args.text.now c.args.out.now e.report (e.room (omega (arith, c.told-out)))).bytes
