-- Intervals that are answered with 0 are whole; otherwise there is room for the report. Assumes nothing.
use Rattle.std.proofs.Common.{ℕ, List, ◌≡◌, ◌≤◌, sym, ap, ◌∙◌, arith, length}
use mathlib.Core.Logic.{◌≢◌}
use Rattle.model.specs.declared.Answer.{Answer}
use Rattle.model.specs.Writings.{write_gave}
use Rattle.model.specs.Reports.{report_text, report_of}
use Rattle.model.proofs.Given.{gave_answer, gave_out}
use Rattle.intervals.specs.Intervals.{write_intervals_of}
use Rattle.text.proofs.Wholes.{Whole, whole}
use Rattle.spans.specs.Prints.{printed_text}
use Rattle.spans.proofs.Printed.{written, reported}
use Rattle.spans.proofs.prints.render.Goals as goal

-- what `write_intervals` answers and leaves, where the answer is 0
intervals : {r : Answer} {new : List ℕ} (text out : List ℕ) → write_gave r new ≡ write_intervals_of text out → r.code ≡ 0
    → Whole (printed_text text) new r.time
intervals text out gave done =
    let answer = gave_answer gave in
    rw (answer, gave_out gave) (written text out (sym (ap (λ (a : Answer). a.code) answer) ∙ done))

-- what `report` answers and leaves after another answer of `write_intervals`
reports : {w r : Answer} {mid new : List ℕ} (text out : List ℕ) → write_gave w mid ≡ write_intervals_of text out → w.code ≢ 0
    → 65536 ≤ length out → write_gave r new ≡ report_of text mid → r.code ≡ 0 → Whole (printed_text text) new r.time
reports {mid = mid} text out wrote other wide gave done =
    let answer = gave_answer gave in
    rw (reported text out wide (rw (gave_answer wrote) at other))
    (rw (answer, gave_out gave) (whole (report_text text) mid (sym (ap (λ (a : Answer). a.code) answer) ∙ done)))

pub shared_ref_as_front-result : goal.shared_ref_as_front-result
shared_ref_as_front-result c =
    let e = c.write_intervals-written in
    omega (arith, (intervals c.args.text.now c.args.out.now e.ensures c.if-written-eq0.true).within, e.auto.out, c.told-out)

pub returns-then-written-eq0 : goal.returns-then-written-eq0
returns-then-written-eq0 c =
    (intervals c.args.text.now c.args.out.now c.write_intervals-written.ensures c.if-written-eq0.true).bytes

pub shared_ref_as_front-result-2 : goal.shared_ref_as_front-result-2
shared_ref_as_front-result-2 c =
    let w = c.write_intervals-written in
    let e = c.report-reported in
    let wide : 687734 ≤ length w.new.out = omega (arith, c.told-out, w.auto.out) in
    let made =
    reports c.args.text.now c.args.out.now w.ensures c.if-written-eq0.false (omega (arith, c.told-out)) e.ensures.report
    (e.ensures.room wide) in
    omega (arith, made.within, e.auto.out, w.auto.out, c.told-out)

pub returns : goal.returns
returns c =
    let w = c.write_intervals-written in
    let e = c.report-reported in
    let wide : 687734 ≤ length w.new.out = omega (arith, c.told-out, w.auto.out) in
    (reports c.args.text.now c.args.out.now w.ensures c.if-written-eq0.false (omega (arith, c.told-out)) e.ensures.report
    (e.ensures.room wide)).bytes
