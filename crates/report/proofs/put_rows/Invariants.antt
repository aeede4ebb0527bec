-- `report::put_rows` meets its contract. The loop's invariant says what is left to put. Assumes nothing.
use Rattle.std.proofs.Common.{◌+◌, ◌*◌, ◌≤◌, map, drop}
use Rattle.model.specs.Answers.{answer_numbers}
use Rattle.model.specs.Reports.{rows_text}
use Rattle.text.proofs.Putting.{Left}
use Rattle.report.proofs.put_rows.Given as goal

abbrev pub invariant-loop-i : goal.invariant-loop-i
invariant-loop-i l =
    (l.size ≤ 84 * l.i)
    × Left l.initial.out l.at (rows_text l.line (map answer_numbers l.answers)) l.out (l.at + l.size)
    (rows_text (l.line + l.i) (map answer_numbers (drop l.i l.answers)))
