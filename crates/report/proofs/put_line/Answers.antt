-- `report::put_line` meets its contract. Assumes nothing.
use native.Mathlib.Omega.{arith}
use Rattle.model.specs.Answers.{answer_numbers}
use Rattle.text.proofs.Putting.{all_numbers}
use Rattle.report.proofs.put_line.Goals as goal

pub returns : goal.returns
returns c =
    let put = rw c.from.ensures at c.put_numbers.ensures in
    record { put = rw (all_numbers (answer_numbers c.args.answer) (omega arith)) at put.put; upper_bound = omega (arith, put.upper_bound) }
