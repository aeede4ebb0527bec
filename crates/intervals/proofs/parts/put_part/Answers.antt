-- What the check of `intervals::parts::put_part` does not find alone: how wide the fields are, and that a crit puts two. Assumes nothing.
use Rattle.std.proofs.Common.{arith}
use borrow.Author.Tests.{eq-eqb}
use Rattle.model.specs.Texts.{comma, newline}
use Rattle.text.proofs.Putting.{put_both, number_narrow}
use Rattle.intervals.specs.Parts.{part_text}
use Rattle.intervals.proofs.parts.put_part.Goals as goal

pub overflow_add-at : goal.overflow_add-at
overflow_add-at c = omega (arith, number_narrow c.args.event.process comma (omega arith) c.put_number-size.ensures)

pub overflow_add-result : goal.overflow_add-result
overflow_add-result c =
    omega (
      arith,
      number_narrow c.args.event.process comma (omega arith) c.put_number-size.ensures,
      number_narrow c.args.event.time comma (omega arith) c.put_number.ensures,
    )

pub returns-in-5-clause-put : goal.returns-in-5-clause-put
unfolding part_text
returns-in-5-clause-put c =
    simp (eq-eqb _ _ c.if-code-ne0.false, eq-eqb _ _ c.in-5.is) (put_both c.put_number-size.ensures c.put_number.ensures)

pub returns-in-5-clause-upper_bound : goal.returns-in-5-clause-upper_bound
returns-in-5-clause-upper_bound c =
    omega (
      arith,
      number_narrow c.args.event.process comma (omega arith) c.put_number-size.ensures,
      number_narrow c.args.event.time comma (omega arith) c.put_number.ensures,
    )

pub returns-in-6-clause-upper_bound : goal.returns-in-6-clause-upper_bound
returns-in-6-clause-upper_bound c = omega (arith, number_narrow c.args.event.time newline (omega arith) c.put_number-in-6.ensures)
