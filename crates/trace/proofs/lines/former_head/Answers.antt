-- `lines::former_head` meets its contract: line 2 lies within the text. Assumes nothing.
use Rattle.std.proofs.Common.{drop, sym, ◌∙◌, arith}
use lib.ListN.{length-drop}
use Rattle.model.proofs.Lists.{part_is}
use Rattle.trace.proofs.Limits.{numbers_within}
use Rattle.trace.proofs.lines.former_head.Goals as goal

pub overflow_add-size : goal.overflow_add-size
overflow_add-size c =
    let rest = drop 14 c.args.text.now in
    let read = rw part_is at (sym c.numbers_at.ensures ∙ c.in_ok-numbers.was) in
    omega (arith, numbers_within 2 3 rest _ (omega arith) read, length-drop 14 c.args.text.now)

pub after_former-requires : goal.after_former-requires
after_former-requires c =
    let rest = drop 14 c.args.text.now in
    let read = rw part_is at (sym c.numbers_at.ensures ∙ c.in_ok-numbers.was) in
    omega (arith, numbers_within 2 3 rest _ (omega arith) read, length-drop 14 c.args.text.now)

pub returns : goal.returns
returns c = c.after_former.ensures ∙ rw (rw part_is at (sym c.numbers_at.ensures ∙ c.in_ok-numbers.was))
