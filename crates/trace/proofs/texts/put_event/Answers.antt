-- `texts::put_event` meets its contract: no number is wider than 21 bytes, no word than 22. Assumes nothing.
use Rattle.std.proofs.Common.{arith}
use Rattle.model.specs.Texts.{comma, event_text}
use Rattle.text.proofs.Putting.{put_both, number_narrow, word_width}
use Rattle.trace.proofs.texts.put_event.Goals as goal

pub overflow_add-start : goal.overflow_add-start
overflow_add-start c = omega (arith, number_narrow c.args.time comma (omega arith) c.put_number-i.ensures)

pub overflow_add-start-2 : goal.overflow_add-start-2
overflow_add-start-2 c = omega (arith, number_narrow c.args.time comma (omega arith) c.put_number-i.ensures)

pub overflow_add-start-3 : goal.overflow_add-start-3
overflow_add-start-3 c =
    let i = number_narrow c.args.time comma (omega arith) c.put_number-i.ensures in
    omega (arith, number_narrow c.args.process comma (omega arith) c.put_number-j.ensures)

pub overflow_add-result : goal.overflow_add-result
overflow_add-result c =
    let j = number_narrow c.args.process comma (omega arith) c.put_number-j.ensures in
    omega (arith, c.put_word-k.ensures.wide, word_width c.args.action)

pub overflow_add-result-2 : goal.overflow_add-result-2
overflow_add-result-2 c =
    let i = number_narrow c.args.time comma (omega arith) c.put_number-i.ensures in
    let j = number_narrow c.args.process comma (omega arith) c.put_number-j.ensures in
    omega (arith, c.put_word-k.ensures.wide, word_width c.args.action)

pub returns-clause-put : goal.returns-clause-put
unfolding event_text
returns-clause-put c = put_both c.put_number-i.ensures (put_both c.put_number-j.ensures c.put_word-k.ensures)

pub returns-clause-upper_bound : goal.returns-clause-upper_bound
returns-clause-upper_bound c =
    let i = number_narrow c.args.time comma (omega arith) c.put_number-i.ensures in
    let j = number_narrow c.args.process comma (omega arith) c.put_number-j.ensures in
    omega (arith, c.put_word-k.ensures.wide, word_width c.args.action)
