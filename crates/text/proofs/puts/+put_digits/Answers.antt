-- `puts::put_digits` meets its contract: the digits before the last are those of v / 10. Assumes nothing.
use Rattle.std.proofs.Common.{◌/◌, arith}
use Rattle.grammar.proofs.Digits.{decimal_small, decimal_more, digits_word}
use Rattle.text.proofs.Putting.{put_nothing, put_one, put_both}
use Rattle.text.proofs.puts.+put_digits.Goals as goal

pub returns-then-v-lt10 : goal.returns-then-v-lt10
returns-then-v-lt10 t c = rw (decimal_small c.args.v c.if-v-lt10.true) (put_both put_nothing (put_one c.put_byte.ensures))

pub overflow_add-result : goal.overflow_add-result
overflow_add-result t c = omega (arith, c.put_digits-k.ensures.wide, digits_word (c.args.v / 10) (omega arith))

pub returns : goal.returns
returns t c = rw (decimal_more c.args.v c.if-v-lt10.false) (put_both c.put_digits-k.ensures (put_one c.put_byte-2.ensures))
