-- `puts::put_number` meets its contract. Assumes nothing.
use native.Mathlib.Omega.{arith}
use Rattle.model.specs.Texts.{number_text}
use Rattle.grammar.proofs.Digits.{digits_word}
use Rattle.text.proofs.Putting.{put_one, put_both}
use Rattle.text.proofs.puts.put_number.Goals as goal

pub overflow_add-result : goal.overflow_add-result
overflow_add-result c =
    omega (arith, c.put_digits-k.ensures.wide, digits_word c.args.v (omega arith))

pub returns : goal.returns
unfolding number_text
returns c = put_both c.put_digits-k.ensures (put_one c.put_byte.ensures)
