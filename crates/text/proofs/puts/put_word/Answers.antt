-- `puts::put_word` meets its contract: the word of an act, and the end of its line. Assumes nothing.
use Rattle.model.specs.Texts.{word_text}
use Rattle.text.proofs.Putting.{put_one, put_both}
use Rattle.text.proofs.puts.put_word.Goals as goal

pub returns : goal.returns
unfolding word_text
returns c = put_both (rw c.word.ensures at c.put_text-k.ensures) (put_one c.put_byte.ensures)
