-- `puts::put_digits` falls by the number that it puts. Assumes nothing.
use Rattle.text.proofs.puts.+put_digits.Given as goal

abbrev pub decreases-put_digits : goal.decreases-put_digits
decreases-put_digits l = l.v
