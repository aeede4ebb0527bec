-- `numbers::with_number` meets its contract: past the fourth place there is none. Assumes nothing.
use mathlib.Core.Path.{sym}
use native.Mathlib.Omega.{arith}
use lib.Seq.{set_out}
use Rattle.text.proofs.numbers.with_number.Goals as goal

pub returns-else-i-lt4 : goal.returns-else-i-lt4
returns-else-i-lt4 c = let a = c.args in sym (set_out a.numbers a.i a.v (omega arith))
