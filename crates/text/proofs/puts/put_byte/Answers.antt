-- `puts::put_byte` meets its contract: beyond the end there is no place. Assumes nothing.
use Prim.Native.Nat.{◌+◌}
use mathlib.Core.Path.{sym}
use native.Mathlib.Omega.{arith}
use lib.Seq.{set_out}
use Rattle.text.proofs.puts.put_byte.Goals as goal

pub returns-else-k-out : goal.returns-else-k-out
returns-else-k-out c = let a = c.args in sym (set_out a.out.now (a.at + a.k) a.x (omega arith))

pub returns-else-at-out : goal.returns-else-at-out
returns-else-at-out c = let a = c.args in sym (set_out a.out.now (a.at + a.k) a.x (omega arith))
