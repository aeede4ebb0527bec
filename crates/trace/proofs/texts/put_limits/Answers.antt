-- What the check of `texts::put_limits` does not find alone. Assumes nothing.
use mathlib.Core.Path.{refl}
use native.Mathlib.Omega.{arith}
use native.Mathlib.Nat.{add-zero, add_assoc}
use Rattle.text.proofs.Putting.{left_all, left_next, left_done}
use Rattle.trace.proofs.Limits.{lines_at, lines_end}
use Rattle.trace.proofs.texts.put_limits.Goals as goal

pub loop-i-init : goal.loop-i-init
loop-i-init c = (omega arith, rw add-zero left_all)

pub overflow_add-size : goal.overflow_add-size
overflow_add-size c = omega (arith, c.put_limit-size.ensures.upper_bound)

pub loop-i-preserved : goal.loop-i-preserved
loop-i-preserved c =
    let v = c.loop-i in
    let a = c.args in
    let put = left_next (rw (lines_at a.a.now v.i (omega arith)) at v.invariant.1) c.put_limit-size.ensures.put in
    (omega (arith, c.put_limit-size.ensures.upper_bound), rw add_assoc at put)

pub returns : goal.returns
returns c =
    let v = c.loop-i in
    let a = c.args.a.now in
    record {
      put = left_done (rw (lines_end a v.i (omega arith) (omega arith)) at v.invariant.1) refl;
      upper_bound = omega arith;
    }
