-- What the check of `rings::longest_in` does not find alone. Assumes nothing.
use native.Mathlib.Omega.{arith}
use Rattle.recent.proofs.Passing.{passing_falls, passing_next, passing_end}
use Rattle.recent.proofs.Rows.{rows_at, rows_end}
use Rattle.recent.proofs.rings.longest_in.Goals as goal

pub returns-then-entered-time : goal.returns-then-entered-time
returns-then-entered-time c =
    let v = c.loop-entry in
    passing_falls v.invariant (rows_at c.args.entries.now v.entry-index _ (omega arith)) c.if-entered-time.true

pub loop-entry-preserved : goal.loop-entry-preserved
loop-entry-preserved c =
    let v = c.loop-entry in
    rw c.max-longest.ensures
    (passing_next v.invariant (rows_at c.args.entries.now v.entry-index _ (omega arith)) c.if-entered-time.false)

pub returns : goal.returns
returns c =
    let v = c.loop-entry in
    passing_end v.invariant (rows_end c.args.entries.now v.entry-index (omega arith) (omega arith))
