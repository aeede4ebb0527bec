-- `recent::rings::longest_around` meets its contract: a ring is one straight part, or two, one after the other. Assumes nothing.
use Prim.Native.Nat.{◌+◌, ◌-◌}
use mathlib.Core.Path.{◌≡◌}
use native.Mathlib.Omega.{arith}
use Rattle.recent.specs.Boards.{most_kept}
use Rattle.recent.specs.Encodings.{entries_from}
use Rattle.recent.proofs.Places.{ring_straight, ring_around}
use Rattle.recent.proofs.Passing.{passes_fell, passes_both}
use Rattle.recent.proofs.Rows.{rows_entries, rows_past, rows_first}
use Rattle.recent.proofs.rings.longest_around.Goals as goal

pub returns-then-end-le-PLACES : goal.returns-then-end-le-PLACES
returns-then-end-le-PLACES c =
    let a = c.args in
    let whole : a.first + a.count - a.first ≡ a.count = omega arith in
    let entries = rows_entries a.board.now a.first (a.first + a.count - a.first) (omega arith) in
    rw (ring_straight _ _ _ c.if-end-le-PLACES.true) (rw (c.places-places.ensures.rows, entries, whole) at c.longest_in.ensures)

pub returns-in_err-before : goal.returns-in_err-before
returns-in_err-before c =
    let a = c.args in
    let entries = rows_past a.board.now a.first (omega arith) in
    rw (c.from_residual.ensures, ring_around a.board.now a.first a.count (omega arith) (omega arith))
    (passes_fell a.pass.time _ (entries_from a.board.now 0 (a.first + a.count - most_kept))
    (rw (c.places-places.ensures.rows, entries) at c.in_err-before.ensures))

pub returns : goal.returns
returns c =
    let a = c.args in
    let before = rows_past a.board.now a.first (omega arith) in
    let entries = rows_first a.board.now (a.first + a.count - most_kept) (omega arith) in
    rw (ring_around a.board.now a.first a.count (omega arith) (omega arith))
    (passes_both (entries_from a.board.now 0 (a.first + a.count - most_kept)) (rw (c.places-places.ensures.rows, before) at c.in_ok-before.ensures) _
    (rw (c.places-places.ensures.rows, entries) at c.longest_in-3.ensures))
