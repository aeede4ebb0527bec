-- `recent::rings::look_kept` meets its contract: each exit but the last shows one thing that a sound board has not. Assumes nothing.
use Prim.Native.Nat.{◌≤◌}
use borrow.Author.Rules.{rules}
use lib.ListN.{length}
use Rattle.model.proofs.Tests.{clash}
use Rattle.recent.specs.Encodings.{board_length}
use Rattle.recent.proofs.Sights.{no_sight, fall_seen, late_seen, seen}
use Rattle.recent.proofs.rings.look_kept.Goals as goal

pub returns-in_err-rest : goal.returns-in_err-rest
returns-in_err-rest c =
    rw c.from_residual.ensures (no_sight _ (λ s. clash s.parts.order c.in_err-rest.ensures))

pub returns-in_err-pass : goal.returns-in_err-pass
returns-in_err-pass c =
    let rested = rw c.since_at.ensures at c.in_ok-rest.ensures in
    rw c.from_residual-in_err-pass.ensures (no_sight _ (fall_seen _ _ rested c.in_err-pass.ensures))

pub returns-then-board-pass : goal.returns-then-board-pass
returns-then-board-pass c =
    let rested = rw c.since_at.ensures at c.in_ok-rest.ensures in
    no_sight _ (late_seen _ _ rested c.in_ok-pass.ensures c.if-board-pass.true)

pub returns : goal.returns
returns c =
    let rested = rw c.since_at.ensures at c.in_ok-rest.ensures in
    let header = c.requires in
    let fits : board_length ≤ length c.args.board.now = search rules in
    seen _ _ rested c.in_ok-pass.ensures header.room fits header.inside header.width c.if-board-pass.false
