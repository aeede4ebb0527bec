-- `recent::rings::look_in` meets its contract: a board whose header does not stand is not sound, and an empty one is. Assumes nothing.
use Prim.Native.Nat.{◌≤◌}
use mathlib.Core.Path.{sym, ◌∙◌}
use native.Mathlib.Omega.{arith}
use borrow.Author.Rules.{rules}
use lib.ListN.{length}
use Rattle.model.proofs.Tests.{clash}
use Rattle.recent.specs.Encodings.{board_length}
use Rattle.recent.proofs.Sights.{no_sight, empty_seen, width-in}
use Rattle.recent.proofs.rings.look_in.Goals as goal
use Rattle.recent.proofs.rings.look_in.Goals.{then-board-via-then-board, then-board-via-else-board+then-board-2}

pub returns-then-not-width_stands : goal.returns-then-not-width_stands
returns-then-not-width_stands c =
    no_sight _ (λ s. clash (width-in _ s) (sym c.width_stands.ensures ∙ c.if-not-width_stands.true))

pub returns-then-board : goal.returns-then-board
returns-then-board c =
    elim c.then-board.branch [
      | then-board-via-then-board w ↦ no_sight _ (λ s. omega (arith, s.inside, w.if-board.true))
      | then-board-via-else-board+then-board-2 w ↦ no_sight _ (λ s. omega (arith, s.room, w.if-board-2.true))
    ]

pub returns-then-board-eq0 : goal.returns-then-board-eq0
returns-then-board-eq0 c =
    let fits : board_length ≤ length c.args.board.now = search rules in
    empty_seen _ _ c.if-board-eq0.true fits c.if-board.false (sym c.width_stands.ensures ∙ c.if-not-width_stands.false)
