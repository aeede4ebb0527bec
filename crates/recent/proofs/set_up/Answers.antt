-- `recent::set_up` meets its contract: each exit is an arm of `lent_set_up`. Assumes nothing.
use mathlib.Core.Path.{sym, ap, ◌∙◌}
use mathlib.Core.List.{List, ◌++◌}
use Prim.Native.Nat.{ℕ}
use lib.ListN.{drop}
use Rattle.recent.specs.Encodings.{board_length}
use Rattle.recent.proofs.Calls.{set_up_refused, set_up_made, set_up_neither, set_up_short}
use Rattle.recent.proofs.Front.{front_emptied}
use Rattle.recent.proofs.set_up.Goals as goal

pub returns-then-width_stands : goal.returns-then-width_stands
returns-then-width_stands c =
    set_up_short _ _ c.in_default.ensures.cases (sym c.width_stands.ensures ∙ c.if-width_stands.true) c.from.ensures

pub returns-else-width_stands : goal.returns-else-width_stands
returns-else-width_stands c =
    set_up_neither _ _ c.in_default.ensures.cases (sym c.width_stands.ensures ∙ c.if-width_stands.false) c.from-else-width_stands.ensures

pub returns-then-not-width_stands : goal.returns-then-not-width_stands
returns-then-not-width_stands c =
    let first = c.in-Some.ensures.cases in
    set_up_refused _ _ first.enough (sym c.width_stands-2.ensures ∙ c.if-not-width_stands.true) c.from-then-not-width_stands.ensures
    (ap (λ (m : List ℕ). m ++ drop board_length c.args.board.now) c.empty.ensures ∙ front_emptied first 0)

pub returns : goal.returns
returns c =
    let first = c.in-Some.ensures.cases in
    set_up_made _ _ first.enough (sym c.width_stands-2.ensures ∙ c.if-not-width_stands.false) c.accepted.ensures
    (ap (λ (m : List ℕ). m ++ drop board_length c.args.board.now) c.empty-2.ensures ∙ front_emptied first c.args.width)
