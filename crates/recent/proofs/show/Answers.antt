-- `recent::show` meets its contract: each exit is an arm of `lent_show`. Assumes nothing.
use mathlib.Core.Path.{ap, ◌∙◌}
use mathlib.Core.List.{List, ◌++◌}
use Prim.Native.Nat.{ℕ}
use lib.ListN.{drop}
use Rattle.recent.specs.Encodings.{board_length}
use Rattle.recent.proofs.Calls.{show_unsound, show_untimely, show_accepted}
use Rattle.recent.proofs.Front.{short_unsound, stays, looked, unsound, told, in_time, front_headed}
use Rattle.recent.proofs.show.Goals as goal

pub returns-in_default : goal.returns-in_default
returns-in_default c =
    let a = c.args in
    show_unsound a.board.now a.clock (short_unsound a.board.now c.in_default.ensures.cases) c.from.ensures

pub returns-in_default-look_in : goal.returns-in_default-look_in
returns-in_default-look_in c =
    let a = c.args in
    let first = c.in-Some.ensures.cases in
    stays first _ ∙ show_unsound a.board.now a.clock (unsound first c.in_default-look_in.ensures) c.from-in_default-look_in.ensures

pub returns-in-Some-untimely : goal.returns-in-Some-untimely
returns-in-Some-untimely c =
    let a = c.args in
    let first = c.in-Some.ensures.cases in
    let k = looked first c.in-Some-look_in.ensures in
    stays first _ ∙ show_untimely a.board.now a.clock k (told first a.clock c.in-Some-untimely.ensures)

pub returns : goal.returns
returns c =
    let a = c.args in
    let first = c.in-Some.ensures.cases in
    let seen = c.in-Some-look_in.seen in
    let k = looked first c.in-Some-look_in.ensures in
    show_accepted a.board.now a.clock k (in_time first a.clock c.in_default-untimely.ensures) c.accepted.ensures
    (ap (λ (m : List ℕ). m ++ drop board_length a.board.now) c.put_header.ensures ∙ front_headed first a.clock seen.first seen.count)
