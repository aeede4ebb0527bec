-- `recent::add` meets its contract: each exit is an arm of `lent_add`. Assumes nothing.
use mathlib.Core.Path.{sym, ap, ◌∙◌}
use mathlib.Core.List.{List, ◌++◌}
use Prim.Native.Nat.{ℕ, ◌+◌}
use borrow.Author.Rules.{rules}
use lib.ListN.{drop}
use Rattle.recent.specs.Boards.{entry_with}
use Rattle.recent.specs.Encodings.{board_length, wrapped}
use Rattle.recent.proofs.Calls.{count_most, first_most, next_most}
use Rattle.recent.proofs.Calls.{add_unsound, add_untimely, add_misnamed, add_full, add_accepted}
use Rattle.recent.proofs.Front.{short_unsound, stays, looked, unsound, told, in_time, front_added}
use Rattle.recent.proofs.add.Goals as goal

pub returns-in_default : goal.returns-in_default
returns-in_default c =
    let a = c.args in
    add_unsound a.board.now a.time a.process a.wait (short_unsound a.board.now c.in_default.ensures.cases) c.from.ensures

pub returns-in_default-look_in : goal.returns-in_default-look_in
returns-in_default-look_in c =
    let a = c.args in
    let first = c.in-Some.ensures.cases in
    stays first _
    ∙ add_unsound a.board.now a.time a.process a.wait (unsound first c.in_default-look_in.ensures) c.from-in_default-look_in.ensures

pub returns-in-Some-untimely : goal.returns-in-Some-untimely
returns-in-Some-untimely c =
    let a = c.args in
    let first = c.in-Some.ensures.cases in
    let k = looked first c.in-Some-look_in.ensures in
    stays first _ ∙ add_untimely a.board.now a.time a.process a.wait k (told first a.time c.in-Some-untimely.ensures)

pub returns-then-not-is_process : goal.returns-then-not-is_process
returns-then-not-is_process c =
    let a = c.args in
    let first = c.in-Some.ensures.cases in
    let k = looked first c.in-Some-look_in.ensures in
    stays first _
    ∙ add_misnamed a.board.now a.time a.process a.wait k (in_time first a.time c.in_default-untimely.ensures)
    (sym c.is_process.ensures ∙ c.if-not-is_process.true) c.from-then-not-is_process.ensures

pub returns-then-seen-eq-PLACES : goal.returns-then-seen-eq-PLACES
returns-then-seen-eq-PLACES c =
    let a = c.args in
    let first = c.in-Some.ensures.cases in
    let k = looked first c.in-Some-look_in.ensures in
    stays first _
    ∙ add_full a.board.now a.time a.process a.wait k (in_time first a.time c.in_default-untimely.ensures)
    (sym c.is_process.ensures ∙ c.if-not-is_process.false) c.if-seen-eq-PLACES.true c.from-then-seen-eq-PLACES.ensures

pub overflow_add-seen : goal.overflow_add-seen
overflow_add-seen c = search (rules, count_most c.in-Some-look_in.ensures)

pub overflow_add-seen-2 : goal.overflow_add-seen-2
overflow_add-seen-2 c = search (rules, first_most c.in-Some-look_in.ensures, count_most c.in-Some-look_in.ensures)

pub put_entry-requires : goal.put_entry-requires
put_entry-requires c = rw c.wrapped_place.ensures (next_most c.in-Some-look_in.ensures)

pub overflow_add-seen-3 : goal.overflow_add-seen-3
overflow_add-seen-3 c = search (rules, count_most c.in-Some-look_in.ensures)

pub returns : goal.returns
returns c =
    let a = c.args in
    let first = c.in-Some.ensures.cases in
    let seen = c.in-Some-look_in.seen in
    let k = looked first c.in-Some-look_in.ensures in
    let place = wrapped (seen.first + seen.count) in
    add_accepted a.board.now a.time a.process a.wait k (in_time first a.time c.in_default-untimely.ensures)
    (sym c.is_process.ensures ∙ c.if-not-is_process.false) c.if-seen-eq-PLACES.false (c.accepted.ensures ∙ rw c.max.ensures)
    (ap (λ (m : List ℕ). m ++ drop board_length a.board.now) (rw (c.put_header.ensures, c.wrapped_place.ensures) at c.put_entry.ensures)
    ∙ front_added first a.time seen.first (seen.count + 1) place (entry_with a.time a.process a.wait) (next_most c.in-Some-look_in.ensures))
