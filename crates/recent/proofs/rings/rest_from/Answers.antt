-- What the check of `rings::rest_from` does not find alone. Assumes nothing.
use Prim.Native.Nat.{◌+◌, ◌-◌}
use mathlib.Core.Path.{◌≡◌}
use native.Mathlib.Omega.{arith}
use Rattle.recent.proofs.Resting.{resting_start, resting_falls, resting_next}
use Rattle.recent.proofs.Rows.{time_at}
use Rattle.recent.proofs.rings.rest_from.Goals as goal

pub loop-gone-init : goal.loop-gone-init
loop-gone-init c =
    let all : c.args.count - 0 ≡ c.args.count = omega arith in
    rw all (resting_start _ _ _ _ c.requires.first_lt_most_kept)

pub returns-then-entered-time : goal.returns-then-entered-time
returns-then-entered-time c =
    let v = c.loop-gone in
    let entered = time_at c.args.board.now _ v.place c.places-places.ensures.rows v.invariant.inside in
    resting_falls v.invariant (omega arith) c.requires.count_le_most_kept (omega (arith, entered, c.if-entered-time.true))

pub returns-then-since-entered : goal.returns-then-since-entered
returns-then-since-entered c =
    let v = c.loop-gone in
    let entered = time_at c.args.board.now _ v.place c.places-places.ensures.rows v.invariant.inside in
    record { resting = v.invariant; counts_first = λ _. omega (arith, entered, c.if-since-entered.true) }

pub loop-gone-preserved : goal.loop-gone-preserved
loop-gone-preserved c =
    let v = c.loop-gone in
    let pre = c.requires in
    let less : c.args.count - (v.gone + 1) ≡ c.args.count - v.gone - 1 = omega arith in
    let entered = time_at c.args.board.now _ v.place c.places-places.ensures.rows v.invariant.inside in
    rw (c.wrapped_place-place.ensures, less, entered)
    (resting_next v.invariant (omega arith) pre.first_lt_most_kept pre.count_le_most_kept (omega (arith, entered, c.if-entered-time.false))
    (omega (arith, entered, c.if-since-entered.false)))
