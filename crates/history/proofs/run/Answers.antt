-- What the check of `run` does not find alone: what is stored in row i is what the call in it gave, and demand 3 holds of every list.
-- Assumes nothing.
use mathlib.Core.Path.{refl, ap, ◌∙◌}
use native.Mathlib.Omega.{arith}
use Rattle.model.specs.Types.{Outcome}
use Rattle.model.specs.declared.Recorded.{Recorded}
use Rattle.model.proofs.Folds.{sets_out}
use Rattle.history.specs.Lists.{rows, calls_of, ran_from, ran_of, turn_gave, stored_at}
use Rattle.history.proofs.Turns.{length_calls, Inside, is_inside, result-at, turns_on, counts_long, waited_long, answers_long, ends, ran_demand3}
use Rattle.history.proofs.run.Goals as goal

pub loop-i-init : goal.loop-i-init
loop-i-init c =
    let a = c.args in
    sets_out (omega (arith, length_calls a.calls.now (rows a.counts.now a.waited.now a.answers.now))) refl

pub loop-i-preserved : goal.loop-i-preserved
loop-i-preserved c =
    let v = c.loop-i in
    let calls = c.args.calls.now in
    let m = rows v.counts v.waited v.answers in
    let g = v.invariant in
    let inside : Inside v.i calls m = omega (arith, is_inside g (omega arith), counts_long g, waited_long g, answers_long g) in
    let made = result-at v.state calls m v.i _ _ _ inside c.summary_in-summary.ensures c.make_call.ensures in
    turns_on g (omega arith)
    (rw (c.tuple_of.ensures, c.from.ensures) (ap (λ (r : Recorded). turn_gave r.outcome.state (stored_at m v.i r)) made))

pub returns : goal.returns
unfolding ran_of
returns c =
    let a = c.args in
    let calls = a.calls.now in
    let lent = rows a.counts.now a.waited.now a.answers.now in
    let e = ends c.fresh.result c.loop-i.invariant (omega arith) ∙ ap (λ (o : Outcome). ran_from o (calls_of calls lent) lent) c.fresh.ensures in
    record { equals = e; demand3 = ran_demand3 a.parameters calls lent e }
