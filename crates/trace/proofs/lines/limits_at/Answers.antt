-- `lines::limits_at` meets its contract: each line is read where the last one ended. Assumes nothing.
use Rattle.std.proofs.Common.{◌+◌, drop, sym, ◌∙◌, arith}
use lib.ListN.{length-drop}
use Rattle.std.proofs.lemmas.Result.{err_from_is_err_and}
use Rattle.model.proofs.Lists.{part_is}
use Rattle.trace.proofs.Limits.{limit_within, limits_next, limits_stop, limits_end}
use Rattle.trace.proofs.lines.limits_at.Goals as goal

pub returns-in_err-numbers-clause-value : goal.returns-in_err-numbers-clause-value
returns-in_err-numbers-clause-value c =
    let v = c.loop-i in
    let a = c.args in
    let p = err_from_is_err_and c.from_residual.result c.from_residual.ensures.1 in
    let read = rw part_is at (sym c.limit_line.ensures ∙ c.in_err-numbers.was) in
    rw (p.1, p.2) (sym (limits_stop a.n v.i v.at v.a a.s.now c.loop-i-test.true _ read) ∙ v.invariant.1)

pub overflow_add-at : goal.overflow_add-at
overflow_add-at c =
    let v = c.loop-i in
    let read = rw part_is at (sym c.limit_line.ensures ∙ c.in_ok-numbers.was) in
    omega (arith, limit_within (v.i + 1) (drop v.at c.args.s.now) _ (omega arith) read, length-drop v.at c.args.s.now)

pub loop-i-preserved : goal.loop-i-preserved
loop-i-preserved c =
    let v = c.loop-i in
    let a = c.args in
    let read = rw part_is at (sym c.limit_line.ensures ∙ c.in_ok-numbers.was) in (
      omega (arith, limit_within (v.i + 1) (drop v.at a.s.now) _ (omega arith) read, length-drop v.at a.s.now),
      sym (limits_next a.n v.i v.at v.a a.s.now c.loop-i-test.true _ read) ∙ v.invariant.1,
    )

pub returns-clause-value : goal.returns-clause-value
returns-clause-value c =
    let v = c.loop-i in
    let a = c.args in
    sym (limits_end a.n v.i v.at v.a a.s.now c.loop-i-test.false) ∙ v.invariant.1
