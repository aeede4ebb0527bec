-- `fields::number_below` meets its contract: each exit is that of `number_turn` at the byte that is read. Assumes nothing.
use Rattle.std.proofs.Common.{sym, ◌∙◌, arith}
use borrow.Author.Tests.{eq-eqb, ne_eqb, lt-ltb, le-ltb, le-leb, lt-leb}
use Rattle.model.specs.Readings.{number_from}
use Rattle.model.proofs.Lists.{drop_end}
use Rattle.text.proofs.Turns.{number-at}
use Rattle.text.proofs.fields.number_below.Goals as goal
use Rattle.text.proofs.fields.number_below.Goals.{then-x-lt48-via-then-x-lt48, then-x-lt48-via-else-x-lt48+then-x-gt57}
use Rattle.text.proofs.fields.number_below.Goals.{then-x-lt48-via-else-x-lt48+else-x-gt57+then-has_leading_zero}

pub returns-then-i-eq0 : goal.returns-then-i-eq0
returns-then-i-eq0 c =
    let v = c.loop-i in
    let a = c.args in
    let turn = sym (number-at a.bound a.end v.value v.i a.s.now v.i c.loop-i-test.true) ∙ v.invariant.1 in
    simp (eq-eqb _ _ c.if-x-end.true, eq-eqb _ _ c.if-i-eq0.true) at turn

pub returns-then-x-end : goal.returns-then-x-end
returns-then-x-end c =
    let v = c.loop-i in
    let a = c.args in
    let turn = sym (number-at a.bound a.end v.value v.i a.s.now v.i c.loop-i-test.true) ∙ v.invariant.1 in
    simp (eq-eqb _ _ c.if-x-end.true, ne_eqb _ _ c.if-i-eq0.false) at turn

pub returns-then-x-lt48 : goal.returns-then-x-lt48
returns-then-x-lt48 c =
    let v = c.loop-i in
    let a = c.args in
    let turn = sym (number-at a.bound a.end v.value v.i a.s.now v.i c.loop-i-test.true) ∙ v.invariant.1 in
    let other = ne_eqb _ _ c.if-x-end.false in
    elim c.then-x-lt48.branch [
      | then-x-lt48-via-then-x-lt48 w ↦ simp (other, lt-ltb _ _ w.if-x-lt48.true) at turn
      | then-x-lt48-via-else-x-lt48+then-x-gt57 w ↦ simp (other, le-ltb _ _ w.if-x-lt48.false, lt-ltb _ _ w.if-x-gt57.true) at turn
      | then-x-lt48-via-else-x-lt48+else-x-gt57+then-has_leading_zero w ↦
          simp (
            other,
            le-ltb _ _ w.if-x-lt48.false,
            le-ltb _ _ w.if-x-gt57.false,
            sym w.has_leading_zero.ensures ∙ w.if-has_leading_zero.true,
          ) at
          turn
    ]

pub returns-then-bound-next : goal.returns-then-bound-next
returns-then-bound-next c =
    let v = c.loop-i in
    let a = c.args in
    let turn = sym (number-at a.bound a.end v.value v.i a.s.now v.i c.loop-i-test.true) ∙ v.invariant.1 in
    let digit = simp (
      ne_eqb _ _ c.if-x-end.false,
      le-ltb _ _ c.if-x-lt48.false,
      le-ltb _ _ c.if-x-gt57.false,
      sym c.has_leading_zero.ensures ∙ c.if-has_leading_zero.false,
    ) at turn in
    simp (le-leb _ _ (rw c.from.ensures at c.if-bound-next.true)) at digit

pub loop-i-preserved : goal.loop-i-preserved
loop-i-preserved c =
    let v = c.loop-i in
    let a = c.args in
    let turn = sym (number-at a.bound a.end v.value v.i a.s.now v.i c.loop-i-test.true) ∙ v.invariant.1 in
    let digit = simp (
      ne_eqb _ _ c.if-x-end.false,
      le-ltb _ _ c.if-x-lt48.false,
      le-ltb _ _ c.if-x-gt57.false,
      sym c.has_leading_zero.ensures ∙ c.if-has_leading_zero.false,
    ) at turn in
    (omega arith, rw c.from.ensures (simp (lt-leb _ _ (rw c.from.ensures at c.if-bound-next.false)) at digit))

pub returns : goal.returns
unfolding number_from
returns c =
    let v = c.loop-i in
    rw (drop_end c.args.s.now v.i (omega arith) (omega arith)) at v.invariant.1
