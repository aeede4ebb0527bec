-- `fields::word_at` meets its contract: one turn tries the word of one act. Assumes nothing.
use Rattle.std.proofs.Common.{◌≡◌, length, sym, ◌∙◌, arith}
use Rattle.model.specs.Texts.{words}
use Rattle.model.specs.Readings.{word_from}
use Rattle.text.proofs.Turns.{word-at}
use Rattle.text.proofs.fields.word_at.Goals as goal

pub returns-then-line_is : goal.returns-then-line_is
returns-then-line_is c =
    let v = c.loop-action in
    let e = sym c.line_is.ensures ∙ c.if-line_is.true in
    rw (← c.word-word.ensures, e) at (sym (word-at v.action c.args.s.now c.loop-action-test.true) ∙ v.invariant)

pub loop-action-preserved : goal.loop-action-preserved
loop-action-preserved c =
    let v = c.loop-action in
    let e = rw c.word-word.ensures at (sym c.line_is.ensures ∙ c.if-line_is.false) in
    rw e at (sym (word-at v.action c.args.s.now c.loop-action-test.true) ∙ v.invariant)

pub returns : goal.returns
unfolding word_from
returns c =
    let v = c.loop-action in
    let z : v.action ≡ length words = omega arith in
    rw z at v.invariant
