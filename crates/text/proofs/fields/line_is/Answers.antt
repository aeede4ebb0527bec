-- `fields::line_is` meets its contract: the byte after the word ends the line, and the text starts with the word. Assumes nothing.
use Rattle.std.proofs.Common.{[], ◌∷◌, length, get_or, sym, ◌∙◌}
use borrow.Author.Tests.{ne_eqb}
use mathlib.Core.Bool.{and-true}
use Rattle.model.specs.Texts.{newline}
use Rattle.model.specs.Readings.{starts_with}
use Rattle.model.proofs.Tests.{by_test}
use Rattle.text.proofs.Turns.{starts_alike, starts_append, line_short, line_ends}
use Rattle.text.proofs.fields.line_is.Goals as goal

pub returns-then-s-w : goal.returns-then-s-w
returns-then-s-w c =
    let a = c.args in
    sym (starts_append a.w.now (newline ∷ []) a.s.now ∙ rw (line_short a.s.now (length a.w.now) c.if-s-w.true)
    (by_test (starts_with a.w.now a.s.now) (λ e. rw e) (λ e. rw e)))

pub returns-then-s-w-eq10 : goal.returns-then-s-w-eq10
returns-then-s-w-eq10 c =
    let a = c.args in
    c.starts_with.ensures.value ∙ starts_alike a.w.now a.s.now
    ∙ sym (starts_append a.w.now (newline ∷ []) a.s.now ∙ rw (line_ends a.s.now (length a.w.now) c.if-s-w.false, c.if-s-w-eq10.true)
    (and-true (starts_with a.w.now a.s.now)))

pub returns-else-s-w-eq10 : goal.returns-else-s-w-eq10
returns-else-s-w-eq10 c =
    let a = c.args in
    let e = ne_eqb (get_or a.s.now (length a.w.now) 0) newline c.if-s-w-eq10.false in
    e ∙ sym (starts_append a.w.now (newline ∷ []) a.s.now ∙ rw (line_ends a.s.now (length a.w.now) c.if-s-w.false, e)
    (by_test (starts_with a.w.now a.s.now) (λ t. rw t) (λ t. rw t)))
