-- `lines::head_of` meets its contract: line 1 picks the shape. Assumes nothing.
use Rattle.std.proofs.Common.{sym, ◌∙◌}
use borrow.Author.Tests.{lt-ltb, le-ltb}
use Rattle.model.specs.Texts.{value_names, former_names}
use Rattle.model.specs.Readings.{head_of}
use Rattle.text.proofs.Turns.{starts_alike}
use Rattle.trace.proofs.lines.head_of.Goals as goal

pub returns-then-text-gt65536 : goal.returns-then-text-gt65536
unfolding head_of
returns-then-text-gt65536 c = rw c.at.ensures (simp (lt-ltb _ _ c.if-text-gt65536.true))

pub returns-then-starts_with : goal.returns-then-starts_with
unfolding head_of
returns-then-starts_with c =
    let new = sym (starts_alike value_names c.args.text.now) ∙ sym c.starts_with.ensures.value ∙ c.if-starts_with.true in
    c.new_head.ensures ∙ rw (le-ltb _ _ c.if-text-gt65536.false, new)

pub returns-then-starts_with-2 : goal.returns-then-starts_with-2
unfolding head_of
returns-then-starts_with-2 c =
    let new = sym (starts_alike value_names c.args.text.now) ∙ sym c.starts_with.ensures.value ∙ c.if-starts_with.false in
    let former = sym (starts_alike former_names c.args.text.now) ∙ sym c.starts_with-2.ensures.value ∙ c.if-starts_with-2.true in
    c.former_head.ensures ∙ rw (le-ltb _ _ c.if-text-gt65536.false, new, former)

pub returns : goal.returns
unfolding head_of
returns c =
    let new = sym (starts_alike value_names c.args.text.now) ∙ sym c.starts_with.ensures.value ∙ c.if-starts_with.false in
    let former = sym (starts_alike former_names c.args.text.now) ∙ sym c.starts_with-2.ensures.value ∙ c.if-starts_with-2.false in
    rw (c.at-2.ensures, le-ltb _ _ c.if-text-gt65536.false, new, former)
