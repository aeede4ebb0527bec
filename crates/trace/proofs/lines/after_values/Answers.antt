-- `lines::after_values` meets its contract: past each test, what is left of `after_values` decides. Assumes nothing.
use Rattle.std.proofs.Common.{drop, sym, ◌∙◌}
use Rattle.std.proofs.lemmas.Result.{err_from_is_err_and}
use Rattle.model.specs.Texts.{limit_names}
use Rattle.model.proofs.Lists.{part_is}
use Rattle.text.proofs.Turns.{starts_alike}
use Rattle.trace.proofs.lines.after_values.Goals as goal

pub returns-then-not-starts_with : goal.returns-then-not-starts_with
returns-then-not-starts_with c =
    let a = c.args in
    let counted = sym c.count_stands.ensures ∙ c.if-not-count_stands.false in
    let named = rw part_is at (sym c.starts_with.ensures.value ∙ c.if-not-starts_with.true) in
    rw (c.at-then-not-starts_with.ensures, counted, sym (starts_alike limit_names (drop a.at a.text.now)) ∙ named)

pub returns-in_err-a : goal.returns-in_err-a
returns-in_err-a c =
    let a = c.args in
    let p = err_from_is_err_and c.from_residual.result c.from_residual.ensures.1 in
    let counted = sym c.count_stands.ensures ∙ c.if-not-count_stands.false in
    let named = rw part_is at (sym c.starts_with.ensures.value ∙ c.if-not-starts_with.false) in
    let read = rw part_is at (sym c.limits_at.ensures.value ∙ c.in_err-a.was) in
    rw (p.1, p.2, counted, sym (starts_alike limit_names (drop a.at a.text.now)) ∙ named, read)

pub returns : goal.returns
returns c =
    let a = c.args in
    let counted = sym c.count_stands.ensures ∙ c.if-not-count_stands.false in
    let named = rw part_is at (sym c.starts_with.ensures.value ∙ c.if-not-starts_with.false) in
    let read = rw part_is at (sym c.limits_at.ensures.value ∙ c.in_ok-a.was) in
    c.judge_limits.ensures ∙ rw (counted, sym (starts_alike limit_names (drop a.at a.text.now)) ∙ named, read)
