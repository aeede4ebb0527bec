-- `lines::after_limits` meets its contract. Assumes nothing.
use Rattle.std.proofs.Common.{drop, sym, ◌∙◌}
use Rattle.model.specs.Texts.{event_names}
use Rattle.model.proofs.Lists.{part_is}
use Rattle.text.proofs.Turns.{starts_alike}
use Rattle.trace.proofs.lines.after_limits.Goals as goal

pub returns-then-not-starts_with : goal.returns-then-not-starts_with
returns-then-not-starts_with c =
    let a = c.args in
    let named = rw part_is at (sym c.starts_with.ensures.value ∙ c.if-not-starts_with.true) in
    rw (c.at.ensures, sym (starts_alike event_names (drop a.at a.text.now)) ∙ named)

pub returns : goal.returns
returns c =
    let a = c.args in
    let named = rw part_is at (sym c.starts_with.ensures.value ∙ c.if-not-starts_with.false) in
    rw (sym (starts_alike event_names (drop a.at a.text.now)) ∙ named)
