-- `deadline_layout::steps::look` meets its contract: numbers that stand are noted, and others are a fault. Assumes nothing.
use mathlib.Core.Path.{sym, ◌∙◌}
use Rattle.deadline_layout.proofs.steps.look.Goals as goal

pub returns-then-not-stands : goal.returns-then-not-stands
returns-then-not-stands c =
    c.fault.ensures ∙ sym (rw c.if-not-stands.true at (c.stands.ensures.look c.args.process c.args.found c.requires.known))

pub returns : goal.returns
returns c = c.note.ensures ∙ sym (rw c.if-not-stands.false at (c.stands.ensures.look c.args.process c.args.found c.requires.known))
