-- `deadline_layout::steps::note` meets its contract: each exit is the definition at its stage. Assumes nothing.
use mathlib.Core.Path.{◌∙◌}
use borrow.Author.Tests.{ne_eqb}
use Rattle.deadline_layout.specs.Steps.{standing_noted}
use Rattle.deadline_layout.proofs.steps.note.Goals as goal

pub returns-then-stage-eq-REMAINDER : goal.returns-then-stage-eq-REMAINDER
unfolding standing_noted
returns-then-stage-eq-REMAINDER c = rw c.if-stage-eq-REMAINDER.true

pub returns-then-stage-eq-CRITICAL : goal.returns-then-stage-eq-CRITICAL
unfolding standing_noted
returns-then-stage-eq-CRITICAL c = c.note_critical.ensures ∙ rw c.if-stage-eq-CRITICAL.true

pub returns : goal.returns
unfolding standing_noted
returns c = c.note_due.ensures ∙ rw (ne_eqb _ _ c.if-stage-eq-REMAINDER.false, ne_eqb _ _ c.if-stage-eq-CRITICAL.false)
