-- `layout::steps::put_action` meets its contract: two stores, and two more for an action of a process. Assumes nothing.
use Rattle.std.proofs.Common.{◌∙◌, eq-eqb, ne_eqb}
use Rattle.layout.specs.Steps.{action_put}
use Rattle.layout.proofs.steps.put_action.Goals as goal

pub returns-then-action-ne-WAIT : goal.returns-then-action-ne-WAIT
unfolding action_put
returns-then-action-ne-WAIT c =
    c.put_entry.ensures ∙ rw (ne_eqb _ _ c.if-action-ne-WAIT.true)

pub returns-else-action-ne-WAIT : goal.returns-else-action-ne-WAIT
unfolding action_put
returns-else-action-ne-WAIT c = rw (eq-eqb _ _ c.if-action-ne-WAIT.false)
