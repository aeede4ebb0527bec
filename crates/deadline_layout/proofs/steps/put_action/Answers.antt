-- `deadline_layout::steps::put_action` meets its contract: three numbers for an action of a process, and two more. Assumes nothing.
use Prim.Native.Nat.{ℕ}
use mathlib.Core.Path.{ap, ◌∙◌}
use mathlib.Core.List.{List}
use borrow.Author.Tests.{eq-eqb, ne_eqb}
use Rattle.layout.specs.Places.{clocked}
use Rattle.deadline_layout.specs.Steps.{action_put_with}
use Rattle.deadline_layout.proofs.steps.put_action.Goals as goal
use Rattle.deadline_layout.proofs.steps.put_action.Goals.{then-action-ne-WAIT, else-action-ne-WAIT}

pub returns : goal.returns
unfolding action_put_with
returns c =
    ap (λ (l : List ℕ). clocked l c.args.time c.args.transition.word)
    (elim c.if-action-ne-WAIT.branch [
      | then-action-ne-WAIT w ↦ w.table-is ∙ w.put_entry.ensures ∙ rw (w.dated-reached.ensures, ne_eqb _ _ w.if-action-ne-WAIT.true)
      | else-action-ne-WAIT w ↦ w.table-is ∙ rw (eq-eqb _ _ w.if-action-ne-WAIT.false)
    ])
