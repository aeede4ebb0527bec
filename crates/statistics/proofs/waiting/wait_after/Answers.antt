-- What the check of `waiting::wait_after` does not find alone: where no time is unused nothing is added. Assumes nothing.
use Rattle.std.proofs.Common.{sym, ap, ◌∙◌}
use Rattle.model.specs.Summaries.{waited_on}
use Rattle.theory.proofs.Waits.{waited_on_zero}
use Rattle.statistics.proofs.waiting.wait_after.Goals as goal

pub returns-else-unused-ne0-clause-added : goal.returns-else-unused-ne0-clause-added
returns-else-unused-ne0-clause-added c =
    let a = c.args in
    sym (waited_on_zero a.state.processes a.waited.now)
    ∙ ap (λ d. waited_on d a.state.processes a.waited.now) (sym c.if-unused-ne0.false)
