-- `history::make_call` meets its contract: the kind tells which call it is. Assumes nothing.
use mathlib.Core.Path.{ap, sym}
use Rattle.model.specs.Summaries.{beside}
use Rattle.model.specs.Calls.{call_of}
use Rattle.history.proofs.make_call.Goals as goal

pub returns-in-Step : goal.returns-in-Step
unfolding call_of
returns-in-Step c = rw (sym c.in-Step.ensures) (ap (beside _) c.step-outcome.ensures)

pub returns-in-Recorded : goal.returns-in-Recorded
unfolding call_of
returns-in-Recorded c = rw (sym c.in-Recorded.ensures) c.record_step-outcome.ensures
