-- `history::run_recorded` meets its contract: the invariant is what the first i steps of the list give. Assumes nothing.
use Rattle.model.specs.Summaries.{beside}
use Rattle.history.proofs.RecordedTurns.{Recording}
use Rattle.history.proofs.run_recorded.Given as goal

abbrev pub invariant-loop-i : goal.invariant-loop-i
invariant-loop-i l =
    Recording (beside l.initial.statistics l.initial.outcome) l.acts l.initial.answers l.count l.i (beside l.statistics l.outcome) l.answers
