-- Lists of steps of the two engines: from states that match every list is answered alike, and leads to states that match.
-- Assumes nothing.
use mathlib.Core.Path.{refl}
use mathlib.Core.List.{[], ◌∷◌}
use Rattle.model.specs.Types.{State}
use Rattle.model.specs.Answers.{fresh_of}
use Rattle.model.specs.Executions.{step_by}
use Rattle.model.specs.Folds.{end_by, results_by}
use Rattle.model.specs.Texts.{Event}
use Rattle.deadlines.specs.Types.{DeadlineState}
use Rattle.deadlines.specs.Deadlines.{fresh_with}
use Rattle.deadlines.specs.Matching.{Matches}
use Rattle.matching.specs.Engines.{OutcomesMatch}
use Rattle.matching.specs.Lists.{step_by_deadlines, EachMatches, ListsMatch, FreshListsMatch}
use Rattle.matching.proofs.Engines.{fresh_match, steps_match}

-- one step of a list
pub events_match : {s : State} {d : DeadlineState} → Matches s d → (e : Event) → OutcomesMatch (step_by s e) (step_by_deadlines d e)
events_match {s} {d} match e = steps_match s d match e.action e.process e.time

-- [12.85]
pub lists_match : ListsMatch
unfolding end_by results_by
lists_match s d match [] = record { each = EachMatches.ended; answers = refl; states = match }
lists_match s d match (e ∷ es) =
    let first = events_match match e in
    let others = lists_match (step_by s e).state (step_by_deadlines d e).state first.states es in
    record {
      each = EachMatches.both first others.each;
      answers = λ j. first.answer j ∷ others.answers j;
      states = others.states;
    }

-- [12.85]
pub fresh_lists_match : FreshListsMatch
fresh_lists_match k = lists_match (fresh_of k).state (fresh_with k).state (fresh_match k).states
