-- The statements about chains of the second engine: where one result alone is allowed for each call, a chain is the list of calls of the definitions,
-- so what holds of every list holds of every chain; and every list has a chain. Assumes nothing.
use mathlib.Core.Path.{◌≡◌, refl}
use mathlib.Core.List.{List}
use Rattle.model.specs.Types.{State}
use Rattle.model.specs.declared.Parameters.{Parameters}
use Rattle.model.specs.Types.{Outcome}
use Rattle.model.specs.Texts.{Event}
use Rattle.model.specs.Executions.{step_by, state_after}
use Rattle.model.specs.Folds as folds
use Rattle.deadlines.specs.Types.{DeadlineState}
use Rattle.deadlines.specs.Types.{DeadlineOutcome}
use Rattle.deadlines.specs.Deadlines.{fresh_with}
use Rattle.model.proofs.Folds.{chain_results, chain_last, list_chain}
use Rattle.theory.proofs.Soundness.{fresh_is_plain}
use Rattle.matching.specs.Lists.{step_by_deadlines, deadlines_after, steps_with, Demand3With}
use Rattle.matching.specs.Chains.{MadeWith, MadeByFirst, NotStuckWith, ChainsMatch, EveryChainWith, SomeChainWith}
use Rattle.matching.proofs.Engines.{fresh_match}
use Rattle.matching.proofs.Runs.{lists_match}
use Rattle.matching.proofs.Demand3.{every_list_with}

made_is : (d : DeadlineState) (e : Event) (o : DeadlineOutcome) → MadeWith d e o → o ≡ step_by_deadlines d e
made_is d e o h = h

first_is : (s : State) (e : Event) (o : Outcome) → MadeByFirst s e o → o ≡ step_by s e
first_is s e o h = h

pub chains_match : ChainsMatch
chains_match s d m es os rs firsts seconds =
    rw (chain_results state_after first_is firsts, chain_results deadlines_after made_is seconds) (lists_match s d m es).each

not_stuck : {k : Parameters} {es : List Event} {rs : List DeadlineOutcome} {t : DeadlineState} → Demand3With k es rs t → NotStuckWith t
not_stuck h = record {
  waits = λ b o e. rw e (h.waits b);
  acts = λ i f due. let may = h.acts i f due in (may.0, may.1, λ o e. rw e may.2);
}

pub every_chain_with : EveryChainWith
every_chain_with k o es rs h accepted ch =
    let holds : Demand3With k es rs (folds.last_of deadlines_after o.state rs) =
    rw (chain_last deadlines_after made_is ch, chain_results deadlines_after made_is ch, h) (every_list_with k (rw h at accepted) es) in
    record { demand3 = holds; not_stuck = not_stuck holds }

pub some_chain_with : SomeChainWith
some_chain_with = record {
  start = λ k stand. (fresh_with k, refl, rw (fresh_match k).answer ((fresh_is_plain k).accepted.1 stand));
  chain = λ d es. (steps_with d es, list_chain step_by_deadlines deadlines_after (λ d e. refl) d es);
}
