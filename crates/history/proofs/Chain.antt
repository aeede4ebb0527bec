-- The statements about chains: where one result alone is allowed for each call, a chain is the list of calls of the plain table, so what
-- holds of every list holds of every chain; and every list has a chain. Assumes nothing.
use mathlib.Core.Path.{◌≡◌, refl, ◌∙◌}
use mathlib.Core.List.{List, []}
use Rattle.model.specs.Types.{State}
use Rattle.model.specs.declared.Recorded.{Recorded}
use Rattle.model.specs.Answers.{fresh_of}
use Rattle.model.specs.Facts.{Accepted}
use Rattle.model.specs.Texts.{Event}
use Rattle.model.specs.Summaries.{new_statistics, beside}
use Rattle.model.specs.Folds.{last_of, itself}
use Rattle.model.specs.Calls.{Call, call_of, handed_on, results_of}
use Rattle.lists.specs.Demand3.{Demand3}
use Rattle.tallies.specs.Tallies.{record_next, records_of, start_of}
use Rattle.model.proofs.Tests.{by_test}
use Rattle.model.proofs.Folds.{chain_results, chain_last, list_chain}
use Rattle.theory.proofs.Soundness.{fresh_is_plain, fresh_is}
use Rattle.lists.proofs.Demand3.{every_list}
use Rattle.tallies.proofs.Tallies.{every_tally}
use Rattle.history.specs.Chains.{Made, NotStuck, EveryChain, SomeStart, SomeChain, call_on, MadeOn}
use Rattle.history.specs.Chains.{SomeRecordedChain, EveryRecordedChain}
use Rattle.history.proofs.RecordedTurns.{fresh_starts}

-- Demand 3

call_made : (s : State) (d : Call) (r : Recorded) → Made s d r → r ≡ call_of s d
unfolding call_of
call_made s d r (Made.by_step k h e) = rw k (λ i. record { outcome = h i; statistics = e i })
call_made s d r (Made.by_value k h) = rw k h
call_made s d r (Made.by_record k h) = rw k (rw (h.entry, h.exit) at h.allowed)

not_stuck : {s t : State} {ds : List Call} {rs : List Recorded} → Demand3 s ds rs t → NotStuck t
not_stuck d = record {
  waits = λ h o e. rw e (d.waits h);
  acts = λ i due. let may = d.acts i due in (may.0, may.1, λ o e. rw e may.2);
}

pub every_chain : EveryChain
every_chain k o ds rs h accepted ch =
    let holds : Demand3 (fresh_of k).state ds rs (last_of handed_on o.state rs) =
    rw (chain_last handed_on call_made ch, chain_results handed_on call_made ch, h) (every_list (fresh_of k).state (fresh_is k (rw h at accepted)) ds) in
    record { demand3 = holds; not_stuck = not_stuck holds }

pub some_start : SomeStart
some_start k stand = (fresh_of k, new_statistics, refl, (fresh_is_plain k).accepted.1 stand, refl)

-- Every list has a chain

callable : (s : State) (d : Call) → Made s d (call_of s d)
unfolding call_of
callable s d = by_test d.recorded
    (λ k. Made.by_record k (record {
      lifetimes = ([], tt);
      lent = record { ref_ptr = (0, 0); ghost_name = 0; now = d.lent };
      left = record { ref_ptr = (0, 0); ghost_name = 0; now = (call_of s d).statistics };
      entry = refl;
      exit = refl;
      allowed = rw k;
    }))
    (λ k. Made.by_step k (rw k) (rw k))

pub some_chain : SomeChain
some_chain s ds = (results_of s ds, list_chain call_of handed_on callable s ds)

-- The tally

next_made : (r : Recorded) (e : Event) (t : Recorded) → MadeOn r e t → t ≡ record_next r e
unfolding call_of
next_made r e t m = call_made r.outcome.state (call_on r e) t m

pub some_recorded_chain : SomeRecordedChain
unfolding call_of
some_recorded_chain r es = (records_of r es, list_chain record_next itself (λ q e. callable q.outcome.state (call_on q e)) r es)

pub every_recorded_chain : EveryRecordedChain
every_recorded_chain k o x es rs h accepted new ch =
    let given : Accepted (fresh_of k) = rw h at accepted in
    let start : beside x o ≡ start_of (fresh_of k).state = (λ i. beside (new i) (h i)) ∙ fresh_starts k given in
    rw (chain_last itself next_made ch, chain_results itself next_made ch, start) (every_tally (fresh_of k).state (fresh_is k given) es)
