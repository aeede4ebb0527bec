-- The statements about chains of exported calls on a table: the contracts allow one result for each call, that of the definition, so what holds
-- of every list of calls holds of every chain; and every list has a chain. Assumes nothing.
use Prim.Native.Nat.{ℕ}
use mathlib.Core.Path.{◌≡◌, refl, sym, ap, ◌∙◌}
use mathlib.Core.List.{List, []}
use Rattle.model.specs.Types.{State}
use Rattle.model.specs.declared.Parameters.{Parameters}
use Rattle.model.specs.Acts.{withdraw_act}
use Rattle.model.specs.States.{parameters_of}
use Rattle.model.specs.Answers.{fresh_of}
use Rattle.model.specs.Folds.{results_by, itself}
use Rattle.model.specs.Texts.{Event}
use Rattle.tallies.specs.Tallies.{record_all, start_of}
use Rattle.layout.specs.Interface.{Lent, lent_fresh, lent_step, LentSummary, lent_summary, LentBoth, record_gave, lent_record}
use Rattle.lending.specs.Guarantees.{LentCall, lent_call, table_after, lent_results, lent_run, LentNotStuck}
use Rattle.lending.specs.Guarantees.{lent_next, lent_all, lent_records, lent_start}
use Rattle.recent.specs.Tellings.{LentTold}
use Rattle.model.proofs.Tests.{by_test}
use Rattle.model.proofs.Folds.{chain_results, chain_last, list_chain}
use Rattle.lending.proofs.Refusals.{lent_successes}
use Rattle.lending.proofs.LentLists.{every_lent_list}
use Rattle.lending.proofs.LentTakenBack.{lent_withdraw_undoes_try}
use Rattle.lending.proofs.LentTallies.{every_lent_tally}
use Rattle.recent.proofs.OneTelling.{tell_is_plain}
use Rattle.exported.specs.Lending.{Starts, StartsSummary, RecordsTo, TellsTo}
use Rattle.exported.specs.TableChains.{MadeOnTable, NotStuckOn, EveryTableChain, EveryTakenBack}
use Rattle.exported.specs.TableChains.{MadeOnBoth, starts_both, EveryRecordedTableChain}
use Rattle.exported.specs.TableChains.{SomeTableStart, SomeSummaryStart, SomeTableChain, SomeRecordedTableChain}
use Rattle.exported.proofs.Lending.{starts_is, new_is, steps_is, records_is, tells_is, lending, whole, lending_limits}

-- a step that tells a board is the recorded step
tells_step : (table summary board : List ℕ) (act p m : ℕ) (t : LentTold) → TellsTo table summary board act p m t
    → record_gave t.answer t.table t.summary ≡ lent_record table summary act p m
tells_step table summary board act p m t a =
    rw (tells_is table summary board act p m t a) (tell_is_plain table summary board act p m).step

-- Demand 3

made_is : (l : List ℕ) (d : LentCall) (r : LentBoth) → MadeOnTable l d r → r ≡ lent_call l d
unfolding lent_call
made_is l d r (MadeOnTable.by_step e a h) =
    let is = steps_is l d.action d.process d.time _ a in rw e (λ i. record_gave (is i).answer (is i).table (h i))
made_is l d r (MadeOnTable.by_record e a) = rw e (records_is l d.summary d.action d.process d.time r a)
made_is l d r (MadeOnTable.by_tell e board t a h) =
    rw e (h ∙ tells_step l d.summary board d.action d.process d.time t a)

not_stuck_on : {s : State} {l : List ℕ} → LentNotStuck s l → NotStuckOn s l
not_stuck_on n = record {
  waits = λ h g a. rw (steps_is _ _ _ _ g a) (n.waits h);
  acts = λ i due. let may = n.acts i due in (may.0, may.1, λ g a. rw (steps_is _ _ _ _ g a) may.2);
}

pub every_table_chain : EveryTableChain
every_table_chain k table f ds rs s e ch =
    let fresh = starts_is k table f s in
    let holds = every_lent_list k table ds (rw fresh at e) in
    let left = chain_last table_after made_is ch ∙ ap (λ (g : Lent). lent_run g.table ds) fresh in
    record {
      results = holds.results;
      last = holds.last;
      results_are = chain_results table_after made_is ch ∙ ap (λ (g : Lent). lent_results g.table ds) fresh ∙ holds.results_are;
      last_is = left ∙ holds.last_is;
      demand3 = holds.demand3;
      not_stuck = rw left (not_stuck_on holds.not_stuck);
    }

pub every_taken_back : EveryTakenBack
every_taken_back table p m f g tried accepted withdrawn =
    let is = steps_is table _ p m f tried in
    rw (steps_is f.table withdraw_act p m g withdrawn, is) (lent_withdraw_undoes_try table p m (rw is at accepted))

-- The tally

next_is : (r : LentBoth) (e : Event) (q : LentBoth) → MadeOnBoth r e q → q ≡ lent_next r e
next_is r e q (MadeOnBoth.by_record a) = records_is r.table r.summary e.action e.process e.time q a
next_is r e q (MadeOnBoth.by_tell board t a h) =
    h ∙ tells_step r.table r.summary board e.action e.process e.time t a

-- what the first step is given
start_is : (k : Parameters) (table summary : List ℕ) (f : Lent) (x : LentSummary)
    → Starts k table f → StartsSummary summary x → starts_both f x ≡ lent_start k table summary
start_is k table summary f x s n = λ i. starts_both (starts_is k table f s i) (new_is summary x n i)

pub every_recorded_table_chain : EveryRecordedTableChain
every_recorded_table_chain k table summary f x es rs s n fe xe ch =
    let start = start_is k table summary f x s n in
    let tally = every_lent_tally k table summary es (rw (starts_is k table f s) at fe) (rw (new_is summary x n) at xe) in
    let results = chain_results itself next_is ch ∙ ap (λ (r : LentBoth). lent_records r es) start in
    record {
      results_are = results ∙ tally.results_are;
      last = record_all (start_of (fresh_of k).state) es;
      last_is = chain_last itself next_is ch ∙ ap (λ (r : LentBoth). lent_all r es) start ∙ tally.last_is;
      last_plain = refl;
      tallied = rw results tally.tallied;
    }

-- Every list has a chain

pub some_table_start : SomeTableStart
some_table_start k table stand long = (
  lent_fresh k table,
  (
    ([], ([], tt)),
    lending_limits k.a stand.limits.size,
    lending table (lent_fresh k table).table,
    ap (λ (a : List ℕ). lent_fresh (parameters_of k.n k.b k.c a) table) (sym (whole k.a stand.limits.size)),
  ),
  (lent_successes.fresh_iff k table).1 (stand, long),
)

pub some_summary_start : SomeSummaryStart
some_summary_start summary long = (
  lent_summary summary,
  (([], tt), lending summary (lent_summary summary).summary, refl),
  (lent_successes.new_summary_iff summary).1 long,
)

records_to : (table summary : List ℕ) (act p m : ℕ) → RecordsTo table summary act p m (lent_record table summary act p m)
records_to table summary act p m =
    let r = lent_record table summary act p m in
    (([], ([], tt)), lending table r.table, lending summary r.summary, refl)

table_callable : (l : List ℕ) (d : LentCall) → MadeOnTable l d (lent_call l d)
unfolding lent_call
table_callable l d = by_test d.recorded
    (λ e. MadeOnTable.by_record e (rw e (records_to l d.summary d.action d.process d.time)))
    (λ e. MadeOnTable.by_step e
    (rw e (([], tt), lending l (lent_step l d.action d.process d.time).table, refl)) (rw e))

pub some_table_chain : SomeTableChain
some_table_chain l ds = (results_by lent_call table_after l ds, list_chain lent_call table_after table_callable l ds)

pub some_recorded_table_chain : SomeRecordedTableChain
some_recorded_table_chain r es = (
  lent_records r es,
  list_chain lent_next itself
      (λ q e. MadeOnBoth.by_record (records_to q.table q.summary e.action e.process e.time)) r es,
)
