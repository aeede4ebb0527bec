-- One summary lent to all recorded steps tells their tally: each step gives back the numbers of what it gives back at the table
-- and the summary. Assumes nothing.
use Prim.Native.Nat.{ℕ}
use mathlib.Core.Path.{◌≡◌, refl, sym, ap, ◌∙◌}
use mathlib.Core.Bool.{false}
use mathlib.Core.List.{List, [], ◌∷◌, ◌++◌, map, map-map}
use native.Mathlib.Omega.{arith}
use lib.Dec.{ltb}
use lib.ListN.{length, drop, length-append}
use borrow.Author.Tests.{le-ltb}
use Rattle.model.specs.declared.Parameters.{Parameters}
use Rattle.model.specs.declared.Recorded.{Recorded}
use Rattle.model.specs.Folds.{end_by, results_by}
use Rattle.model.specs.Texts.{Event}
use Rattle.model.specs.Answers.{fresh_of}
use Rattle.model.specs.Facts.{Accepted}
use Rattle.model.specs.Summaries.{new_statistics}
use Rattle.model.specs.Calls.{call_of}
use Rattle.layout.specs.Encodings.{table_length, state_numbers, summary_length, statistics_numbers}
use Rattle.model.proofs.Lists.{over_seam}
use Rattle.tallies.specs.Tallies.{record_next, record_all, records_of, start_of}
use Rattle.theory.proofs.Soundness.{fresh_is_plain, fresh_is}
use Rattle.lists.proofs.Sizes.{waited_as_long}
use Rattle.tallies.proofs.Tallies.{every_tally}
use Rattle.layout.specs.Numbers.{IsWhole}
use Rattle.layout.proofs.Encodings.{table-length, summary-length, summary_comes_back}
use Rattle.layout.proofs.Starting.{fresh_whole as table-whole}
use Rattle.layout.specs.Interface.{Lent, LentSummary, LentBoth, record_gave}
use Rattle.lending.specs.Guarantees.{LentCall, lent_call, call_lent, in_numbers, lent_all, lent_records}
use Rattle.lending.specs.Guarantees.{both_in_numbers, lent_code, EveryLentTally}
use Rattle.lending.proofs.Sizes.{call_whole}
use Rattle.lending.proofs.LentSteps.{FreshGiven, fresh_given, NewGiven, new_given, record_call}
use Rattle.lending.proofs.LentLists.{call_in_numbers}

-- One recorded step

-- a table with its 96 values of a and its 96 entries, and a summary with its 96 waits so far
pub record BothWhole (r : Recorded) : Type 0 where
  pub table : IsWhole r.outcome.state
  pub summary : length r.statistics.waited ≡ 96

module _ (rest spare : List ℕ) (r : Recorded) (whole : BothWhole r) (e : Event) where
  abbrev pub numbers : List ℕ
  numbers = statistics_numbers r.statistics ++ spare

  abbrev pub call : LentCall
  call = record_call numbers e.action e.process e.time

  -- the numbers are not too few
  enough : ltb (length numbers) summary_length ≡ false
  enough =
      le-ltb (length numbers) summary_length
      (omega (arith, length-append (statistics_numbers r.statistics) spare, summary-length r.statistics whole.summary))

  -- the call of demand 3 that it is
  same_call : call_of r.outcome.state (call_lent call) ≡ record_next r e
  unfolding call_of
  same_call = rw (enough, summary_comes_back r.statistics whole.summary spare)

  -- it leaves them as many
  pub next_whole : BothWhole (record_next r e)
  next_whole = record {
    table = rw (← same_call) (call_whole r.outcome.state whole.table (call_lent call));
    summary = waited_as_long r.outcome.state r.statistics e.action e.process e.time ∙ whole.summary;
  }

  pub record_in_numbers : lent_call (state_numbers r.outcome.state ++ rest) call ≡ both_in_numbers rest spare (record_next r e)
  record_in_numbers =
      let x = (record_next r e).statistics in
      call_in_numbers r.outcome.state whole.table rest call
      ∙ ap (in_numbers rest call) same_call
      ∙ rw (
        enough,
        over_seam (statistics_numbers x) (statistics_numbers r.statistics) spare
            (summary-length x next_whole.summary ∙ sym (summary-length r.statistics whole.summary)),
      )

-- A list of them

module _ (rest spare : List ℕ) where
  records_in_numbers : (r : Recorded) → BothWhole r → (es : List Event)
      → lent_records (both_in_numbers rest spare r) es ≡ map (both_in_numbers rest spare) (records_of r es)
  unfolding lent_call results_by
  records_in_numbers r whole [] = refl
  records_in_numbers r whole (e ∷ es) =
      ap (λ (g : LentBoth). g ∷ lent_records g es) (record_in_numbers rest spare r whole e)
      ∙ ap (λ (gs : List LentBoth). both_in_numbers rest spare (record_next r e) ∷ gs)
      (records_in_numbers (record_next r e) (next_whole rest spare r whole e) es)

  all-in-numbers : (r : Recorded) → BothWhole r → (es : List Event)
      → lent_all (both_in_numbers rest spare r) es ≡ both_in_numbers rest spare (record_all r es)
  unfolding lent_call end_by
  all-in-numbers r whole [] = refl
  all-in-numbers r whole (e ∷ es) =
      ap (λ (g : LentBoth). lent_all g es) (record_in_numbers rest spare r whole e)
      ∙ all-in-numbers (record_next r e) (next_whole rest spare r whole e) es

-- From the start, a fresh table with a new summary

module _ (k : Parameters) (table summary : List ℕ) where
  pub fresh_in_numbers : {g : Lent} {h : LentSummary} → FreshGiven k table g → NewGiven summary h
      → g.answer.code ≡ 0 → h.answer.code ≡ 0
      → record_gave g.answer g.table h.summary
      ≡ both_in_numbers (drop table_length table) (drop summary_length summary) (start_of (fresh_of k).state)
  fresh_in_numbers (FreshGiven.refused n) _ e f = absurd (n e)
  fresh_in_numbers (FreshGiven.made _ _) NewGiven.refused e f = absurd (omega arith)
  fresh_in_numbers (FreshGiven.made _ _) (NewGiven.made _) e f =
      rw ((fresh_is_plain k).answer e, table-length (fresh_of k).state (table-whole k e), summary-length new_statistics refl)

  pub fresh_accepted : {g : Lent} → FreshGiven k table g → g.answer.code ≡ 0 → Accepted (fresh_of k)
  fresh_accepted (FreshGiven.refused n) e = absurd (n e)
  fresh_accepted (FreshGiven.made a _) e = a

-- the start has all its entries and waits so far
pub fresh_whole : (k : Parameters) → Accepted (fresh_of k) → BothWhole (start_of (fresh_of k).state)
fresh_whole k e = record { table = table-whole k e; summary = refl }

pub every_lent_tally : EveryLentTally
every_lent_tally k table summary es e f =
    let rest = drop table_length table in
    let spare = drop summary_length summary in
    let s = (fresh_of k).state in
    let accepted = fresh_accepted k table summary (fresh_given k table) e in
    let start = fresh_in_numbers k table summary (fresh_given k table) (new_given summary) e f in
    let whole = fresh_whole k accepted in
    let results_are = ap (λ (g : LentBoth). lent_records g es) start ∙ records_in_numbers rest spare (start_of s) whole es in
    record {
      results_are = results_are;
      last_is = ap (λ (g : LentBoth). lent_all g es) start ∙ all-in-numbers rest spare (start_of s) whole es;
      tallied = rw (results_are, map-map lent_code (both_in_numbers rest spare) (records_of (start_of s) es))
          (every_tally s (fresh_is k accepted) es);
    }
