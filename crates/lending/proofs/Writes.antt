-- An act writes the clock, the word and the entry of its process, and of a summary the counts, the wait so far of its process and those of who is trying:
-- what it gives back differs from what was told there and nowhere else, and so do their numbers, which are as many. Assumes nothing.
use Prim.Native.Nat.{ℕ, zero, suc, ◌+◌, ◌-◌, ◌≤◌}
use mathlib.Core.Path.{◌≡◌, refl, sym, ap, subst, ◌∙◌}
use mathlib.Core.Logic.{◌⊎◌, inl, inr, ◌≢◌}
use mathlib.Core.Bool.{true}
use mathlib.Core.List.{List, [], ◌∷◌, ◌++◌}
use native.Mathlib.Omega.{arith}
use lib.ListN.{length, get_or, drop, set}
use lib.Seq.{get_or-append-add, get_or-set_other}
use borrow.Author.Tests.{ne_eqb}
use Rattle.model.specs.Types.{Location}
use Rattle.model.specs.declared.Parameters.{Parameters}
use Rattle.model.specs.Types.{State}
use Rattle.model.specs.declared.Transition.{Transition}
use Rattle.model.specs.Types.{Outcome}
use Rattle.model.specs.declared.Statistics.{Statistics}
use Rattle.model.specs.Acts.{wait_act}
use Rattle.model.specs.States.{stage_of, since_of}
use Rattle.model.specs.Actions.{transition_of, waited, moved, effect}
use Rattle.model.specs.Answers.{fresh_of}
use Rattle.model.specs.Readings.{over}
use Rattle.model.specs.Summaries.{counts_numbers, new_statistics, unused_time, waited_on, waited_after, recorded_of}
use Rattle.model.specs.Facts.{IsCritical, IsTrying}
use Rattle.model.specs.Calls.{Call, table_of}
use Rattle.layout.specs.Encodings.{table_length, clock_place, word_place, stage_place, since_place, state_numbers, table_in, is_sound_table}
use Rattle.layout.specs.Encodings.{counts_length, waited_place, summary_length, statistics_numbers, summary_in}
use Rattle.layout.specs.Places.{clocked, placed_at}
use Rattle.layout.specs.Interface.{Lent, LentSummary, LentBoth}
use Rattle.theory.specs.Acceptance.{Waits, Acts, Allowed}
use Rattle.lending.specs.Guarantees.{Elsewhere, StepWritesItsOwn, RecordWritesItsOwn, WaitElsewhere, SummaryWritesItsOwn, LengthsStay}
use Rattle.lending.specs.Guarantees.{LentCall, lent_call, call_lent}
use Rattle.model.proofs.Lists.{length_over}
use Rattle.model.proofs.Tests.{by_test}
use Rattle.theory.proofs.Entries.{entry_at}
use Rattle.theory.proofs.Waits.{unused_used, trying_at, waited_other, waited_on_zero, cleared_other, clears_some}
use Rattle.theory.proofs.Rows.{from_ready}
use Rattle.theory.proofs.Steps.{stepped, accepted_is}
use Rattle.lists.proofs.Calls.{Called, called}
use Rattle.lists.proofs.Sizes.{recorded_waited, waited_as_long}
use Rattle.layout.specs.Numbers.{IsWhole}
use Rattle.layout.proofs.Storing.{moved_stored, waited_stored}
use Rattle.layout.proofs.Starting.{fresh_whole}
use Rattle.layout.proofs.Encodings.{table-length, table_fits, table_is_whole, numbers_come_back, sound_is_table}
use Rattle.layout.proofs.Encodings.{summary-length, summary_is_whole, summary_numbers_come_back}
use Rattle.lending.proofs.LentSteps.{FreshGiven, fresh_given, NewGiven, new_given, RecordGiven, record_given}
use Rattle.lending.proofs.Sizes.{call_whole}
use Rattle.lending.proofs.LentSteps.{step_call, record_call, CallGiven, Given, given}

-- The numbers of the table after an act

module _ {p k : ℕ} (e : Elsewhere p k) where
  -- what is stored of the clock and the word, and of an entry, leaves each other place
  clocked_stays : (l : List ℕ) (m word : ℕ) → get_or (clocked l m word) k 0 ≡ get_or l k 0
  clocked_stays l m word =
      get_or-set_other (set l clock_place m) word_place k word 0 e.not_word ∙ get_or-set_other l clock_place k m 0 e.not_clock

  placed_stays : 1 ≤ p → (l : List ℕ) (to : Location) → get_or (placed_at l (p - 1) to) k 0 ≡ get_or l k 0
  placed_stays some l to =
      get_or-set_other (set l (stage_place (p - 1)) (stage_of to)) (since_place (p - 1)) k (since_of to) 0 (e.not_since some)
      ∙ get_or-set_other l (stage_place (p - 1)) k (stage_of to) 0 (e.not_stage some)

  module _ (s : State) (size : length s.parameters.a ≡ 96) (m : ℕ) where
    abbrev Stays : State → Type 0
    Stays t = get_or (state_numbers t) k 0 ≡ get_or (state_numbers s) k 0

    wait_stays : Stays (waited s m)
    wait_stays = rw (waited_stored s m) (clocked_stays (state_numbers s) m s.word)

    move_stays : 1 ≤ p → (t : Transition) → Stays (moved s p m t)
    move_stays some t =
        rw (moved_stored s size p m t)
        (placed_stays some (clocked (state_numbers s) m t.word) t.to ∙ clocked_stays (state_numbers s) m t.word)

    effect_stays : {act : ℕ} → Waits act p ⊎ Acts s act p m → Stays (effect s act p m)
    unfolding effect
    effect_stays (inl w) = rw w.wait wait_stays
    effect_stays {act} (inr a) = rw (ne_eqb act wait_act (from_ready a.from).not_wait) (move_stays a.some (transition_of s.word act p m))

-- of any call: a refused one leaves them all
numbers_stay : {s : State} {d : Call} {o : Outcome} → length s.parameters.a ≡ 96 → Called s d o → (k : ℕ) → Elsewhere d.process k
    → get_or (state_numbers o.state) k 0 ≡ get_or (state_numbers s) k 0
numbers_stay {s} {d} size (Called.accepted a) k e =
    let t = accepted_is (stepped s d.action d.process d.time) a in
    rw t.is (effect_stays e s size d.time t.allowed.turn)
numbers_stay size (Called.refused _ same) k e = rw same

-- The numbers of the summary after an act

-- past the counts, whatever they are, stand the waits so far
past_counts : (x y : Statistics) (k : ℕ) → counts_length ≤ k
    → get_or y.waited (k - counts_length) 0 ≡ get_or x.waited (k - counts_length) 0 → get_or (statistics_numbers y) k 0 ≡ get_or (statistics_numbers x) k 0
unfolding statistics_numbers
past_counts x y k past same =
    let j = k - counts_length in
    let e : waited_place j ≡ k = omega arith in
    subst (λ (i : ℕ). get_or (counts_numbers y.counts ++ y.waited) i 0 ≡ get_or (counts_numbers x.counts ++ x.waited) i 0) e
    (get_or-append-add (counts_numbers y.counts) y.waited j 0 ∙ same ∙ sym (get_or-append-add (counts_numbers x.counts) x.waited j 0))

module _ (s : State) (ws : List ℕ) (m j : ℕ) (others : IsTrying s (j + 1) → (i : ℕ) × IsCritical s i) where
  -- no time is added, as the process is not trying or somebody is critical
  added_stays : get_or (waited_on (unused_time s m) s.processes ws) j 0 ≡ get_or ws j 0
  added_stays = by_test (trying_at s.processes j)
      (λ e. let used = others (record { from = omega arith; at = rw (entry_at s j) e }) in
      rw (unused_used s m used.1, waited_on_zero s.processes ws))
      (waited_other (unused_time s m) s.processes ws j)

  after_stays : {act p : ℕ} → Allowed s act p m → (1 ≤ p → j ≢ p - 1) → get_or (waited_after s ws act p m) j 0 ≡ get_or ws j 0
  after_stays {act} {p} allowed own =
      cleared_other act p (waited_on (unused_time s m) s.processes ws) j (λ e. own (clears_some allowed.turn e)) ∙ added_stays

waits_stay : (s : State) (x : Statistics) (act p m k : ℕ) → WaitElsewhere s p k
    → get_or (statistics_numbers (recorded_of s x act p m).statistics) k 0 ≡ get_or (statistics_numbers x) k 0
waits_stay s x act p m k e =
    let j = k - counts_length in
    past_counts x (recorded_of s x act p m).statistics k e.not_count
    (recorded_waited s x act p m (λ (l : List ℕ). get_or l j 0 ≡ get_or x.waited j 0) refl
    (λ allowed. after_stays s x.waited m j e.not_trying allowed (λ some f. e.not_own some (omega arith))))

-- The lent numbers

-- as many numbers with the same at place k, before the same
same_before : (xs ys rest : List ℕ) → length xs ≡ length ys → (k : ℕ) → get_or xs k 0 ≡ get_or ys k 0
    → get_or (xs ++ rest) k 0 ≡ get_or (ys ++ rest) k 0
same_before [] [] rest e k h = refl
same_before [] (y ∷ ys) rest e k h = absurd (omega arith)
same_before (x ∷ xs) [] rest e k h = absurd (omega arith)
same_before (x ∷ xs) (y ∷ ys) rest e zero h = h
same_before (x ∷ xs) (y ∷ ys) rest e (suc k) h = same_before xs ys rest (omega arith) k h

-- numbers that are stored over a list, where the list's own are the same at place k, leave that place
over_same : (xs ys l : List ℕ) → over ys l ≡ l → length xs ≡ length ys → (k : ℕ) → get_or xs k 0 ≡ get_or ys k 0
    → get_or (over xs l) k 0 ≡ get_or l k 0
over_same xs ys l own e k h =
    let own' : ys ++ drop (length xs) l ≡ l = rw e own in
    same_before xs ys (drop (length xs) l) e k h ∙ ap (λ (r : List ℕ). get_or r k 0) own'

-- as many as the places at its front leave its length
over_as_long : (xs l : List ℕ) {k : ℕ} → length xs ≡ k → k ≤ length l → length (over xs l) ≡ length l
over_as_long xs l e h = length_over xs l (omega arith)

-- The table of a step and of a recorded step

module _ (table : List ℕ) (d : LentCall) where
  module _ (sound : is_sound_table table ≡ true) where
    whole : IsWhole (table_in table)
    whole = table_is_whole table (sound_is_table table sound)

    after_length : length (state_numbers (table_of (table_in table) (call_lent d))) ≡ table_length
    after_length = table-length (table_of (table_in table) (call_lent d)) (call_whole (table_in table) whole (call_lent d))

  given_writes : {g : LentBoth} → Given table d g
      → (k : ℕ) → Elsewhere d.process k → get_or g.table k 0 ≡ get_or table k 0
  given_writes (CallGiven.no_table _) k e = refl
  given_writes (CallGiven.taken sound) k e =
      let s = table_in table in
      over_same (state_numbers (table_of s (call_lent d))) (state_numbers s) table (numbers_come_back table (sound_is_table table sound))
      (after_length sound ∙ sym (table-length s (whole sound))) k (numbers_stay (whole sound).limits (called s (call_lent d)) k e)

  given_as_long : {g : LentBoth} → Given table d g → length g.table ≡ length table
  given_as_long (CallGiven.no_table _) = refl
  given_as_long (CallGiven.taken sound) =
      over_as_long (state_numbers (table_of (table_in table) (call_lent d))) table (after_length sound)
      (table_fits table (sound_is_table table sound))

  call_writes : (k : ℕ) → Elsewhere d.process k → get_or (lent_call table d).table k 0 ≡ get_or table k 0
  call_writes = given_writes (given table d)

  call_as_long : length (lent_call table d).table ≡ length table
  call_as_long = given_as_long (given table d)

pub step_writes_its_own : StepWritesItsOwn
unfolding lent_call
step_writes_its_own table act p m = call_writes table (step_call act p m)

pub record_writes_its_own : RecordWritesItsOwn
unfolding lent_call
record_writes_its_own table summary act p m = call_writes table (record_call summary act p m)

-- The summary of a recorded step

module _ (table summary : List ℕ) (act p m : ℕ) where
  abbrev after : Statistics
  after = (recorded_of (table_in table) (summary_in summary) act p m).statistics

  noted_length : summary_length ≤ length summary → length (statistics_numbers after) ≡ summary_length
  noted_length fits =
      summary-length after (waited_as_long (table_in table) (summary_in summary) act p m ∙ summary_is_whole summary fits)

  counted_writes : {g : LentBoth} → RecordGiven table summary act p m g
      → (k : ℕ) → WaitElsewhere (table_in table) p k → get_or g.summary k 0 ≡ get_or summary k 0
  counted_writes (RecordGiven.no_table _) k e = refl
  counted_writes (RecordGiven.no-summary _ _) k e = refl
  counted_writes (RecordGiven.taken _ fits) k e =
      let x = summary_in summary in
      over_same (statistics_numbers after) (statistics_numbers x) summary (summary_numbers_come_back summary fits)
      (noted_length fits ∙ sym (summary-length x (summary_is_whole summary fits))) k
      (waits_stay (table_in table) x act p m k e)

  counted_as_long : {g : LentBoth} → RecordGiven table summary act p m g → length g.summary ≡ length summary
  counted_as_long (RecordGiven.no_table _) = refl
  counted_as_long (RecordGiven.no-summary _ _) = refl
  counted_as_long (RecordGiven.taken _ fits) = over_as_long (statistics_numbers after) summary (noted_length fits) fits

pub summary_writes_its_own : SummaryWritesItsOwn
summary_writes_its_own table summary act p m = counted_writes table summary act p m (record_given table summary act p m)

-- All lengths

fresh_as_long : {k : Parameters} {table : List ℕ} {g : Lent} → FreshGiven k table g → length g.table ≡ length table
fresh_as_long (FreshGiven.refused _) = refl
fresh_as_long {k} {table} (FreshGiven.made e fits) =
    let s = (fresh_of k).state in
    over_as_long (state_numbers s) table (table-length s (fresh_whole k e)) fits

new_as_long : {summary : List ℕ} {g : LentSummary} → NewGiven summary g → length g.summary ≡ length summary
new_as_long NewGiven.refused = refl
new_as_long {summary} (NewGiven.made fits) =
    over_as_long (statistics_numbers new_statistics) summary (summary-length new_statistics refl) fits

pub lengths_stay : LengthsStay
unfolding lent_call
lengths_stay = record {
  fresh = λ k table. fresh_as_long (fresh_given k table);
  step = λ table act p m. call_as_long table (step_call act p m);
  new-summary = λ summary. new_as_long (new_given summary);
  record_table = λ table summary act p m. call_as_long table (record_call summary act p m);
  record_summary = λ table summary act p m. counted_as_long table summary act p m (record_given table summary act p m);
}
