-- What the recorded step gives back on lent lists, of which the first numbers are the table and the summary. Assumes nothing.
use Rattle.std.proofs.Common.{◌≡◌, ℕ, ◌+◌, ◌-◌, ◌^◌, ◌<◌, ◌≤◌, true, false, ◌≢◌, List, [], ◌++◌, length, get_or, take, drop, sym, refl, ap}
use Rattle.std.proofs.Common.{◌∙◌, append-nil, arith, length-take-le, le-ltb, lt-ltb, eq-eqb, ne_eqb}
use Rattle.std.specs.Prelude.{Option, Some, None}
use Rattle.model.specs.declared.Refusal.{Refusal}
use Rattle.model.specs.Refusals.{code_of}
use Rattle.model.specs.Types.{State}
use Rattle.model.specs.declared.Answer.{Answer}
use Rattle.model.specs.Types.{Outcome}
use Rattle.model.specs.declared.Recorded.{Recorded}
use Rattle.model.specs.declared.Statistics.{Statistics}
use Rattle.model.specs.Answers.{answer_of, answers, step_of}
use Rattle.model.specs.Readings.{over}
use Rattle.model.specs.Summaries.{statistics_of, counts_after, unused_time, waited_on, cleared_by, waited_by, wait_of}
use Rattle.model.specs.Summaries.{accepted_counted, refused_counted, beside, recorded_of}
use Rattle.model.specs.Facts.{Accepted}
use Rattle.model.proofs.Tests.{clash}
use Rattle.theory.specs.Acceptance.{Allowed}
use Rattle.theory.specs.Summaries.{HasRoom}
use Rattle.theory.proofs.Acceptance.{accepted_iff_allowed}
use Rattle.theory.proofs.StaysSound.{sound_kept}
use Rattle.theory.proofs.Waits.{unused_fits, length_waited_after}
use Rattle.theory.proofs.Steps.{unsound_iff_one}
use Rattle.rules.specs.Judging.{others_from}
use Rattle.statistics.specs.Countings.{Room}
use Rattle.statistics.specs.Waitings.{unused_beside}
use Rattle.statistics.proofs.Waits.{unused-beside}
use Rattle.statistics.proofs.Counted.{counted_after}
use Rattle.statistics.proofs.Laws.{fault_of, no_fault_room, counts_room, accepted_named, recorded_fault, gives_accepted, gives_refused}
use Rattle.layout.specs.Encodings.{table_length, state_numbers, state_in, table_in, is_sound_table, clock_in, counts_length}
use Rattle.layout.specs.Encodings.{summary_length, statistics_numbers, statistics_in, summary_in}
use Rattle.layout.specs.Interface.{lent_gave, LentBoth, record_gave, recorded_lent, lent_record, LentEntry, entry_gave, lent_entry}
use Rattle.layout.proofs.Numbers.{state-told}
use Rattle.layout.specs.Numbers.{IsWhole}
use Rattle.layout.proofs.Encodings.{table_comes_back, table_is_whole, step_whole, numbers_come_back, sound_is_table, table_is_sound}
use Rattle.layout.proofs.Encodings.{summary-length, summary_is_whole, summary_numbers_come_back}
use Rattle.layout.specs.Steps.{acted_in, survey_in}
use Rattle.layout.specs.Countings.{fault_in, wait_in, accepted_in, refused_in}
use Rattle.layout.proofs.Surveys.{Found, faulty, whole, survey_found}
use Rattle.layout.proofs.Lists.{front_over}
use Rattle.layout.proofs.Lending.{first_sound, new_numbers, answer_front, table_front}
use Rattle.layout.proofs.Counting.{refused_numbers, refused_length, wait_is, accepted_numbers}

record-gave : {r s : Answer} {t u x y : List ℕ} → r ≡ s → t ≡ u → x ≡ y → record_gave r t x ≡ record_gave s u y
record-gave r t x = λ i. record_gave (r i) (t i) (x i)

-- Whether the first numbers tell a sound table, by what is found of them

module _ (table : List ℕ) (fits : table_length ≤ length table) (p : ℕ) where
  abbrev first : List ℕ
  first = take table_length table

  found : Found first p (survey_in first p)
  found = survey_found first (length-take-le table_length table fits) p

  pub fault_unsound : (survey_in first p).faulty ≢ 0 → is_sound_table table ≡ false
  fault_unsound n = go found
    where
      go : Found first p (survey_in first p) → is_sound_table table ≡ false
      go (faulty e _) = first_sound table fits ∙ e
      go (whole _ w) = absurd (n w.faultless)

  pub no_fault_sound : (survey_in first p).faulty ≡ 0 → is_sound_table table ≡ true
  no_fault_sound z = go found
    where
      go : Found first p (survey_in first p) → is_sound_table table ≡ true
      go (faulty _ n) = absurd (n z)
      go (whole e _) = first_sound table fits ∙ e

-- The lowest critical process besides the acting one

others_found : (table : List ℕ) → table_length ≤ length table → (p : ℕ) → is_sound_table table ≡ true
    → (survey_in (take table_length table) p).critical ≡ others_from p 1 (table_in table).processes
others_found table fits p sound = go (found table fits p)
  where
    go : Found (take table_length table) p (survey_in (take table_length table) p)
        → (survey_in (take table_length table) p).critical ≡ others_from p 1 (table_in table).processes
    go (faulty e _) = clash sound (first_sound table fits ∙ e)
    go (whole _ w) = sym w.critical

-- The refusals of table and summary

module _ (table summary : List ℕ) (act p m : ℕ) where
  pub record_unsound : is_sound_table table ≡ false → {r : Answer} → r ≡ answer_of 1 0 0
      → record_gave r table summary ≡ lent_record table summary act p m
  unfolding lent_record
  record_unsound e f = rw (f, e)

  module _ (sound : is_sound_table table ≡ true) where
    pub record_short : length summary < summary_length → {r : Answer} → r ≡ answer_of 2 0 0
        → record_gave r table summary ≡ lent_record table summary act p m
    unfolding lent_record
    record_short h f = rw (f, sound, lt-ltb (length summary) summary_length h)

    module _ (fits : summary_length ≤ length summary) where
      abbrev s : State
      s = table_in table

      abbrev x : Statistics
      x = summary_in summary

      abbrev o : Outcome
      o = step_of s act p m

      abbrev counts_first : List ℕ
      counts_first = take summary_length summary

      -- what is given back where the recorded step gives r
      gives : {r : Recorded} {j : Answer} {t u : List ℕ} → r ≡ recorded_of s x act p m → j ≡ r.outcome.answer
          → t ≡ over (state_numbers r.outcome.state) table → u ≡ over (statistics_numbers r.statistics) summary
          → record_gave j t u ≡ lent_record table summary act p m
      unfolding lent_record
      gives e f g h =
          record-gave f g h ∙ ap (λ (r : Recorded). recorded_lent r table summary) e ∙ sym (rw (sound, le-ltb (length summary) summary_length fits))

      -- the fault of the first numbers is that of the summary
      fault_is : fault_in counts_first (clock_in (take table_length table)) ≡ fault_of s.clock x
      unfolding statistics_in state_in
      fault_is = refl

      module _ {fault : Option Refusal} (is : fault ≡ fault_in counts_first (clock_in (take table_length table))) where
        pub record_refused : (refusal : Refusal) → fault ≡ Some refusal
            → record_gave (answer_of (code_of refusal) 0 0) table summary ≡ lent_record table summary act p m
        record_refused refusal e =
            gives {r = beside x (answers (code_of refusal) 0 0 s)}
            (sym (recorded_fault s x act p m refusal (sym fault_is ∙ sym is ∙ e) ∙ rw (table_is_sound table sound)))
            refl (sym (numbers_come_back table (sound_is_table table sound))) (sym (summary_numbers_come_back summary fits))

        module _ (none : fault ≡ None) where
          has_room : HasRoom s.clock x
          has_room = no_fault_room s.clock x (sym fault_is ∙ sym is ∙ none)

          -- each count of the first numbers has room for one more
          room : Room (statistics_in counts_first).counts
          room = counts_room s.clock x has_room

          -- the step in place gave j and the numbers `new`
          module _ (long : table_length ≤ length table) {j : Answer} {new : List ℕ}
              (e : lent_gave j new ≡ acted_in (take table_length table) (survey_in (take table_length table) p) act p m) where
            answer_is : j ≡ o.answer
            answer_is = answer_front table long act p m e sound

            code_is : j.code ≡ o.answer.code
            code_is = ap (λ (r : Answer). r.code) answer_is

            first_long : length counts_first ≡ summary_length
            first_long = length-take-le summary_length summary fits

            -- An accepted act: u has the counts and waits so far, with the unused time d by what was found of the table

            module _ (z : j.code ≡ 0) where
              accepted : Accepted o
              accepted = sym code_is ∙ z

              allowed : Allowed s act p m
              allowed = (accepted_iff_allowed s (table_is_sound table sound) act p m).0 accepted

              before : IsWhole s
              before = table_is_whole table (sound_is_table table sound)

              size : length s.processes ≡ 96
              size = before.entries

              after : IsWhole o.state
              after = step_whole s act p m accepted before

              state-after : state_in new ≡ o.state
              state-after = ap state_in (new_numbers table long act p m e sound) ∙ state-told o.state after.limits

              pub sound_after : is_sound_table new ≡ true
              unfolding is_sound_table
              sound_after =
                  let back = table_comes_back o.state after [] in
                  let numbers = new_numbers table long act p m e sound ∙ sym (append-nil (state_numbers o.state)) in
                  rw (numbers, back.0, back.1) (sound_kept s size act p m (table_is_sound table sound) accepted)

              module _ {d : ℕ} (d-is : d ≡ unused_beside (survey_in (take table_length table) p).critical act (clock_in (take table_length table)) m) where
                unused : d ≡ unused_time s m
                unfolding state_in
                unused =
                    d-is ∙ ap (λ (others : ℕ). unused_beside others act s.clock m) (others_found table long p sound) ∙ unused-beside s allowed

                pub waits_fit : (i : ℕ) → get_or (drop counts_length counts_first) i 0 + d < 2 ^ 64
                unfolding statistics_in
                waits_fit i =
                    omega (arith, unused, has_room.sound.waited i, unused_fits s m allowed.forward, allowed.within)

                own_fits : waited_by x p + d < 2 ^ 64
                unfolding statistics_in
                own_fits = waits_fit (p - 1)

                counted_is : statistics_of (counts_after x.counts act (waited_by x p + d)) (cleared_by act p (waited_on d (state_in new).processes x.waited))
                    ≡ accepted_counted s x act p m
                counted_is =
                    counted_after s size x has_room act p m accepted unused (ap (λ (t : State). waited_on d t.processes x.waited) state-after)

                counted_long : length (statistics_numbers (accepted_counted s x act p m)) ≡ summary_length
                unfolding accepted_counted
                counted_long = summary-length (accepted_counted s x act p m) (length_waited_after s x.waited act p m ∙ summary_is_whole summary fits)

                pub wait_told : {wait : ℕ} → wait ≡ wait_in counts_first p d → wait ≡ wait_of s x p m
                wait_told f =
                    f ∙ wait_is counts_first first_long act p d (accepted_named s act p m accepted) own_fits ∙ ap (λ (k : ℕ). waited_by x p + k) unused

                pub record_accepted : {u : List ℕ} → u ≡ accepted_in counts_first (state_in new).processes act p d
                    → record_gave j (new ++ drop table_length table) (u ++ drop summary_length summary) ≡ lent_record table summary act p m
                record_accepted f =
                    let y = accepted_counted s x act p m in
                    let numbers = accepted_numbers counts_first first_long act p d (accepted_named s act p m accepted) own_fits room (state_in new).processes
                    ∙ ap statistics_numbers counted_is in
                    gives {r = beside y o} (gives_accepted s x act p m has_room refl accepted refl) answer_is (table_front table long act p m e sound)
                    (front_over summary_length summary (f ∙ numbers) (ap length (f ∙ numbers) ∙ counted_long))

            pub record_counted : j.code ≢ 0 → {u : List ℕ} → u ≡ refused_in counts_first
                → record_gave j (new ++ drop table_length table) (u ++ drop summary_length summary) ≡ lent_record table summary act p m
            record_counted n f =
                let y = refused_counted x in
                gives {r = beside y o}
                (gives_refused s x act p m has_room refl (λ z. n (code_is ∙ z)) not_one refl) answer_is (table_front table long act p m e sound)
                (front_over summary_length summary (f ∙ refused_numbers counts_first first_long room) (ap length f ∙ refused_length counts_first first_long))
              where
                not_one : o.answer.code ≢ 1
                not_one z = clash (table_is_sound table sound) ((unsound_iff_one s act p m).0 z)

-- With the wait

module _ (table summary : List ℕ) (act p m : ℕ) {g : LentBoth} (e : g ≡ lent_record table summary act p m) where
  pub entry_refused : g.answer.code ≢ 0 → {wait : ℕ} → wait ≡ 0 → entry_gave g wait ≡ lent_entry table summary act p m
  unfolding lent_entry
  entry_refused n w = rw (← e, ne_eqb _ _ n, w)

  pub entry_accepted : g.answer.code ≡ 0 → {wait : ℕ} → wait ≡ wait_of (table_in table) (summary_in summary) p m
      → entry_gave g wait ≡ lent_entry table summary act p m
  unfolding lent_entry
  entry_accepted z w = rw (← e, eq-eqb _ _ z, w)

-- What such a call gave: the recorded step, and with an accepted act the wait

module _ (table summary : List ℕ) (act p m : ℕ) {g : LentBoth} {wait : ℕ} (e : entry_gave g wait ≡ lent_entry table summary act p m) where
  pub entry_record : g ≡ lent_record table summary act p m
  unfolding lent_entry
  entry_record = ap (λ (k : LentEntry). k.recorded) e

  pub entry_wait : g.answer.code ≡ 0 → wait ≡ wait_of (table_in table) (summary_in summary) p m
  unfolding lent_entry
  entry_wait z = ap (λ (k : LentEntry). k.wait) e ∙ rw (← entry_record, eq-eqb _ _ z)
