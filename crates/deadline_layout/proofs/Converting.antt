-- A table and the deadline table that matches it, each written from the other entry by entry; and what the calls give back. Assumes nothing.
use Prim.Native.Nat.{ℕ, ◌+◌, ◌-◌, ◌≤◌, ◌<◌}
use mathlib.Core.Path.{◌≡◌, sym, ap, ◌∙◌}
use mathlib.Core.Logic.{◌≢◌}
use mathlib.Core.Bool.{true, false}
use mathlib.Core.List.{List, ◌++◌}
use native.Mathlib.Omega.{arith}
use lib.ListN.{length, get_or, take, drop, length-append, length-drop}
use lib.Seq.{take_at, take-take, take-append-le, length-take-le}
use borrow.Author.Tests.{lt-leb, lt-ltb, le-ltb, eq-eqb, ne_eqb}
use Rattle.model.specs.Types.{Location}
use Rattle.model.specs.declared.Parameters.{Parameters}
use Rattle.model.specs.Types.{Process}
use Rattle.model.specs.Types.{State}
use Rattle.model.specs.declared.Answer.{Answer}
use Rattle.model.specs.Stages.{checking}
use Rattle.model.specs.Readings.{over}
use Rattle.model.specs.States.{idle, limit_in, sound_of, location_at}
use Rattle.model.specs.Answers.{answer_of}
use Rattle.model.proofs.Lists.{copied_whole}
use Rattle.model.proofs.Soundness.{sound_numbers, sound_past}
use Rattle.model.proofs.Tests.{and_true_iff}
use Rattle.layout.specs.Encodings.{limit_place, header_length, table_length, header_numbers, b_in, c_in, table_parameters, clock_in, word_in}
use Rattle.layout.specs.Encodings.{state_numbers, state_in, table_in, is_table, is_sound_table}
use Rattle.layout.specs.Interface.{lent_gave}
use Rattle.layout.specs.Numbers.{IsWhole}
use Rattle.layout.specs.Places.{placed_at}
use Rattle.layout.specs.Places.{location_in as plain_in}
use Rattle.layout.proofs.Entries.{entry-in}
use Rattle.layout.proofs.Entries.{entries_size as Plain-size}
use Rattle.layout.proofs.Encodings.{table-length as plain-length}
use Rattle.layout.proofs.Encodings.{table_fits as plain_fits}
use Rattle.layout.proofs.Encodings.{sound_is_table as plain-told}
use Rattle.layout.proofs.Encodings.{table_is_sound as plain_sound}
use Rattle.layout.proofs.Saving.{EntriesWritten as PlainWritten}
use Rattle.layout.proofs.Saving.{header_written as plain-header}
use Rattle.layout.proofs.Saving.{entry_written as plain-written}
use Rattle.layout.proofs.Lists.{front_over}
use Rattle.layout.proofs.Numbers.{limits_size, header_long, header_told}
use Rattle.layout.proofs.Acts.{lent-gave}
use Rattle.deadlines.specs.Types.{DeadlineLocation}
use Rattle.deadlines.specs.Types.{DeadlineProcess}
use Rattle.deadlines.specs.Types.{DeadlineState}
use Rattle.deadlines.specs.Deadlines.{idle_with, opens_after}
use Rattle.deadlines.specs.Matching.{matched, arrived_at, arrived, to_deadlines, to_arrivals}
use Rattle.deadlines.specs.Looks.{dated_with}
use Rattle.deadlines.proofs.Matched.{length_dated, length_arrived, dated-at, arrived-at, sound_same}
use Rattle.deadlines.proofs.Passing.{standing_with, sound_parts_with, Small, small}
use Rattle.deadlines.proofs.Judging.{dated_fits}
use Rattle.deadline_layout.specs.Encodings.{deadline_length, stage_place_with, first_place, state_numbers_with, state_with_in, deadline_table_in}
use Rattle.deadline_layout.specs.Encodings.{is_sound_deadline_table}
use Rattle.deadline_layout.specs.Interface.{lent_to_deadlines, lent_to_arrivals}
use Rattle.deadline_layout.specs.Numbers.{IsWholeWith}
use Rattle.deadline_layout.specs.Places.{entries_told, arrived_in, placed_with}
use Rattle.deadline_layout.proofs.Encodings.{table-length, table_fits, entries_are, sound_is_table, table_is_sound}
use Rattle.deadline_layout.proofs.Entries.{limit-at, entry_at, entries_size, each_told}
use Rattle.deadline_layout.proofs.Saving.{EntriesWritten, header_written, entry_written}

-- Copying

-- of two lists of one length the one takes the place of the other
pub all_copied : (from old : List ℕ) → length old ≡ length from → {new : List ℕ} → new ≡ over (take (length old) from) old → new ≡ from
all_copied from old e is = is ∙ copied_whole from old e

-- What stands before the entries is copied

module _ (l : List ℕ) (fits : header_length ≤ length l) where
  pub copied_header : (copied : List ℕ) → take header_length copied ≡ take header_length l
      → take header_length copied ≡ header_numbers (table_parameters l) (clock_in l) (word_in l)
  copied_header copied is =
      is ∙ ap (take header_length) (sym (header_told l fits))
      ∙ take_at (header_numbers (table_parameters l) (clock_in l) (word_in l)) (drop header_length l) header_length
      (header_long (table_parameters l) (limits_size l fits) (clock_in l) (word_in l))

-- From a sound table

module _ (l : List ℕ) (long : length l ≡ table_length) (sound : sound_of (state_in l) ≡ true) where
  abbrev s : State
  s = state_in l

  abbrev k : Parameters
  k = s.parameters

  dated_size : length (matched s).processes ≡ 96
  dated_size = length_dated k 1 s.processes ∙ Plain-size l long

  pub dated_whole : IsWholeWith (matched s)
  unfolding state_in
  dated_whole = record { limits = limits_size l (omega arith); entries = dated_size }

  pub dated_start : (out : List ℕ) → length out ≡ deadline_length → {front : List ℕ} → front ≡ l
      → EntriesWritten (matched s) (front ++ drop table_length out) 0
  unfolding state_in
  dated_start out room {front} is =
      let size = ap length is ∙ long in
      header_written (matched s) _ dated_size (length-append front (drop table_length out) ∙ omega (arith, length-drop table_length out))
      (copied_header l (omega arith) _ (take-append-le header_length front (drop table_length out) (omega arith) ∙ ap (take header_length) is))

  -- no sum wraps
  few : Small (matched s)
  few = small (matched s) ((and_true_iff (standing_with (matched s)) _).0 (sym (sound_parts_with (matched s)) ∙ sound_same s ∙ sound)).0

  -- entry i of the state that matches
  dated_entry : (i : ℕ) → i < 96
      → (get_or (matched s).processes i idle_with).location ≡ dated_with k.b k.c (limit_in k (i + 1)) (plain_in l i)
  dated_entry i more =
      let e : 1 + i ≡ i + 1 = omega arith in
      ap (λ (q : DeadlineProcess). q.location) (dated-at k 1 s.processes i)
      ∙ sym (dated_fits k (1 + i) (get_or s.processes i idle).location
      (omega (arith, sound_past s sound i, (sound_numbers s sound).clock)) few.opens few.closes (few.limit (1 + i)))
      ∙ (λ j. dated_with k.b k.c (limit_in k (e j)) (entry-in l long i more idle j).location)

  pub dated_written : (out : List ℕ) (i : ℕ) → EntriesWritten (matched s) out i → i < 96
      → {q : DeadlineLocation} → q ≡ dated_with (b_in l) (c_in l) (get_or l (limit_place i) 0) (plain_in l i)
      → EntriesWritten (matched s) (placed_with out i q) (i + 1)
  unfolding state_in
  dated_written out i done more e =
      let own = limit-at l (i + 1) i (omega arith) more in
      rw (e ∙ ap (λ (limit : ℕ). dated_with (b_in l) (c_in l) limit (plain_in l i)) own ∙ sym (dated_entry i more))
      (entry_written (matched s) out i done idle_with more)

-- From a deadline table whose entries tell locations

-- the arrival is b before the first time in checking, and that time elsewhere
module _ (l : List ℕ) (i b : ℕ) {stage first : ℕ} (stage_is : stage ≡ get_or l (stage_place_with i) 0) (first_is : first ≡ get_or l (first_place i) 0)
    {since : ℕ} {r : Location} (r-is : r ≡ location_at stage since) where
  arrives : since ≡ first - opens_after b stage → r ≡ arrived_in l i b
  arrives e = r-is ∙ ap (location_at stage) e ∙ (λ j. location_at (stage_is j) (first_is j - opens_after b (stage_is j)))

  pub arrives_checking : stage ≡ checking → since ≡ first - b → r ≡ arrived_in l i b
  arrives_checking e s = arrives (rw (eq-eqb stage checking e) s)

  pub arrives_plain : stage ≢ checking → since ≡ first → r ≡ arrived_in l i b
  arrives_plain e s = arrives (rw (ne_eqb stage checking e) (omega arith))

module _ (l : List ℕ) (long : length l ≡ deadline_length) (told : entries_told l ≡ true) where
  abbrev d : DeadlineState
  d = state_with_in l

  arrived_size : length (arrived d).processes ≡ 96
  arrived_size = length_arrived d.parameters d.processes ∙ entries_size l long

  pub arrived_whole : IsWhole (arrived d)
  unfolding state_with_in
  arrived_whole = record { limits = limits_size l (omega arith); entries = arrived_size }

  pub arrived_start : {copied : List ℕ} → copied ≡ take table_length l → PlainWritten (arrived d) copied 0
  unfolding state_with_in
  arrived_start is =
      plain-header (arrived d) _ arrived_size (ap length is ∙ length-take-le table_length l (omega arith))
      (copied_header l (omega arith) _ (ap (take header_length) is ∙ take-take header_length table_length l (omega arith)))

  arrived_entry : (i : ℕ) → i < 96 → (get_or (arrived d).processes i idle).location ≡ arrived_in l i d.parameters.b
  arrived_entry i more =
      let t = each_told l long i more told in
      ap (λ (q : Process). q.location) (arrived-at d.parameters d.processes i)
      ∙ (λ j. arrived_at d.parameters.b (entry_at l long i more idle_with j).location)
      ∙ (λ j. location_at (t.stage_is j) (t.first_is j - opens_after d.parameters.b (t.stage_is j)))

  pub arrived_written : (out : List ℕ) (i : ℕ) → PlainWritten (arrived d) out i → i < 96
      → {q : Location} → q ≡ arrived_in l i (b_in l) → PlainWritten (arrived d) (placed_at out i q) (i + 1)
  unfolding state_with_in
  arrived_written out i done more e = rw (e ∙ sym (arrived_entry i more)) (plain-written (arrived d) out i done idle more)

-- What `to_deadlines` gives back

-- too few numbers tell no table
pub short_table : (table : List ℕ) → length table < table_length → is_sound_table table ≡ false
unfolding is_sound_table is_table
short_table table h = rw (lt-leb table_length (length table) h)

module _ (table : List ℕ) (e : is_sound_table table ≡ true) where
  pub table_sound : sound_of (table_in table) ≡ true
  table_sound = plain_sound table e

  pub table_part : length (take table_length table) ≡ table_length
  table_part = length-take-le table_length table (plain_fits table (plain-told table e))

module _ (table out : List ℕ) where
  pub dated_unsound : is_sound_table table ≡ false → {r : Answer} → r ≡ answer_of 1 0 0 → lent_gave r out ≡ lent_to_deadlines table out
  unfolding lent_to_deadlines
  dated_unsound e f = rw (f, e)

  module _ (e : is_sound_table table ≡ true) where
    pub dated_short : length out < deadline_length → {r : Answer} → r ≡ answer_of 16 0 0 → lent_gave r out ≡ lent_to_deadlines table out
    unfolding lent_to_deadlines
    dated_short h f = rw (f, e, lt-ltb (length out) deadline_length h)

    pub dated_made : deadline_length ≤ length out → {r : Answer} → r ≡ answer_of 0 0 0 → {new : List ℕ}
        → new ≡ state_numbers_with (matched (table_in table)) → lent_gave r (new ++ drop deadline_length out) ≡ lent_to_deadlines table out
    unfolding lent_to_deadlines to_deadlines
    dated_made h f g =
        let whole = dated_whole (take table_length table) (table_part table e) (table_sound table e) in
        rw (e, le-ltb (length out) deadline_length h, table_sound table e)
        (lent-gave f (front_over deadline_length out g (ap length g ∙ table-length (matched (table_in table)) whole)))

-- What `to_arrivals` gives back

module _ (deadlines : List ℕ) (e : is_sound_deadline_table deadlines ≡ true) where
  pub deadlines_told : entries_told (take deadline_length deadlines) ≡ true
  deadlines_told = entries_are deadlines (sound_is_table deadlines e)

  pub deadlines_part : length (take deadline_length deadlines) ≡ deadline_length
  deadlines_part = length-take-le deadline_length deadlines (table_fits deadlines (sound_is_table deadlines e))

module _ (deadlines out : List ℕ) where
  pub arrived_unsound : is_sound_deadline_table deadlines ≡ false → {r : Answer} → r ≡ answer_of 1 0 0 → lent_gave r out ≡ lent_to_arrivals deadlines out
  unfolding lent_to_arrivals
  arrived_unsound e f = rw (f, e)

  module _ (e : is_sound_deadline_table deadlines ≡ true) where
    pub arrived_short : length out < table_length → {r : Answer} → r ≡ answer_of 16 0 0 → lent_gave r out ≡ lent_to_arrivals deadlines out
    unfolding lent_to_arrivals
    arrived_short h f = rw (f, e, lt-ltb (length out) table_length h)

    pub arrived_made : table_length ≤ length out → {r : Answer} → r ≡ answer_of 0 0 0 → {new : List ℕ}
        → new ≡ state_numbers (arrived (deadline_table_in deadlines)) → lent_gave r (new ++ drop table_length out) ≡ lent_to_arrivals deadlines out
    unfolding lent_to_arrivals to_arrivals
    arrived_made h f g =
        let whole = arrived_whole (take deadline_length deadlines) (deadlines_part deadlines e) (deadlines_told deadlines e) in
        rw (e, le-ltb (length out) table_length h, table_is_sound deadlines e)
        (lent-gave f (front_over table_length out g (ap length g ∙ plain-length (arrived (deadline_table_in deadlines)) whole)))
