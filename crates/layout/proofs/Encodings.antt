-- A table and a summary come back from their numbers, and numbers from what they tell: the laws of `Numbers`, of the front of a
-- lent list. Assumes nothing.
use Rattle.std.proofs.Common.{◌≡◌, ℕ, ◌≤◌, true, leb, List, ◌++◌, length, take, drop, ap, ◌∙◌, arith, length-append, length-take-le, take_at, leb-true}
use Rattle.model.specs.declared.Parameters.{Parameters}
use Rattle.model.specs.Types.{State}
use Rattle.model.specs.declared.Statistics.{Statistics}
use Rattle.model.specs.States.{sound_of}
use Rattle.model.specs.Answers.{step_of}
use Rattle.model.specs.Facts.{Accepted}
use Rattle.theory.proofs.Acceptance.{next_is_changed}
use Rattle.layout.specs.Encodings.{header_length, table_length, state_numbers, state_in, are_entries, is_table, table_in, is_sound_table}
use Rattle.layout.specs.Encodings.{summary_length, statistics_numbers, summary_in}
use Rattle.model.proofs.Lists.{over_front}
use Rattle.model.proofs.Tests.{and_true_iff, tests}
use Rattle.layout.proofs.Numbers.{limits_size, length_state, state_has_entries, state-told, state_numbers_told}
use Rattle.layout.proofs.Numbers.{length_summary, summary_told, summary_numbers_told}
use Rattle.layout.specs.Numbers.{IsWhole, TableComesBack, TableIsWhole, NumbersComeBack, SummaryComesBack, SummaryNumbersComeBack}

-- Tables

module _ (s : State) (whole : IsWhole s) where
  pub table-length : length (state_numbers s) ≡ table_length
  table-length = omega (arith, length_state s, whole.limits, whole.entries)

  -- what stands after them does not count
  table_front : (rest : List ℕ) → take table_length (state_numbers s ++ rest) ≡ state_numbers s
  table_front rest = take_at (state_numbers s) rest table_length table-length

  told_back : (rest : List ℕ) → is_table (state_numbers s ++ rest) ≡ true
  unfolding is_table
  told_back rest = simp tests (
    omega (arith, length-append (state_numbers s) rest, table-length),
    rw (table_front rest) (state_has_entries s whole.limits),
  )

pub table_comes_back : TableComesBack
table_comes_back s whole rest = (told_back s whole rest, rw (table_front s whole rest) (state-told s whole.limits))

module _ (l : List ℕ) (told : is_table l ≡ true) where
  -- numbers that tell a table are enough
  pub table_fits : table_length ≤ length l
  unfolding is_table
  table_fits = leb-true _ _ ((and_true_iff (leb table_length (length l)) _).0 told).0

  -- and all its entries are told
  entries_are : are_entries (drop header_length (take table_length l)) ≡ true
  unfolding is_table
  entries_are = ((and_true_iff (leb table_length (length l)) _).0 told).1

  -- they are its numbers
  pub table_numbers : state_numbers (table_in l) ≡ take table_length l
  table_numbers = state_numbers_told (take table_length l) (omega (arith, length-take-le table_length l table_fits)) entries_are

-- so it has 96 values of a
told_limits : (l : List ℕ) → table_length ≤ length l → length (table_in l).parameters.a ≡ 96
unfolding state_in
told_limits l fits = limits_size (take table_length l) (omega (arith, length-take-le table_length l fits))

pub table_is_whole : TableIsWhole
table_is_whole l e =
    let fits = table_fits l e in
    record {
      limits = told_limits l fits;
      entries = omega (arith, length_state (table_in l), told_limits l fits, ap length (table_numbers l e), length-take-le table_length l fits);
    }

-- an accepted act leaves a whole state
pub step_whole : (s : State) (act p m : ℕ) → Accepted (step_of s act p m) → IsWhole s → IsWhole (step_of s act p m).state
step_whole s act p m a whole =
    let h = next_is_changed s whole.entries act p m a in
    record {
      limits = ap (λ (k : Parameters). length k.a) h.parameters_stay ∙ whole.limits;
      entries = h.size_stays ∙ whole.entries;
    }

pub numbers_come_back : NumbersComeBack
numbers_come_back l e = rw (table_numbers l e) (over_front table_length l (table_fits l e))

-- the numbers of a sound table are those of a table, and it is sound
module _ (l : List ℕ) (e : is_sound_table l ≡ true) where
  pub sound_is_table : is_table l ≡ true
  unfolding is_sound_table
  sound_is_table = ((and_true_iff (is_table l) _).0 e).0

  pub table_is_sound : sound_of (table_in l) ≡ true
  unfolding is_sound_table
  table_is_sound = ((and_true_iff (is_table l) _).0 e).1

-- Summaries

pub summary-length : (x : Statistics) → length x.waited ≡ 96 → length (statistics_numbers x) ≡ summary_length
summary-length x whole = omega (arith, length_summary x)

pub summary_comes_back : SummaryComesBack
summary_comes_back x whole rest = rw (take_at (statistics_numbers x) rest summary_length (summary-length x whole)) (summary_told x)

module _ (l : List ℕ) (fits : summary_length ≤ length l) where
  -- enough numbers are those of the summary that they tell
  summary_numbers : statistics_numbers (summary_in l) ≡ take summary_length l
  summary_numbers = summary_numbers_told (take summary_length l) (omega (arith, length-take-le summary_length l fits))

  -- which has 96 waits so far
  pub summary_is_whole : length (summary_in l).waited ≡ 96
  summary_is_whole =
      omega (
        arith,
        length_summary (summary_in l),
        ap length summary_numbers,
        length-take-le summary_length l fits,
      )

pub summary_numbers_come_back : SummaryNumbersComeBack
summary_numbers_come_back l fits = rw (summary_numbers l fits) (over_front summary_length l fits)
