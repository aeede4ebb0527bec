-- A deadline table comes back from its numbers, and numbers from what they tell: the laws of `Numbers`, of the front of a lent list.
-- Assumes nothing.
use Prim.Native.Nat.{ℕ, ◌≤◌}
use mathlib.Core.Path.{◌≡◌, refl, ap}
use mathlib.Core.Bool.{true}
use mathlib.Core.List.{List, ◌++◌}
use native.Mathlib.Omega.{arith}
use lib.Dec.{leb}
use lib.ListN.{length, take, drop, length-append}
use lib.Seq.{take_at, length-take-le}
use borrow.Author.Tests.{leb-true}
use Rattle.layout.specs.Encodings.{header_length}
use Rattle.deadlines.specs.Types.{DeadlineState}
use Rattle.deadlines.specs.Deadlines.{sound_with}
use Rattle.layout.proofs.Numbers.{limits_size}
use Rattle.deadline_layout.specs.Encodings.{deadline_length, state_numbers_with, state_with_in, are_deadlines, deadline_table_in}
use Rattle.deadline_layout.specs.Encodings.{is_deadline_table, is_sound_deadline_table}
use Rattle.deadline_layout.specs.Numbers.{IsWholeWith, DeadlinesComeBack, DeadlineNumbersComeBack, DeadlineLayout}
use Rattle.model.proofs.Lists.{over_front}
use Rattle.model.proofs.Tests.{and_true_iff, tests}
use Rattle.deadline_layout.proofs.Numbers.{length_state, state_tells, state-told, state_numbers_told}

module _ (d : DeadlineState) (whole : IsWholeWith d) where
  pub table-length : length (state_numbers_with d) ≡ deadline_length
  table-length = omega (arith, length_state d, whole.limits, whole.entries)

  -- what stands after them does not count
  table_front : (rest : List ℕ) → take deadline_length (state_numbers_with d ++ rest) ≡ state_numbers_with d
  table_front rest = take_at (state_numbers_with d) rest deadline_length table-length

  told_back : (rest : List ℕ) → is_deadline_table (state_numbers_with d ++ rest) ≡ true
  unfolding is_deadline_table
  told_back rest = simp tests (
    omega (arith, length-append (state_numbers_with d) rest, table-length),
    rw (table_front rest) (state_tells d whole.limits),
  )

pub deadlines_come_back : DeadlinesComeBack
deadlines_come_back d whole rest = (told_back d whole rest, rw (table_front d whole rest) (state-told d whole.limits))

module _ (l : List ℕ) (told : is_deadline_table l ≡ true) where
  -- numbers that tell a deadline table are enough
  pub table_fits : deadline_length ≤ length l
  unfolding is_deadline_table
  table_fits = leb-true _ _ ((and_true_iff (leb deadline_length (length l)) _).0 told).0

  -- and all its entries are told
  pub entries_are : are_deadlines (drop header_length (take deadline_length l)) ≡ true
  unfolding is_deadline_table
  entries_are = ((and_true_iff (leb deadline_length (length l)) _).0 told).1

  -- they are its numbers
  pub table_numbers : state_numbers_with (deadline_table_in l) ≡ take deadline_length l
  table_numbers = state_numbers_told (take deadline_length l) (omega (arith, length-take-le deadline_length l table_fits)) entries_are

-- and it has 96 values of a and 96 entries
told_limits : (l : List ℕ) → deadline_length ≤ length l → length (deadline_table_in l).parameters.a ≡ 96
unfolding state_with_in
told_limits l fits = limits_size (take deadline_length l) (omega (arith, length-take-le deadline_length l fits))

pub deadlines_are_whole : (l : List ℕ) → is_deadline_table l ≡ true → IsWholeWith (deadline_table_in l)
deadlines_are_whole l e =
    let fits = table_fits l e in
    let own = told_limits l fits in
    record {
      limits = own;
      entries = omega (arith, length_state (deadline_table_in l), own, ap length (table_numbers l e), length-take-le deadline_length l fits);
    }

pub deadline_numbers_come_back : DeadlineNumbersComeBack
deadline_numbers_come_back l e = rw (table_numbers l e) (over_front deadline_length l (table_fits l e))

-- the numbers of a sound deadline table are those of one, and it is sound
module _ (l : List ℕ) (e : is_sound_deadline_table l ≡ true) where
  pub sound_is_table : is_deadline_table l ≡ true
  unfolding is_sound_deadline_table
  sound_is_table = ((and_true_iff (is_deadline_table l) _).0 e).0

  pub table_is_sound : sound_with (deadline_table_in l) ≡ true
  unfolding is_sound_deadline_table
  table_is_sound = ((and_true_iff (is_deadline_table l) _).0 e).1

pub deadline-layout : DeadlineLayout
deadline-layout = refl
