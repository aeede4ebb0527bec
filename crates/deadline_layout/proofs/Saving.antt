-- Writing the numbers of a deadline table entry by entry: after i of them, those of the entries that are left complete what is written.
-- Assumes nothing.
use Prim.Native.Nat.{ℕ, ◌+◌, ◌*◌, ◌≤◌, ◌<◌}
use mathlib.Core.Path.{◌≡◌, sym, ap, ◌∙◌}
use mathlib.Core.List.{List, ◌∷◌, ◌++◌, append-nil}
use native.Mathlib.Omega.{arith}
use lib.ListN.{length, get_or, take, drop, set, length-set}
use lib.Seq.{take_all}
use Rattle.model.proofs.Lists.{drop_at, drop_end}
use Rattle.layout.specs.Encodings.{header_length, header_numbers}
use Rattle.layout.proofs.Lists.{fill_at, fill_pair}
use Rattle.deadlines.specs.Types.{DeadlineProcess}
use Rattle.deadlines.specs.Types.{DeadlineState}
use Rattle.deadlines.specs.Deadlines.{stage_with, first_of, last_of}
use Rattle.deadline_layout.specs.Encodings.{deadline_stride, deadline_length, stage_place_with, deadline_numbers, state_numbers_with}
use Rattle.deadline_layout.specs.Places.{placed_with}

-- the numbers before the entries are written, and i entries: the numbers of those that are left complete them
pub record EntriesWritten (d : DeadlineState) (l : List ℕ) (i : ℕ) : Type 0 where
  pub most : i ≤ 96
  pub size : length d.processes ≡ 96
  pub long : length l ≡ deadline_length
  pub written : take (header_length + deadline_stride * i) l ++ deadline_numbers (drop i d.processes) ≡ state_numbers_with d

pub header_written : (d : DeadlineState) (l : List ℕ) → length d.processes ≡ 96 → length l ≡ deadline_length
    → take header_length l ≡ header_numbers d.parameters d.clock d.word → EntriesWritten d l 0
unfolding state_numbers_with
header_written d l size long e = record {
  most = omega arith;
  size = size;
  long = long;
  written = ap (λ (front : List ℕ). front ++ deadline_numbers d.processes) e;
}

-- three numbers more are stored
fill_three : {A : Type 0} (l : List A) (i : ℕ) (x y z : A) (rest : List A) → i + 2 < length l
    → take (i + 3) (set (set (set l i x) (i + 1) y) (i + 2) z) ++ rest ≡ take i l ++ x ∷ y ∷ z ∷ rest
fill_three l i x y z rest h =
    let e : i + 3 ≡ i + 2 + 1 = omega arith in
    let f : i + 2 ≡ i + 1 + 1 = omega arith in
    rw e (fill_at (set (set l i x) (i + 1) y) (i + 2) z rest (simp length-set h)
    ∙ ap (λ (k : ℕ). take k (set (set l i x) (i + 1) y) ++ z ∷ rest) f ∙ fill_pair l i x y (z ∷ rest) (omega arith))

module _ (d : DeadlineState) (l : List ℕ) (i : ℕ) (done : EntriesWritten d l i) where
  module _ (other : DeadlineProcess) (more : i < 96) where
    abbrev q : DeadlineProcess
    q = get_or d.processes i other

    -- entry i is the next one of what is left
    next_numbers : deadline_numbers (drop i d.processes)
        ≡ stage_with q.location ∷ first_of q.location ∷ last_of q.location ∷ deadline_numbers (drop (i + 1) d.processes)
    unfolding deadline_numbers
    next_numbers = rw (drop_at d.processes i other (omega (arith, done.size)))

    -- its numbers are stored
    pub entry_written : EntriesWritten d (placed_with l i q.location) (i + 1)
    entry_written =
        let e : header_length + deadline_stride * (i + 1) ≡ stage_place_with i + 3 = omega arith in
        record {
          most = omega arith;
          size = done.size;
          long = simp length-set done.long;
          written =
              rw e (fill_three l (stage_place_with i) (stage_with q.location) (first_of q.location) (last_of q.location)
              (deadline_numbers (drop (i + 1) d.processes)) (omega (arith, done.long)))
              ∙ rw next_numbers at done.written;
        }

  -- nothing is left after 96 entries
  pub all_written : 96 ≤ i → l ≡ state_numbers_with d
  unfolding deadline_numbers
  all_written all =
      sym (take_all (header_length + deadline_stride * i) l (omega (arith, done.long))) ∙ sym (append-nil (take (header_length + deadline_stride * i) l))
      ∙ rw (drop_end d.processes i (omega (arith, done.size)) (omega (arith, done.size, done.most))) at done.written
