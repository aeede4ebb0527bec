-- Writing the numbers of a table: those before the entries, and then entry by entry; after i of them, those of the entries that are left
-- complete what is written. Assumes nothing.
use Rattle.std.proofs.Common.{◌≡◌, ℕ, ◌+◌, ◌*◌, ◌<◌, ◌≤◌, List, [], ◌∷◌, ◌++◌, length, get_or, take, drop, set, sym, ap, ◌∙◌, append-nil}
use Rattle.std.proofs.Common.{arith, length-append, length-drop, length-set, length-take-le, take_all, take_at, le-ltb}
use lib.Seq.{sets-eq}
use Rattle.model.specs.Types.{Process}
use Rattle.model.specs.declared.Parameters.{Parameters}
use Rattle.model.specs.Types.{State}
use Rattle.model.specs.States.{stage_of, since_of}
use Rattle.layout.specs.Encodings.{count_place, b_place, c_place, clock_place, word_place, limits_place, header_length, stride, table_length, header_put}
use Rattle.layout.specs.Encodings.{process_numbers, header_numbers, state_numbers}
use Rattle.model.proofs.Lists.{drop_at, drop_end}
use Rattle.layout.specs.Places.{placed_at}
use Rattle.layout.proofs.Lists.{fill_pair}
use Rattle.layout.proofs.Numbers.{header_long}

-- the numbers before the entries are written, and i entries: the numbers of those that are left complete them
pub record EntriesWritten (s : State) (l : List ℕ) (i : ℕ) : Type 0 where
  pub most : i ≤ 96
  pub size : length s.processes ≡ 96
  pub long : length l ≡ table_length
  pub written : take (header_length + stride * i) l ++ process_numbers (drop i s.processes) ≡ state_numbers s

-- What stands before the entries, as it is stored

module _ (l : List ℕ) (k : Parameters) (size : length k.a ≡ 96) (clock word : ℕ) (fits : header_length ≤ length l) where
  put_is : header_put l k clock word ≡ header_numbers k clock word ++ drop header_length l
  put_is = rw (le-ltb (length l) header_length fits) (ap (λ (j : ℕ). header_numbers k clock word ++ drop j l) (header_long k size clock word))

  -- five numbers before the values of a, over those that stand there
  abbrev five : List ℕ → List ℕ
  five h = set (set (set (set (set h count_place k.n) b_place k.b) c_place k.c) clock_place clock) word_place word

  pub header_stored : {h new : List ℕ} → h ≡ take header_length l → new ≡ k.a
      → (take limits_place (five h) ++ (new ++ drop 96 (drop limits_place (five h)))) ++ drop header_length l ≡ header_put l k clock word
  header_stored {h} {new} first own =
      let long : length h ≡ header_length = ap length first ∙ length-take-le header_length l fits in
      let five_is : five h ≡ k.n ∷ k.b ∷ k.c ∷ clock ∷ word ∷ drop limits_place h =
      sets-eq (k.n ∷ k.b ∷ k.c ∷ clock ∷ word ∷ []) h 0 (omega arith) in
      let none : drop 96 (drop limits_place h) ≡ [] =
      drop_end (drop limits_place h) 96 (omega (arith, length-drop limits_place h)) (omega (arith, length-drop limits_place h)) in
      (λ i. (take limits_place (five_is i) ++ (own i ++ drop 96 (drop limits_place (five_is i)))) ++ drop header_length l)
      ∙ rw (none, append-nil k.a) (sym put_is)

  pub header-put : take header_length (header_put l k clock word) ≡ header_numbers k clock word
  header-put = ap (take header_length) put_is ∙ take_at (header_numbers k clock word) (drop header_length l) header_length (header_long k size clock word)

  pub put_long : length (header_put l k clock word) ≡ length l
  put_long =
      ap length put_is ∙ length-append (header_numbers k clock word) (drop header_length l)
      ∙ omega (arith, header_long k size clock word, length-drop header_length l)

pub header_written : (s : State) (l : List ℕ) → length s.processes ≡ 96 → length l ≡ table_length
    → take header_length l ≡ header_numbers s.parameters s.clock s.word → EntriesWritten s l 0
unfolding state_numbers
header_written s l size long e = record {
  most = omega arith;
  size = size;
  long = long;
  written = ap (λ (front : List ℕ). front ++ process_numbers s.processes) e;
}

module _ (s : State) (l : List ℕ) (i : ℕ) (done : EntriesWritten s l i) where
  module _ (d : Process) (more : i < 96) where
    abbrev q : Process
    q = get_or s.processes i d

    -- entry i is the next one of what is left
    next_numbers : process_numbers (drop i s.processes)
        ≡ stage_of q.location ∷ since_of q.location ∷ process_numbers (drop (i + 1) s.processes)
    unfolding process_numbers
    next_numbers = rw (drop_at s.processes i d (omega (arith, done.size)))

    -- its numbers are stored
    pub entry_written : EntriesWritten s (placed_at l i q.location) (i + 1)
    entry_written =
        let e : header_length + stride * (i + 1) ≡ header_length + stride * i + 1 + 1 = omega arith in
        record {
          most = omega arith;
          size = done.size;
          long = simp length-set done.long;
          written =
              rw e (fill_pair l (header_length + stride * i) (stage_of q.location) (since_of q.location)
              (process_numbers (drop (i + 1) s.processes)) (omega (arith, done.long)))
              ∙ rw next_numbers at done.written;
        }

  -- nothing is left after 96 entries
  pub all_written : 96 ≤ i → l ≡ state_numbers s
  unfolding process_numbers
  all_written all =
      sym (take_all (header_length + stride * i) l (omega (arith, done.long))) ∙ sym (append-nil (take (header_length + stride * i) l))
      ∙ rw (drop_end s.processes i (omega (arith, done.size)) (omega (arith, done.size, done.most))) at done.written
