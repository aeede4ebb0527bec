-- The places of a lent board as rows of three numbers: what stands in a row is the entry there. Assumes nothing.
use Prim.Native.Nat.{ℕ, zero, suc, ◌+◌, ◌-◌, ◌*◌, ◌/◌, ◌≤◌, ◌<◌}
use mathlib.Core.Path.{◌≡◌, refl, ap, ◌∙◌}
use mathlib.Core.List.{List, [], ◌∷◌}
use native.Mathlib.Omega.{arith}
use lib.ListN.{length, get_or, take, drop, length-drop}
use lib.Seq.{get_or-take, get_or-drop}
use Rattle.std.proofs.lemmas.List.{drop-drop, take_all}
use Rattle.std.specs.Simd.{first_chunks}
use Rattle.model.proofs.Lists.{drop_at, drop_end}
use Rattle.recent.specs.Boards.{Entry, entry_with, most_kept}
use Rattle.recent.specs.Encodings.{board_header, entry_length, board_length, entry_index, entry_at, entries_from}
use Rattle.recent.specs.Looking.{rows_of, entries_in}

-- Rows one by one

-- the entry in a row
abbrev pub entry_in : List ℕ → Entry
entry_in row = entry_with (get_or row 0 0) (get_or row 1 0) (get_or row 2 0)

pub rows_at : (rows : List (List ℕ)) (i : ℕ) (d : List ℕ) → i < length rows
    → entries_in (drop i rows) ≡ entry_in (get_or rows i d) ∷ entries_in (drop (i + 1) rows)
rows_at rows i d h = ap entries_in (drop_at rows i d h)

pub rows_end : (rows : List (List ℕ)) (i : ℕ) → length rows ≤ i → i ≤ length rows → entries_in (drop i rows) ≡ []
rows_end rows i h g = ap entries_in (drop_end rows i h g)

-- The rows of a board

length_chunks : (m : ℕ) (xs : List ℕ) → length (first_chunks entry_length m xs) ≡ m
length_chunks zero xs = refl
length_chunks (suc m) xs = ap suc (length_chunks m (drop entry_length xs))

chunk_at : (m k : ℕ) (xs : List ℕ) → k < m → get_or (first_chunks entry_length m xs) k [] ≡ take entry_length (drop (entry_length * k) xs)
chunk_at zero k xs h = absurd (omega arith)
chunk_at (suc m) zero xs h = refl
chunk_at (suc m) (suc k) xs h =
    chunk_at m k (drop entry_length xs) (omega arith)
    ∙ ap (take entry_length) (drop-drop (entry_length * k) entry_length xs ∙ ap (λ (n : ℕ). drop n xs) (omega arith))

module _ (l : List ℕ) where
  pub rows_count : length (rows_of l) ≡ most_kept
  unfolding rows_of
  rows_count = length_chunks most_kept (drop board_header l)

  -- the numbers of row k
  row_number : (k j : ℕ) → k < most_kept → j < entry_length → get_or (get_or (rows_of l) k []) j 0 ≡ get_or l (entry_index k + j) 0
  unfolding rows_of
  row_number k j h g =
      ap (λ (row : List ℕ). get_or row j 0) (chunk_at most_kept k (drop board_header l) h)
      ∙ get_or-take entry_length (drop (entry_length * k) (drop board_header l)) j 0 g
      ∙ get_or-drop (entry_length * k) (drop board_header l) j 0
      ∙ get_or-drop board_header l (entry_length * k + j) 0
      ∙ ap (λ (n : ℕ). get_or l n 0) (omega arith)

  row_time : (k : ℕ) → k < most_kept → get_or (get_or (rows_of l) k []) 0 0 ≡ (entry_at l k).time
  row_time k h = row_number k 0 h (omega arith) ∙ ap (λ (n : ℕ). get_or l n 0) (omega arith)

  row_entry : (k : ℕ) → k < most_kept → entry_in (get_or (rows_of l) k []) ≡ entry_at l k
  row_entry k h = rw (row_time k h, row_number k 1 h (omega arith), row_number k 2 h (omega arith)) refl

  pub rows_entries : (k n : ℕ) → k + n ≤ most_kept → entries_in (take n (drop k (rows_of l))) ≡ entries_from l k n
  unfolding entries_from
  rows_entries k zero h = refl
  rows_entries k (suc n) h =
      let inside : k < length (rows_of l) = omega (arith, rows_count) in
      rw (drop_at (rows_of l) k [] inside, row_entry k (omega arith), rows_entries (k + 1) n (omega arith)) refl

  -- up to the last
  pub rows_past : (k : ℕ) → k ≤ most_kept → entries_in (take (length (rows_of l) - k) (drop k (rows_of l))) ≡ entries_from l k (most_kept - k)
  rows_past k h =
      let left : length (rows_of l) - k ≡ most_kept - k = omega (arith, rows_count) in
      ap (λ (n : ℕ). entries_in (take n (drop k (rows_of l)))) left ∙ rows_entries k (most_kept - k) (omega arith)

  -- from the first on
  pub rows_first : (n : ℕ) → n ≤ most_kept → entries_in (take n (rows_of l)) ≡ entries_from l 0 n
  rows_first n h = rows_entries 0 n (omega arith)

  -- as they are lent
  pub lent_rows : (rows : List (List ℕ)) → length l ≡ board_length
      → let part = take (entry_length * most_kept) (drop board_header l) in rows ≡ first_chunks entry_length (length part / entry_length) part
      → rows ≡ rows_of l
  unfolding rows_of
  lent_rows rows long e =
      let part = take (entry_length * most_kept) (drop board_header l) in
      let left : length (drop board_header l) ≡ entry_length * most_kept = omega (arith, length-drop board_header l) in
      let same : part ≡ drop board_header l = take_all (entry_length * most_kept) (drop board_header l) (omega (arith, left)) in
      let many : length part / entry_length ≡ most_kept = ap (λ (m : List ℕ). length m / entry_length) same ∙ ap (λ (j : ℕ). j / entry_length) left in
      e ∙ ap (first_chunks entry_length (length part / entry_length)) same ∙ ap (λ (j : ℕ). first_chunks entry_length j (drop board_header l)) many

  -- the time in row k, as they are lent
  pub time_at : (rows : List (List ℕ)) (k : ℕ) → rows ≡ rows_of l → k < most_kept → get_or (get_or rows k []) 0 0 ≡ (entry_at l k).time
  time_at rows k e h = ap (λ (r : List (List ℕ)). get_or (get_or r k []) 0 0) e ∙ row_time k h
