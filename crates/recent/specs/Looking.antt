-- What the functions that look through the kept entries ensure. For the proofs only. `proofs/` relates these definitions to the board.
-- Assumes nothing.
use Rattle.std.specs.Prelude.{ℕ, ◌+◌, ◌-◌, ◌≤◌, ◌<◌, max, ◌≡◌, true, false, cond, ◌&&◌, List, [], ◌∷◌, map, drop, Option, Some, None, ltb, get_or}
use Rattle.std.specs.Simd.{first_chunks}
use Rattle.model.specs.declared.Answer.{Answer}
use Rattle.model.specs.Answers.{answer_of, beyond}
use Rattle.recent.specs.declared.rings.Rest.{Rest}
use Rattle.recent.specs.declared.rings.Pass.{Pass}
use Rattle.recent.specs.declared.rings.Look.{Look}
use Rattle.recent.specs.Boards.{Entry, entry_with, width_stands, most_kept, board_sound, in_order, how_many, longest_at}
use Rattle.recent.specs.Encodings.{board_header, entry_length, width_index, first_index, count_index, wrapped}
use Rattle.recent.specs.Encodings.{entry_at, ring_from, board_in, is_board, still_at, first_at}

-- the time of the last of these entries, t where there is none
unfoldable pub latest : ℕ → List Entry → ℕ
latest t [] = t
latest t (e ∷ es) = latest e.time es

-- the longest wait of all, or `longest` if that is longer
unfoldable pub longest_over : ℕ → List Entry → ℕ
longest_over longest [] = longest
longest_over longest (e ∷ es) = longest_over (max longest e.wait) es

-- the places of a board, as rows of the numbers of an entry
unfoldable pub rows_of : List ℕ → List (List ℕ)
rows_of l = first_chunks entry_length most_kept (drop board_header l)

-- the entries in these rows of numbers
abbrev pub entries_in : List (List ℕ) → List Entry
entries_in rows = map (λ (row : List ℕ). entry_with (get_or row 0 0) (get_or row 1 0) (get_or row 2 0)) rows

-- entries whose figures at a clock are those of others
pub record SameFigures (w clock : ℕ) (es ds : List Entry) : Type 0 where
  pub many : how_many w clock es ≡ how_many w clock ds
  pub longest : longest_at w clock es ≡ longest_at w clock ds

-- of the n entries from place k on those ahead of place `first`, the last of them at `time`, are gone; `count` are left
pub record Resting (l : List ℕ) (k n since first count time : ℕ) : Type 0 where
  pub inside : first < most_kept
  pub fewer : count ≤ n
  pub first_is : first ≡ wrapped (k + (n - count))
  pub order : in_order 0 (ring_from l k n) ≡ in_order time (ring_from l first count)
  pub latest_is : latest 0 (ring_from l k n) ≡ latest time (ring_from l first count)
  pub figures : (w clock : ℕ) → clock + 1 - w ≡ since → SameFigures w clock (ring_from l k n) (ring_from l first count)

-- they are all that are before `since`
pub record Rested (l : List ℕ) (k n since : ℕ) (r : Rest) : Type 0 where
  pub resting : Resting l k n since r.first r.count r.time
  pub counts_first : 0 < r.count → since ≤ (entry_at l r.first).time

-- nothing where one of them is before the one ahead of it
abbrev pub Rests : List ℕ → ℕ → ℕ → ℕ → Option Rest → Type 0
Rests l k n since None = in_order 0 (ring_from l k n) ≡ false
Rests l k n since (Some r) = Rested l k n since r

-- a pass over these entries, after what `pass` tells of those before them
pub record Passed (es : List Entry) (pass r : Pass) : Type 0 where
  pub order : in_order pass.time es ≡ true
  pub latest_is : r.time ≡ latest pass.time es
  pub longest_is : r.longest ≡ longest_over pass.longest es

-- nothing where one of them is before the one ahead of it, or the first before `pass`
abbrev pub Passes : List Entry → Pass → Option Pass → Type 0
Passes es pass None = in_order pass.time es ≡ false
Passes es pass (Some r) = Passed es pass r

-- the header of a list, but for the last time told
pub record HeaderStands (l : List ℕ) : Type 0 where
  pub width : width_stands (get_or l width_index 0) ≡ true
  pub inside : get_or l first_index 0 < most_kept
  pub room : get_or l count_index 0 ≤ most_kept

-- the whole look at a list of numbers, at a time
pub record Looked (l : List ℕ) (t : ℕ) (r : Look) : Type 0 where
  pub board : is_board l ≡ true
  pub sound : board_sound (board_in l) ≡ true
  pub first_is : r.first ≡ first_at l t
  pub count_is : r.count ≡ still_at l t
  pub longest_is : r.longest ≡ longest_at (board_in l).width t (board_in l).kept

-- nothing of numbers that tell no sound board
abbrev pub Looks : List ℕ → ℕ → Option Look → Type 0
Looks l t None = (is_board l && board_sound (board_in l)) ≡ false
Looks l t (Some r) = Looked l t r

-- the refusal of a time: 4 or 5, or none
abbrev pub untimely_of : ℕ → ℕ → Option Answer
untimely_of last t = cond (ltb t last) (Some (answer_of 4 0 last)) (cond (beyond t) (Some (answer_of 5 0 0)) None)
