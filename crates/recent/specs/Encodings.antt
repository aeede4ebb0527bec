-- Section 10 of the specification, its numbers: a board as a ring of places in a list of numbers, and what the calls on such a list give back,
-- every number included. Assumes nothing.
use Rattle.std.specs.Prelude.{ℕ, zero, suc, ◌+◌, ◌*◌, ◌-◌, min, Bool, cond, not, ◌&&◌, List, [], ◌∷◌, ◌++◌, length, get_or, set, leb, ltb, eqb}
use Rattle.model.specs.declared.Answer.{Answer}
use Rattle.model.specs.Answers.{answer_of}
use Rattle.model.specs.Readings.{over}
use Rattle.recent.specs.Boards.{Entry, entry_with, Board, board_of, width_stands, most_kept, how_many, set_up_of, add_of, show_of}

-- Where what stands

-- [10.110] the width
abbrev pub width_index : ℕ
width_index = 0

-- [10.110] the last time told
abbrev pub last_index : ℕ
last_index = 1

-- [10.110] the place of the first entry that is kept
abbrev pub first_index : ℕ
first_index = 2

-- [10.110] how many entries are kept
abbrev pub count_index : ℕ
count_index = 3

-- [10.110] the numbers before the places
abbrev pub board_header : ℕ
board_header = 4

-- [10.110] the numbers of an entry
abbrev pub entry_length : ℕ
entry_length = 3

-- [10.110] the numbers of a board
abbrev pub board_length : ℕ
board_length = board_header + entry_length * most_kept

-- [10.110] where the numbers of place k begin
abbrev pub entry_index : ℕ → ℕ
entry_index k = board_header + entry_length * k

-- [10.115] after the last place comes place 0; of places that are less than twice around
unfoldable pub wrapped : ℕ → ℕ
wrapped k = cond (ltb k most_kept) k (k - most_kept)

-- The board that numbers tell

-- [10.110] the entry at place k
abbrev pub entry_at : List ℕ → ℕ → Entry
entry_at l k = entry_with (get_or l (entry_index k) 0) (get_or l (entry_index k + 1) 0) (get_or l (entry_index k + 2) 0)

-- [10.115] the n entries from place k on, where the places do not end
unfoldable pub entries_from : List ℕ → ℕ → ℕ → List Entry
entries_from l k zero = []
entries_from l k (suc n) = entry_at l k ∷ entries_from l (k + 1) n

-- [10.115] the n entries from place k on, around the end
unfoldable pub ring_from : List ℕ → ℕ → ℕ → List Entry
ring_from l k n = entries_from l k (min n (most_kept - k)) ++ entries_from l 0 (n - (most_kept - k))

-- [10.110]
unfoldable pub board_in : List ℕ → Board
board_in l = board_of (get_or l width_index 0) (get_or l last_index 0) (ring_from l (get_or l first_index 0) (get_or l count_index 0))

-- [10.120] a list that starts with the numbers of a board
unfoldable pub is_board : List ℕ → Bool
is_board l = leb board_length (length l) && ltb (get_or l first_index 0) most_kept

-- Calls on a lent board: the answer, and its numbers

-- helper: both as one
pub record LentBoard : Type 0 where
  pub answer : Answer
  pub board : List ℕ

-- helper: from its parts
abbrev pub board_gave : Answer → List ℕ → LentBoard
board_gave r board = record { answer = r; board = board }

-- [10.130] an empty board of width w: nothing but the header is written
abbrev pub emptied : ℕ → List ℕ → List ℕ
emptied w board = over (w ∷ 0 ∷ 0 ∷ 0 ∷ []) board

-- [10.130] [4.16] [4.17] [9.120] `set_up`: too short a list stays, and 16 comes last; otherwise the header is that of the board, one that no call
-- accepts with 17
unfoldable pub lent_set_up : ℕ → List ℕ → LentBoard
lent_set_up w board =
    cond (not (leb board_length (length board))) (board_gave (cond (width_stands w) (answer_of 16 0 0) (answer_of 17 0 0)) board)
    (board_gave (set_up_of w).answer (emptied (set_up_of w).board.width board))

-- [10.50] how many of the kept entries count at the time t
abbrev pub still_at : List ℕ → ℕ → ℕ
still_at l t = how_many (board_in l).width t (board_in l).kept

-- [10.140] the place of the first kept entry that counts at the time t; if none does, that after the last kept entry
abbrev pub first_at : List ℕ → ℕ → ℕ
first_at l t = wrapped (get_or l first_index 0 + (get_or l count_index 0 - still_at l t))

-- [10.140] the place after that of the last kept entry
abbrev pub next_at : List ℕ → ℕ
next_at l = wrapped (get_or l first_index 0 + get_or l count_index 0)

-- [10.140] the header after the time t was told, with n entries kept from place k on
abbrev pub headed : List ℕ → ℕ → ℕ → ℕ → List ℕ
headed l t k n = set (set (set l last_index t) first_index k) count_index n

-- [10.140] the entry e at place k
abbrev pub placed : List ℕ → ℕ → Entry → List ℕ
placed l k e = set (set (set l (entry_index k) e.time) (entry_index k + 1) e.process) (entry_index k + 2) e.wait

-- [10.140] the numbers after a showing that is accepted
abbrev pub shown : List ℕ → ℕ → List ℕ
shown l clock = headed l clock (first_at l clock) (still_at l clock)

-- [10.140] the numbers after an adding that is accepted
abbrev pub added : List ℕ → ℕ → ℕ → ℕ → List ℕ
added l t p wait =
    placed (headed l t (first_at l t) (still_at l t + 1)) (next_at l) (entry_with t p wait)

-- [10.100] [10.120] the answer of a call on the board that the numbers tell; `after` are the numbers after it where it is accepted
abbrev pub on_numbers : List ℕ → Answer → List ℕ → LentBoard
on_numbers l r after =
    cond (not (is_board l)) (board_gave (answer_of 2 0 0) l)
    (cond (eqb r.code 0) (board_gave r after)
    (board_gave r l))

-- [10.70] [10.140] `add`
unfoldable pub lent_add : List ℕ → ℕ → ℕ → ℕ → LentBoard
lent_add l t p wait = on_numbers l (add_of (board_in l) t p wait).answer (added l t p wait)

-- [10.80] [10.140] `show`
unfoldable pub lent_show : List ℕ → ℕ → LentBoard
lent_show l clock = on_numbers l (show_of (board_in l) clock).answer (shown l clock)
