-- Section 10 of the specification from a second side: a sound board, each refusal and each success in plain facts, and what becomes of the
-- numbers of a lent board. Assumes nothing.
use Rattle.std.specs.Prelude.{ℕ, ◌+◌, ◌*◌, ◌≤◌, ◌<◌, ◌≡◌, ◌≢◌, ◌↔◌, true, false, List, [], ◌∷◌, ◌++◌, length, get_or}
use Rattle.model.specs.States.{last_time}
use Rattle.model.specs.Answers.{answer_of}
use Rattle.layout.specs.Layouts.{layout}
use Rattle.recent.specs.Boards.{Entry, entry_with, Board, board_of, most_width, most_kept, board_sound, set_up_of, add_of, show_of}
use Rattle.recent.specs.Encodings.{last_index, first_index, count_index, board_header, entry_index, board_length, next_at}
use Rattle.recent.specs.Encodings.{is_board, board_in, board_gave, lent_set_up, lent_add, lent_show}

-- A sound board

-- [10.30] e stands in a list, with n entries ahead of it
pub data IsAt (e : Entry) : ℕ → List Entry → Type 0 where
  here : {es : List Entry} → IsAt e 0 (e ∷ es)
  later : {n : ℕ} {d : Entry} {es : List Entry} → IsAt e n es → IsAt e (n + 1) (d ∷ es)

-- [10.20]
pub record WidthStands (w : ℕ) : Type 0 where
  pub least : 1 ≤ w
  pub most : w ≤ most_width

-- [10.30] [10.35]
pub record SoundBoard (b : Board) : Type 0 where
  pub width : WidthStands b.width
  pub room : length b.kept ≤ most_kept
  pub ordered : (d e : Entry) (i j : ℕ) → IsAt d i b.kept → IsAt e j b.kept → i ≤ j → d.time ≤ e.time
  pub not_after : (e : Entry) (i : ℕ) → IsAt e i b.kept → e.time ≤ b.last

-- [10.30]
abbrev pub BoardSoundIffPlain : Type 0
BoardSoundIffPlain = (b : Board) → (board_sound b ≡ true) ↔ SoundBoard b

-- What is left after a call

-- [10.40] [10.50] [10.55] `left` are the entries of `kept` that count at the time t, in their order; `many` says how many they are, and `longest` is
-- the longest wait among them
pub data Left (w t : ℕ) : List Entry → List Entry → ℕ → ℕ → Type 0 where
  none : Left w t [] [] 0 0
  expired : {e : Entry} {kept left : List Entry} {many longest : ℕ} → e.time + w ≤ t → Left w t kept left many longest
      → Left w t (e ∷ kept) left many longest
  -- no wait behind it is longer
  longer : {e : Entry} {kept left : List Entry} {many longest : ℕ} → t < e.time + w → longest ≤ e.wait
      → Left w t kept left many longest → Left w t (e ∷ kept) (e ∷ left) (many + 1) e.wait
  shorter : {e : Entry} {kept left : List Entry} {many longest : ℕ} → t < e.time + w → e.wait < longest
      → Left w t kept left many longest → Left w t (e ∷ kept) (e ∷ left) (many + 1) longest

-- [10.90] neither 2 nor 4 nor 5
pub record InTime (b : Board) (t : ℕ) : Type 0 where
  pub sound : SoundBoard b
  pub forward : b.last ≤ t
  pub within : t ≤ last_time

-- [4.7] [10.90]
pub record IsProcess (p : ℕ) : Type 0 where
  pub some : 1 ≤ p
  pub most : p ≤ 96

-- The answers, with what a success leaves

-- [10.90] a call at the time t is refused with this code, process and time, whatever else it is handed
pub data Barred (b : Board) (t : ℕ) : ℕ → ℕ → ℕ → Type 0 where
  -- [4.2]
  unsound : (SoundBoard b → ⊥) → Barred b t 2 0 0
  -- [4.4]
  backward : SoundBoard b → t < b.last → Barred b t 4 0 b.last
  -- [4.5]
  beyond : SoundBoard b → b.last ≤ t → last_time < t → Barred b t 5 0 0

-- [10.70] [10.90] [10.100] an adding gives back this answer and this board
pub data Adds (b : Board) (t p wait : ℕ) : ℕ → ℕ → ℕ → Board → Type 0 where
  barred : {code process time : ℕ} → Barred b t code process time → Adds b t p wait code process time b
  -- [4.7]
  misnamed : InTime b t → (IsProcess p → ⊥) → Adds b t p wait 7 0 0 b
  -- [4.18]
  full : (left : List Entry) (longest : ℕ) → InTime b t → IsProcess p → Left b.width t b.kept left most_kept longest
      → Adds b t p wait 18 0 0 b
  -- [10.70]
  added : (left : List Entry) (many longest : ℕ) → InTime b t → IsProcess p → many < most_kept
      → Left b.width t (b.kept ++ (entry_with t p wait ∷ [])) (left ++ (entry_with t p wait ∷ [])) (many + 1) longest
      → Adds b t p wait 0 (many + 1) longest (board_of b.width t (left ++ (entry_with t p wait ∷ [])))

-- [10.80] [10.90] [10.100] a showing gives back this answer and this board
pub data Shows (b : Board) (t : ℕ) : ℕ → ℕ → ℕ → Board → Type 0 where
  barred : {code process time : ℕ} → Barred b t code process time → Shows b t code process time b
  -- [10.80]
  shown : (left : List Entry) (many longest : ℕ) → InTime b t → Left b.width t b.kept left many longest
      → Shows b t 0 many longest (board_of b.width t left)

-- [10.70] [10.90] of any board, sound or not
abbrev pub AddedIffAdds : Type 0
AddedIffAdds = (b : Board) (t p wait code process time : ℕ) (after : Board)
    → (((add_of b t p wait).answer ≡ answer_of code process time) × ((add_of b t p wait).board ≡ after))
    ↔ Adds b t p wait code process time after

-- [10.80] [10.90]
abbrev pub ShownIffShows : Type 0
ShownIffShows = (b : Board) (t code process time : ℕ) (after : Board)
    → (((show_of b t).answer ≡ answer_of code process time) × ((show_of b t).board ≡ after)) ↔ Shows b t code process time after

-- [10.60] [10.65] setting up
pub record SetUp (w : ℕ) : Type 0 where
  pub accepted : ((set_up_of w).answer.code ≡ 0) ↔ WidthStands w
  pub answer : (set_up_of w).answer.code ≡ 0 → (set_up_of w).answer ≡ answer_of 0 0 0
  pub board : (set_up_of w).answer.code ≡ 0 → (set_up_of w).board ≡ board_of w 0 []
  pub refused : (set_up_of w).answer.code ≢ 0 → (set_up_of w).answer ≡ answer_of 17 0 0
  pub no-board : (set_up_of w).answer.code ≢ 0 → (set_up_of w).board ≡ board_of 0 0 []
  pub unsound : (set_up_of w).answer.code ≢ 0 → SoundBoard (set_up_of w).board → ⊥

-- [10.60] [10.65]
abbrev pub EverySetUp : Type 0
EverySetUp = (w : ℕ) → SetUp w

-- [10.145] what is sound stays sound
pub record BoardStaysSound : Type 0 where
  pub set-up : (w : ℕ) → (set_up_of w).answer.code ≡ 0 → SoundBoard (set_up_of w).board
  pub add : (b : Board) (t p wait : ℕ) → SoundBoard b → SoundBoard (add_of b t p wait).board
  pub show : (b : Board) (t : ℕ) → SoundBoard b → SoundBoard (show_of b t).board

-- Lent numbers

-- [9.15] the layout of the number is that of boards too
abbrev pub BoardLayout : Type 0
BoardLayout = layout.board ≡ board_length

-- [10.110] [10.120] when a list tells a board
abbrev pub BoardToldIff : Type 0
BoardToldIff = (l : List ℕ) → (is_board l ≡ true) ↔ ((3_076 ≤ length l) × (get_or l 2 0 < 1_024))

-- [10.110] [10.115] the board that it tells: W, the last time told, and as many entries as the fourth number says, the entry i of them at the
-- place k that is i after the first, around the end
pub record RingIsPlain (l : List ℕ) : Type 0 where
  pub width : (board_in l).width ≡ get_or l 0 0
  pub last : (board_in l).last ≡ get_or l 1 0
  pub count : length (board_in l).kept ≡ get_or l 3 0
  pub before_the_end : (i k : ℕ) → i < get_or l 3 0 → k ≡ get_or l 2 0 + i → k < 1_024
      → IsAt (entry_with (get_or l (4 + 3 * k) 0) (get_or l (4 + 3 * k + 1) 0) (get_or l (4 + 3 * k + 2) 0)) i (board_in l).kept
  pub around_the_end : (i k : ℕ) → i < get_or l 3 0 → k + 1_024 ≡ get_or l 2 0 + i
      → IsAt (entry_with (get_or l (4 + 3 * k) 0) (get_or l (4 + 3 * k + 1) 0) (get_or l (4 + 3 * k + 2) 0)) i (board_in l).kept

-- [10.110] [10.115]
abbrev pub EveryRing : Type 0
EveryRing = (l : List ℕ) → is_board l ≡ true → RingIsPlain l

-- [10.120] a list that tells no board
pub record NoBoard : Type 0 where
  pub add : (l : List ℕ) (t p wait : ℕ) → is_board l ≡ false → lent_add l t p wait ≡ board_gave (answer_of 2 0 0) l
  pub show : (l : List ℕ) (t : ℕ) → is_board l ≡ false → lent_show l t ≡ board_gave (answer_of 2 0 0) l

-- [10.130] [4.16] [4.17] the answers of setting up on a list
pub record LentSetUps : Type 0 where
  pub accepted : (w : ℕ) (l : List ℕ) → ((lent_set_up w l).answer.code ≡ 0) ↔ (WidthStands w × (board_length ≤ length l))
  pub no_width : (w : ℕ) (l : List ℕ) → (WidthStands w → ⊥) → (lent_set_up w l).answer ≡ answer_of 17 0 0
  pub short : (w : ℕ) (l : List ℕ) → WidthStands w → length l < board_length → (lent_set_up w l).answer ≡ answer_of 16 0 0
  pub first : (w : ℕ) (l : List ℕ) → board_length ≤ length l → get_or (lent_set_up w l).board 2 0 ≡ 0

-- [10.130] [10.140] [10.145] on a list that tells a board a call gives back the answer of the call on that board, and the list then tells
-- the board of that call
pub record NumbersFollow : Type 0 where
  pub add : (l : List ℕ) (t p wait : ℕ) → is_board l ≡ true
      → ((lent_add l t p wait).answer ≡ (add_of (board_in l) t p wait).answer)
      × (board_in (lent_add l t p wait).board ≡ (add_of (board_in l) t p wait).board) × (is_board (lent_add l t p wait).board ≡ true)
  pub show : (l : List ℕ) (t : ℕ) → is_board l ≡ true
      → ((lent_show l t).answer ≡ (show_of (board_in l) t).answer)
      × (board_in (lent_show l t).board ≡ (show_of (board_in l) t).board) × (is_board (lent_show l t).board ≡ true)
  pub set-up : (w : ℕ) (l : List ℕ) → board_length ≤ length l
      → ((lent_set_up w l).answer ≡ (set_up_of w).answer) × (board_in (lent_set_up w l).board ≡ (set_up_of w).board)
      × (is_board (lent_set_up w l).board ≡ true)

-- [10.100] [10.130] [4.110] [9.120] of setting up, where the list is too short
pub record RefusedBoardStays : Type 0 where
  pub add : (l : List ℕ) (t p wait : ℕ) → (lent_add l t p wait).answer.code ≢ 0 → (lent_add l t p wait).board ≡ l
  pub show : (l : List ℕ) (t : ℕ) → (lent_show l t).answer.code ≢ 0 → (lent_show l t).board ≡ l
  pub set-up : (w : ℕ) (l : List ℕ) → length l < board_length → (lent_set_up w l).board ≡ l

-- [10.140] i is none of the numbers of the header that a call writes
pub record NotHead (i : ℕ) : Type 0 where
  pub not_last : i ≢ last_index
  pub not_first : i ≢ first_index
  pub not_count : i ≢ count_index

-- [10.140] i is none of the three numbers of the entry at place k
pub record NotEntry (k i : ℕ) : Type 0 where
  pub not_time : i ≢ entry_index k
  pub not_process : i ≢ entry_index k + 1
  pub not_wait : i ≢ entry_index k + 2

-- [10.130] [10.140]
pub record BoardWritesItsOwn : Type 0 where
  pub add : (l : List ℕ) (t p wait i : ℕ) → NotHead i → NotEntry (next_at l) i → get_or (lent_add l t p wait).board i 0 ≡ get_or l i 0
  pub add_length : (l : List ℕ) (t p wait : ℕ) → length (lent_add l t p wait).board ≡ length l
  pub show : (l : List ℕ) (t i : ℕ) → NotHead i → get_or (lent_show l t).board i 0 ≡ get_or l i 0
  pub show_length : (l : List ℕ) (t : ℕ) → length (lent_show l t).board ≡ length l
  pub set-up : (w : ℕ) (l : List ℕ) (i : ℕ) → board_header ≤ i → get_or (lent_set_up w l).board i 0 ≡ get_or l i 0
  pub set_up_length : (w : ℕ) (l : List ℕ) → length (lent_set_up w l).board ≡ length l
