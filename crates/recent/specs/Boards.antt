-- Section 10 of the specification, up to its lists: a board of recent entries, which of them count, and the three calls on it, one condition a
-- line. Assumes nothing.
use Rattle.std.specs.Prelude.{ℕ, ◌+◌, max, Bool, true, cond, not, ◌&&◌, List, [], ◌∷◌, ◌++◌, length, leb, ltb, eqb}
use Rattle.model.specs.declared.Answer.{Answer}
use Rattle.model.specs.Answers.{answer_of, beyond}

-- [10.10] that a process was let in
pub record Entry : Type 0 where
  pub time : ℕ
  pub process : ℕ
  pub wait : ℕ

-- helper: of its parts
abbrev pub entry_with : ℕ → ℕ → ℕ → Entry
entry_with time process wait = record { time = time; process = process; wait = wait }

-- [10.10] the width W, the last time that the board was told, and the entries that it keeps
pub record Board : Type 0 where
  pub width : ℕ
  pub last : ℕ
  pub kept : List Entry

-- helper: of its parts
abbrev pub board_of : ℕ → ℕ → List Entry → Board
board_of width last kept = record { width = width; last = last; kept = kept }

-- Which boards are sound

-- [10.20]
abbrev pub most_width : ℕ
most_width = 1_000_000_000

-- [10.20]
abbrev pub width_stands : ℕ → Bool
width_stands w = leb 1 w && leb w most_width

-- [10.30] the entries that there is room for
abbrev pub most_kept : ℕ
most_kept = 1_024

-- [10.30] no entry is before the one ahead of it, nor the first before t
unfoldable pub in_order : ℕ → List Entry → Bool
in_order t [] = true
in_order t (e ∷ es) = leb t e.time && in_order e.time es

-- [10.30] no entry is past t
unfoldable pub none_after : ℕ → List Entry → Bool
none_after t [] = true
none_after t (e ∷ es) = leb e.time t && none_after t es

-- [10.30] [10.35]
unfoldable pub board_sound : Board → Bool
board_sound b =
    width_stands b.width && leb (length b.kept) most_kept && in_order 0 b.kept && none_after b.last b.kept

-- The figures

-- [10.40] the sum is that of numbers without an end
abbrev pub counts : ℕ → ℕ → Entry → Bool
counts w clock e = ltb clock (e.time + w)

-- [10.50] how many of these entries count
unfoldable pub how_many : ℕ → ℕ → List Entry → ℕ
how_many w clock [] = 0
how_many w clock (e ∷ es) = cond (counts w clock e) (how_many w clock es + 1) (how_many w clock es)

-- [10.50] the longest wait among those that count, 0 where there is none
unfoldable pub longest_at : ℕ → ℕ → List Entry → ℕ
longest_at w clock [] = 0
longest_at w clock (e ∷ es) = cond (counts w clock e) (max e.wait (longest_at w clock es)) (longest_at w clock es)

-- [10.50] [4.70] the two as the answer of a success
abbrev pub figures_at : ℕ → ℕ → List Entry → Answer
figures_at w clock es = answer_of 0 (how_many w clock es) (longest_at w clock es)

-- [10.55] the entries that count, in the same order
unfoldable pub counting_at : ℕ → ℕ → List Entry → List Entry
counting_at w clock [] = []
counting_at w clock (e ∷ es) = cond (counts w clock e) (e ∷ counting_at w clock es) (counting_at w clock es)

-- The calls

-- helper: the answer of a call, and the board after it
pub record BoardOutcome : Type 0 where
  pub answer : Answer
  pub board : Board

-- helper: of its parts
abbrev pub outcome_with : Answer → Board → BoardOutcome
outcome_with r b = record { answer = r; board = b }

-- [10.60] [10.65] [4.17] [4.70]
unfoldable pub set_up_of : ℕ → BoardOutcome
set_up_of w = cond (width_stands w) (outcome_with (answer_of 0 0 0) (board_of w 0 [])) (outcome_with (answer_of 17 0 0) (board_of 0 0 []))

-- [10.55] [10.70] [10.80] at the time t what has expired is dropped, and the entries `new` come after the rest: an entry that is told counts
-- at its own time, as W is not 0; the board has been told t
abbrev pub keeps : Board → ℕ → List Entry → BoardOutcome
keeps b t new = outcome_with (figures_at b.width t (b.kept ++ new)) (board_of b.width t (counting_at b.width t b.kept ++ new))

-- [10.90] [4.2] [4.4] [4.5] what a call at the time t is refused with first; `after` is what comes of it otherwise
abbrev pub unless_barred : Board → ℕ → BoardOutcome → BoardOutcome
unless_barred b t after =
    cond (not (board_sound b)) (outcome_with (answer_of 2 0 0) b)
    (cond (ltb t b.last) (outcome_with (answer_of 4 0 b.last) b)
    (cond (beyond t) (outcome_with (answer_of 5 0 0) b)
    after))

-- [4.7] [10.90] the process of an entry that is told
abbrev pub is_process : ℕ → Bool
is_process p = leb 1 p && leb p 96

-- [10.70] [10.90] [4.18] what has expired at the time t gives up its place first
unfoldable pub add_of : Board → ℕ → ℕ → ℕ → BoardOutcome
add_of b t p wait =
    unless_barred b t
    (cond (not (is_process p)) (outcome_with (answer_of 7 0 0) b)
    (cond (eqb (how_many b.width t b.kept) most_kept) (outcome_with (answer_of 18 0 0) b)
    (keeps b t (entry_with t p wait ∷ []))))

-- [10.80] [10.90]
unfoldable pub show_of : Board → ℕ → BoardOutcome
show_of b clock = unless_barred b clock (keeps b clock [])
