-- The numbers of a lent board follow the board that they tell: after a call they tell the board of that call. Assumes nothing.
use Prim.Native.Nat.{ℕ, ◌+◌, ◌-◌, ◌≤◌, ◌<◌}
use mathlib.Core.Path.{◌≡◌, refl, sym, ap, ◌∙◌}
use mathlib.Core.Logic.{◌≢◌}
use mathlib.Core.Bool.{true}
use mathlib.Core.List.{List, [], ◌∷◌, ◌++◌, append-nil}
use native.Mathlib.Omega.{arith}
use lib.ListN.{length, get_or}
use lib.Seq.{get_or-set_same, get_or-set_other, lt-length-set}
use borrow.Author.Tests.{eq-eqb, ne_eqb, le-leb}
use Rattle.model.specs.declared.Answer.{Answer}
use Rattle.model.specs.Answers.{answer_of}
use Rattle.model.proofs.Tests.{by_cond}
use Rattle.recent.specs.Boards.{Entry, entry_with, board_of, most_kept, width_stands, counting_at}
use Rattle.recent.specs.Boards.{BoardOutcome, outcome_with, keeps, set_up_of, add_of, show_of}
use Rattle.recent.specs.Encodings.{width_index, last_index, first_index, count_index, board_length, wrapped, entry_at, ring_from, board_in, is_board}
use Rattle.recent.specs.Encodings.{LentBoard, board_gave, still_at, first_at, next_at, headed, placed, shown, added, on_numbers}
use Rattle.recent.specs.Encodings.{emptied, lent_set_up, lent_add, lent_show}
use Rattle.recent.specs.Facts.{NumbersFollow}
use Rattle.recent.proofs.Outcomes.{Came, show_came, add_came}
use Rattle.recent.proofs.Sights.{width_in, first_in, count_in, ring_in, SoundNumbers, sound_numbers}
use Rattle.recent.proofs.Calls.{still_most, first_inside, next_is}
use Rattle.recent.proofs.Standing.{board_told_iff}
use Rattle.recent.proofs.Expiry.{counting_last}
use Rattle.recent.proofs.Places.{wrapped_below, wrapped_apart, ring_length, ring_none, ring_same, ring_snoc, ring_drop}
use Rattle.recent.proofs.Writes.{headed_length, headed_other, headed_entry, emptied_length}
use Rattle.recent.proofs.Writes.{placed_length, placed_other, placed_elsewhere, placed_there}

-- A call on numbers

-- what is given back on numbers that tell a board, where r is what is given back on the board
record Agrees (r : BoardOutcome) (g : LentBoard) : Type 0 where
  answer : g.answer ≡ r.answer
  board : board_in g.board ≡ r.board
  tells : is_board g.board ≡ true

module _ (l after : List ℕ) (board : is_board l ≡ true) {Good : Type 0} {good : BoardOutcome} (fine : good.answer.code ≡ 0) where
  agrees : {r : BoardOutcome} → Came (board_in l) Good good r → (Good → (board_in after ≡ good.board) × (is_board after ≡ true))
      → Agrees r (on_numbers l r.answer after)
  agrees (Came.refused n) h = simp (board, ne_eqb _ _ n) (record { answer = refl; board = refl; tells = board })
  agrees (Came.accepted g) h = simp (board, eq-eqb _ _ fine) (record { answer = refl; board = (h g).0; tells = (h g).1 })

-- What the numbers of a written header tell

-- four numbers in front that tell a board
record Heads (l : List ℕ) (w t k n : ℕ) : Type 0 where
  fits : board_length ≤ length l
  width : get_or l width_index 0 ≡ w
  last : get_or l last_index 0 ≡ t
  first : get_or l first_index 0 ≡ k
  count : get_or l count_index 0 ≡ n

module _ {l : List ℕ} {w t k n : ℕ} (h : Heads l w t k n) where
  heads_board : k < most_kept → is_board l ≡ true
  heads_board b = (board_told_iff l).1 (h.fits, omega (arith, h.first))

  heads_in : board_in l ≡ board_of w t (ring_from l k n)
  unfolding board_in
  heads_in = rw (h.width, h.last, h.first, h.count)

  -- an entry is written behind them
  heads_placed : (j : ℕ) (e : Entry) → Heads (placed l j e) w t k n
  heads_placed j e = record {
    fits = omega (arith, h.fits, placed_length l j e);
    width = placed_other l j e width_index (omega arith) ∙ h.width;
    last = placed_other l j e last_index (omega arith) ∙ h.last;
    first = placed_other l j e first_index (omega arith) ∙ h.first;
    count = placed_other l j e count_index (omega arith) ∙ h.count;
  }

heads_headed : (l : List ℕ) (t k n : ℕ) → board_length ≤ length l → Heads (headed l t k n) (get_or l width_index 0) t k n
heads_headed l t k n fits =
    let a : last_index < length l = omega arith in
    let b : first_index < length l = omega arith in
    let c : count_index < length l = omega arith in
    let x : last_index ≢ count_index = λ e. omega arith in
    let y : last_index ≢ first_index = λ e. omega arith in
    let z : first_index ≢ count_index = λ e. omega arith in
    record {
      fits = omega (arith, headed_length l t k n);
      width = headed_other l t k n width_index (omega arith);
      last = simp (get_or-set_other, get_or-set_same);
      first = simp (get_or-set_other, get_or-set_same, lt-length-set);
      count = simp (get_or-set_same, lt-length-set);
    }

-- A board that is sound, and is told by numbers

module _ (l : List ℕ) (t : ℕ) (s : SoundNumbers l) where
  abbrev still : ℕ
  still = still_at l t

  still_fits : still ≤ most_kept
  still_fits = omega (arith, still_most l t, s.room)

  first_still : first_at l t < most_kept
  first_still = first_inside l t s

  next_fits : next_at l < most_kept
  next_fits = wrapped_below _ (omega (arith, s.inside, s.room))

  -- what counts is left, from its first place on
  rest_is : ring_from l (first_at l t) still ≡ counting_at (board_in l).width t (board_in l).kept
  unfolding board_in
  rest_is =
      let rest : count_in l - (count_in l - still) ≡ still = omega (arith, still_most l t) in
      sym
      (counting_last (width_in l) t 0 (ring_in l) s.parts.order
      ∙ rw (ring_length l (first_in l) (count_in l))
      (ring_drop l (first_in l) (count_in l) (count_in l - still) s.inside (omega arith) s.room)
      ∙ ap (ring_from l (first_at l t)) rest)

  -- the ring after a showing
  shown_ring : ring_from (shown l t) (first_at l t) still ≡ counting_at (board_in l).width t (board_in l).kept
  shown_ring =
      ring_same (shown l t) l (first_at l t) still first_still still_fits
      (λ i _. headed_entry l t (first_at l t) still (wrapped (first_at l t + i)))
      ∙ rest_is

  shown_heads : Heads (shown l t) (width_in l) t (first_at l t) still
  shown_heads = heads_headed l t (first_at l t) still s.fits

  shown_follows : (board_in (shown l t) ≡ (keeps (board_in l) t []).board) × (is_board (shown l t) ≡ true)
  unfolding board_in
  shown_follows = (
    heads_in shown_heads ∙ ap (board_of (get_or l width_index 0) t) (shown_ring ∙ sym (append-nil _)),
    heads_board shown_heads first_still,
  )

  -- with room for one more, the ring after an adding
  module _ (p wait : ℕ) (room : still ≢ most_kept) where
    abbrev header : List ℕ
    header = headed l t (first_at l t) (still + 1)

    abbrev entry : Entry
    entry = entry_with t p wait

    -- the new entry takes the place of none that counts
    added_same : (i : ℕ) → i < still → entry_at (added l t p wait) (wrapped (first_at l t + i)) ≡ entry_at l (wrapped (first_at l t + i))
    added_same i b =
        placed_elsewhere header (next_at l) entry (wrapped (first_at l t + i))
        (λ e. wrapped_apart (first_at l t) i still first_still b (omega (arith, still_fits)) (e ∙ sym (next_is l t s)))
        ∙ headed_entry l t (first_at l t) (still + 1) (wrapped (first_at l t + i))

    added_there : entry_at (added l t p wait) (next_at l) ≡ entry
    added_there = placed_there header (next_at l) entry (omega (arith, next_fits, s.fits, headed_length l t (first_at l t) (still + 1)))

    added_ring : ring_from (added l t p wait) (first_at l t) (still + 1) ≡ counting_at (board_in l).width t (board_in l).kept ++ (entry ∷ [])
    added_ring =
        let most : still + 1 ≤ most_kept = omega (arith, still_fits) in
        ring_snoc (added l t p wait) (first_at l t) still first_still most
        ∙ rw (next_is l t s, added_there, ring_same (added l t p wait) l (first_at l t) still first_still still_fits added_same, rest_is)

    added_heads : Heads (added l t p wait) (width_in l) t (first_at l t) (still + 1)
    added_heads = heads_placed (heads_headed l t (first_at l t) (still + 1) s.fits) (next_at l) entry

    added_follows : (board_in (added l t p wait) ≡ (keeps (board_in l) t (entry ∷ [])).board) × (is_board (added l t p wait) ≡ true)
    unfolding board_in
    added_follows = (
      heads_in added_heads ∙ ap (board_of (get_or l width_index 0) t) added_ring,
      heads_board added_heads first_still,
    )

-- The calls

show_agrees : (l : List ℕ) (t : ℕ) → is_board l ≡ true → Agrees (show_of (board_in l) t) (lent_show l t)
unfolding lent_show
show_agrees l t board =
    agrees l (shown l t) board refl (show_came (board_in l) t) (λ g. shown_follows l t (sound_numbers l board g.0))

add_agrees : (l : List ℕ) (t p wait : ℕ) → is_board l ≡ true → Agrees (add_of (board_in l) t p wait) (lent_add l t p wait)
unfolding lent_add
add_agrees l t p wait board =
    agrees l (added l t p wait) board refl (add_came (board_in l) t p wait) (λ g. added_follows l t (sound_numbers l board g.0) p wait g.1.room)

heads_emptied : (w : ℕ) (l : List ℕ) → board_length ≤ length l → Heads (emptied w l) w 0 0 0
heads_emptied w l fits = record {
  fits = omega (arith, emptied_length w l fits);
  width = refl;
  last = refl;
  first = refl;
  count = refl;
}

empty_agrees : (r : Answer) (w : ℕ) (l : List ℕ) → board_length ≤ length l → Agrees (outcome_with r (board_of w 0 [])) (board_gave r (emptied w l))
empty_agrees r w l fits = record {
  answer = refl;
  board = heads_in (heads_emptied w l fits) ∙ ap (board_of w 0) (ring_none (emptied w l) 0 (omega arith));
  tells = heads_board (heads_emptied w l fits) (omega arith);
}

set_up_agrees : (w : ℕ) (l : List ℕ) → board_length ≤ length l → Agrees (set_up_of w) (lent_set_up w l)
unfolding lent_set_up set_up_of
set_up_agrees w l fits =
    simp (le-leb _ _ fits)
    (by_cond (λ (r : BoardOutcome). Agrees r (board_gave r.answer (emptied r.board.width l))) (width_stands w)
    (λ _. empty_agrees (answer_of 0 0 0) w l fits)
    (λ _. empty_agrees (answer_of 17 0 0) 0 l fits))

agrees_all : {r : BoardOutcome} {g : LentBoard} → Agrees r g → (g.answer ≡ r.answer) × (board_in g.board ≡ r.board) × (is_board g.board ≡ true)
agrees_all f = (f.answer, f.board, f.tells)

pub numbers_follow : NumbersFollow
numbers_follow = record {
  add = λ l t p wait board. agrees_all (add_agrees l t p wait board);
  show = λ l t board. agrees_all (show_agrees l t board);
  set-up = λ w l fits. agrees_all (set_up_agrees w l fits);
}
