-- What the calls write of the numbers that they are lent: the header and one entry, and nothing where they refuse. Assumes nothing.
use Prim.Native.Nat.{ℕ, ◌+◌, ◌-◌, ◌≤◌, ◌<◌}
use mathlib.Core.Path.{◌≡◌, refl, ◌∙◌}
use mathlib.Core.Logic.{◌≢◌}
use mathlib.Core.List.{List, [], ◌∷◌}
use native.Mathlib.Omega.{arith}
use lib.Dec.{leb, eqb}
use lib.ListN.{length, get_or, set, drop, length-set}
use lib.Seq.{get_or-set_same, get_or-set_other, lt-length-set, get_or-append-add, get_or-drop}
use borrow.Author.Tests.{eqb-true, leb-true, lt-leb}
use Rattle.model.specs.declared.Answer.{Answer}
use Rattle.model.proofs.Tests.{by_test}
use Rattle.model.proofs.Lists.{length_over}
use Rattle.recent.specs.Boards.{Entry, entry_with, set_up_of, add_of, show_of}
use Rattle.recent.specs.Encodings.{board_header, entry_index, board_length, entry_at, board_in, is_board, still_at, first_at, next_at}
use Rattle.recent.specs.Encodings.{emptied, headed, placed, shown, added, on_numbers, lent_set_up, lent_add, lent_show}
use Rattle.recent.specs.Facts.{NotHead, NotEntry, RefusedBoardStays, BoardWritesItsOwn}

-- The header

module _ (l : List ℕ) (t k n : ℕ) where
  pub headed_length : length (headed l t k n) ≡ length l
  headed_length = simp length-set

  pub headed_other : (i : ℕ) → NotHead i → get_or (headed l t k n) i 0 ≡ get_or l i 0
  headed_other i h = simp (get_or-set_other, h.not_last, h.not_first, h.not_count)

  -- so are the entries
  pub headed_entry : (j : ℕ) → entry_at (headed l t k n) j ≡ entry_at l j
  headed_entry j =
      let same : (i : ℕ) → 4 ≤ i → get_or (headed l t k n) i 0 ≡ get_or l i 0 =
      λ i h. headed_other i (omega arith) in
      rw (same (entry_index j) (omega arith), same (entry_index j + 1) (omega arith), same (entry_index j + 2) (omega arith))

-- An entry

module _ (l : List ℕ) (k : ℕ) (e : Entry) where
  pub placed_length : length (placed l k e) ≡ length l
  placed_length = simp length-set

  pub placed_other : (i : ℕ) → NotEntry k i → get_or (placed l k e) i 0 ≡ get_or l i 0
  placed_other i h = simp (get_or-set_other, h.not_time, h.not_process, h.not_wait)

  -- no other entry has a number of this one
  pub placed_elsewhere : (j : ℕ) → j ≢ k → entry_at (placed l k e) j ≡ entry_at l j
  placed_elsewhere j n =
      rw (
        placed_other (entry_index j) (omega arith),
        placed_other (entry_index j + 1) (omega arith),
        placed_other (entry_index j + 2) (omega arith),
      )

-- it is read where it was put
module _ (l : List ℕ) (at : ℕ) (fits : at + 2 < length l) where
  three_read : (x y z : ℕ) → (get_or (set (set (set l at x) (at + 1) y) (at + 2) z) at 0 ≡ x)
      × (get_or (set (set (set l at x) (at + 1) y) (at + 2) z) (at + 1) 0 ≡ y)
      × (get_or (set (set (set l at x) (at + 1) y) (at + 2) z) (at + 2) 0 ≡ z)
  three_read x y z =
      let a : at ≢ at + 2 = λ e. omega arith in
      let b : at ≢ at + 1 = λ e. omega arith in
      let c : at + 1 ≢ at + 2 = λ e. omega arith in
      let f : at < length l = omega arith in
      let g : at + 1 < length l = omega arith in (
        simp (get_or-set_other, get_or-set_same),
        simp (get_or-set_other, get_or-set_same, lt-length-set),
        simp (get_or-set_same, lt-length-set),
      )

pub placed_there : (l : List ℕ) (k : ℕ) (e : Entry) → entry_index k + 2 < length l → entry_at (placed l k e) k ≡ e
placed_there l k e h =
    let r = three_read l (entry_index k) h e.time e.process e.wait in
    λ i. entry_with (r.0 i) (r.1 i) (r.2 i)

-- An empty board

pub emptied_length : (w : ℕ) (l : List ℕ) → board_length ≤ length l → length (emptied w l) ≡ length l
emptied_length w l h = length_over (w ∷ 0 ∷ 0 ∷ 0 ∷ []) l (omega arith)

-- nothing behind the header is written
emptied_other : (w : ℕ) (l : List ℕ) (i : ℕ) → board_header ≤ i → get_or (emptied w l) i 0 ≡ get_or l i 0
emptied_other w l i h =
    let at : i ≡ board_header + (i - board_header) = omega arith in
    rw at
    (get_or-append-add (w ∷ 0 ∷ 0 ∷ 0 ∷ []) (drop board_header l) (i - board_header) 0 ∙ get_or-drop board_header l (i - board_header) 0)

-- What a call gives back on numbers

-- what holds of the numbers before, and of those after an accepted call, holds of those that are given back
on-numbers : (P : List ℕ → Type 0) (l : List ℕ) (r : Answer) (after : List ℕ) → P l → P after → P (on_numbers l r after).board
on-numbers P l r after h g =
    by_test (is_board l) (λ b. by_test (eqb r.code 0) (λ e. simp (b, e) g) (λ e. simp (b, e) h)) (λ b. simp b h)

set_up_numbers : (P : List ℕ → Type 0) (w : ℕ) (l : List ℕ) → P l → (board_length ≤ length l → (v : ℕ) → P (emptied v l))
    → P (lent_set_up w l).board
unfolding lent_set_up
set_up_numbers P w l h g =
    by_test (leb board_length (length l)) (λ e. simp e (g (leb-true _ _ e) (set_up_of w).board.width)) (λ e. simp e h)

module _ (l : List ℕ) (r : Answer) (after : List ℕ) where
  refused_numbers : (on_numbers l r after).answer.code ≢ 0 → (on_numbers l r after).board ≡ l
  refused_numbers n =
      by_test (is_board l)
      (λ b. by_test (eqb r.code 0) (λ e. absurd (n (simp (b, e) (eqb-true _ _ e)))) (λ e. simp (b, e)))
      (λ b. simp b)

pub refused_board_stays : RefusedBoardStays
unfolding lent_add lent_show lent_set_up
refused_board_stays = record {
  add = λ l t p wait n. refused_numbers l (add_of (board_in l) t p wait).answer (added l t p wait) n;
  show = λ l t n. refused_numbers l (show_of (board_in l) t).answer (shown l t) n;
  set-up = λ w l h. simp (lt-leb _ _ h);
}

pub board_writes_its_own : BoardWritesItsOwn
unfolding lent_add lent_show
board_writes_its_own = record {
  add = λ l t p wait i h g.
      on-numbers (λ m. get_or m i 0 ≡ get_or l i 0) l (add_of (board_in l) t p wait).answer (added l t p wait) refl
      (placed_other (headed l t (first_at l t) (still_at l t + 1)) (next_at l) (entry_with t p wait) i g
      ∙ headed_other l t (first_at l t) (still_at l t + 1) i h);
  add_length = λ l t p wait.
      on-numbers (λ m. length m ≡ length l) l (add_of (board_in l) t p wait).answer (added l t p wait) refl
      (placed_length (headed l t (first_at l t) (still_at l t + 1)) (next_at l) (entry_with t p wait)
      ∙ headed_length l t (first_at l t) (still_at l t + 1));
  show = λ l t i h.
      on-numbers (λ m. get_or m i 0 ≡ get_or l i 0) l (show_of (board_in l) t).answer (shown l t) refl
      (headed_other l t (first_at l t) (still_at l t) i h);
  show_length = λ l t.
      on-numbers (λ m. length m ≡ length l) l (show_of (board_in l) t).answer (shown l t) refl
      (headed_length l t (first_at l t) (still_at l t));
  set-up = λ w l i h. set_up_numbers (λ m. get_or m i 0 ≡ get_or l i 0) w l refl (λ _ v. emptied_other v l i h);
  set_up_length = λ w l. set_up_numbers (λ m. length m ≡ length l) w l refl (λ b v. emptied_length v l b);
}
