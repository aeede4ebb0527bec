-- How long a board is, which lists tell one, and where each of its entries stands in them, around the end of the places. Assumes nothing.
use Prim.Native.Nat.{ℕ, zero, suc, ◌+◌, ◌-◌, ◌<◌, min}
use mathlib.Core.Path.{◌≡◌, refl, subst}
use mathlib.Core.List.{List, [], ◌∷◌, ◌++◌}
use native.Mathlib.Omega.{arith}
use native.Mathlib.Numerals.{add-one}
use lib.Dec.{leb}
use lib.ListN.{length, get_or}
use borrow.Author.Tests.{leb-true, ltb-true, le-leb, lt-ltb}
use Rattle.model.proofs.Tests.{and_true_iff}
use Rattle.recent.specs.Boards.{Entry, most_kept}
use Rattle.recent.specs.Encodings.{first_index, count_index, board_length, entry_at, entries_from, ring_from, board_in, is_board}
use Rattle.recent.specs.Facts.{IsAt, BoardLayout, BoardToldIff, EveryRing}
use Rattle.recent.proofs.Places.{entries_length, ring_length}

pub board_layout : BoardLayout
board_layout = refl

pub board_told_iff : BoardToldIff
unfolding is_board
board_told_iff l = (
  λ e. let h = (and_true_iff (leb board_length (length l)) _).0 e in (leb-true _ _ h.0, ltb-true _ _ h.1),
  λ h. (and_true_iff _ _).1 (le-leb _ _ h.0, lt-ltb _ _ h.1),
)

-- Where an entry stands

stands_front : {e : Entry} {i : ℕ} {xs : List Entry} (ys : List Entry) → IsAt e i xs → IsAt e i (xs ++ ys)
stands_front ys IsAt.here = IsAt.here
stands_front ys (IsAt.later s) = IsAt.later (stands_front ys s)

stands_behind : {e : Entry} {i : ℕ} (xs : List Entry) {ys : List Entry} → IsAt e i ys → IsAt e (i + length xs) (xs ++ ys)
stands_behind {e} {i} [] {ys} s = subst (λ (k : ℕ). IsAt e k ys) (omega arith) s
stands_behind {e} {i} (x ∷ xs) {ys} s = subst (λ (k : ℕ). IsAt e k (x ∷ xs ++ ys)) (omega arith) (IsAt.later (stands_behind xs s))

entries_stand : (l : List ℕ) (k n i j : ℕ) → i < n → j ≡ k + i → IsAt (entry_at l j) i (entries_from l k n)
unfolding entries_from
entries_stand l k zero i j b e = absurd (omega arith)
entries_stand l k (suc n) zero j b e =
    let at : j ≡ k = omega arith in
    rw at IsAt.here
entries_stand l k (suc n) (suc i) j b e = rw (← add-one i) (IsAt.later (entries_stand l (k + 1) n i j (omega arith) (omega arith)))

-- up to the end of the places
ring_stands : (l : List ℕ) (k n i j : ℕ) → i < n → j ≡ k + i → j < most_kept → IsAt (entry_at l j) i (ring_from l k n)
unfolding ring_from
ring_stands l k n i j b e h =
    stands_front (entries_from l 0 (n - (most_kept - k))) (entries_stand l k (min n (most_kept - k)) i j (omega arith) e)

-- past it
ring_stands_around : (l : List ℕ) (k n i j : ℕ) → k < most_kept → i < n → j + most_kept ≡ k + i → IsAt (entry_at l j) i (ring_from l k n)
unfolding ring_from
ring_stands_around l k n i j h b e =
    let front = entries_from l k (min n (most_kept - k)) in
    let at : i - (most_kept - k) + length front ≡ i = omega (arith, entries_length l k (min n (most_kept - k))) in
    subst (λ (m : ℕ). IsAt (entry_at l j) m (front ++ entries_from l 0 (n - (most_kept - k)))) at
    (stands_behind front (entries_stand l 0 (n - (most_kept - k)) (i - (most_kept - k)) j (omega arith) (omega arith)))

pub every_ring : EveryRing
unfolding board_in
every_ring l told = record {
  width = refl;
  last = refl;
  count = ring_length l (get_or l first_index 0) (get_or l count_index 0);
  before_the_end = λ i k b e h. ring_stands l (get_or l first_index 0) (get_or l count_index 0) i k b e h;
  around_the_end = λ i k b e.
      ring_stands_around l (get_or l first_index 0) (get_or l count_index 0) i k ((board_told_iff l).0 told).1 b e;
}
