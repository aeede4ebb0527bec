-- A list whose front is lent: what a look at the front tells of the list, and that what is written at the front is written in the list.
-- Assumes nothing.
use Prim.Native.Nat.{ℕ, ◌+◌, ◌*◌, ◌≤◌, ◌<◌}
use mathlib.Core.Path.{◌≡◌, sym, ap, ◌∙◌, subst}
use mathlib.Core.Bool.{false, ◌&&◌}
use mathlib.Core.List.{List, ◌++◌}
use native.Mathlib.Omega.{arith}
use lib.ListN.{length, get_or, drop, set, length-set}
use lib.Seq.{get_or-take, length-take-le}
use Rattle.std.specs.Prelude.{Option, None}
use Rattle.std.specs.Array.{IsFirstChunk}
use Rattle.std.proofs.lemmas.List.{set-append_left, take-append-drop}
use Rattle.model.specs.declared.Answer.{Answer}
use Rattle.recent.specs.declared.rings.Look.{Look}
use Rattle.recent.specs.Boards.{Entry, most_kept, board_sound}
use Rattle.recent.specs.Encodings.{last_index, board_length, board_in, is_board, board_gave, emptied, headed, placed}
use Rattle.recent.specs.Looking.{Looked, untimely_of}
use Rattle.recent.proofs.Sights.{no_sight, front_seen, front_unsound}
use Rattle.recent.proofs.Calls.{emptied_stores, Timely, timely}

-- too short a list tells no board
pub short_unsound : (l : List ℕ) → length l < board_length → (is_board l && board_sound (board_in l)) ≡ false
short_unsound l h = no_sight l (λ s. omega (arith, s.fits))

-- one store
stored : (xs ys : List ℕ) {l : List ℕ} {i : ℕ} (v : ℕ) → xs ++ ys ≡ l → i < length xs → set xs i v ++ ys ≡ set l i v
stored xs ys {l} {i} v e h = sym (set-append_left xs ys i v h) ∙ ap (λ (m : List ℕ). set m i v) e

-- xs is the front of l
module _ {l xs : List ℕ} (first : IsFirstChunk l xs board_length) where
  rest : List ℕ
  rest = drop board_length l

  whole : xs ++ drop board_length l ≡ l
  whole = ap (λ (m : List ℕ). m ++ drop board_length l) first.same ∙ take-append-drop board_length l

  fits : board_length ≤ length xs
  fits = omega (arith, ap length first.same, length-take-le board_length l first.enough)

  -- nothing is written
  pub stays : (r : Answer) → board_gave r (xs ++ drop board_length l) ≡ board_gave r l
  stays r = ap (board_gave r) whole

  pub looked : {t : ℕ} {r : Look} → Looked xs t r → Looked l t r
  looked {t} {r} k = front_seen l first.enough t (subst (λ (m : List ℕ). Looked m t r) first.same k)

  pub unsound : (is_board xs && board_sound (board_in xs)) ≡ false → (is_board l && board_sound (board_in l)) ≡ false
  unsound e = front_unsound l first.enough (ap (λ (m : List ℕ). is_board m && board_sound (board_in m)) (sym first.same) ∙ e)

  last_told : get_or xs last_index 0 ≡ (board_in l).last
  unfolding board_in
  last_told = ap (λ (m : List ℕ). get_or m last_index 0) first.same ∙ get_or-take board_length l last_index 0 (omega arith)

  -- what comes of a time
  pub told : {r : Option Answer} (t : ℕ) → r ≡ untimely_of (get_or xs last_index 0) t → r ≡ untimely_of (board_in l).last t
  told t e = e ∙ ap (λ (last : ℕ). untimely_of last t) last_told

  pub in_time : (t : ℕ) → None ≡ untimely_of (get_or xs last_index 0) t → Timely (board_in l).last t
  in_time t e = timely (board_in l).last t (sym (told t e))

  pub front_emptied : (w : ℕ) → emptied w xs ++ drop board_length l ≡ emptied w l
  front_emptied w =
      let ys = drop board_length l in
      let s1 : set xs 0 w ++ ys ≡ set l 0 w = stored xs ys w whole (omega (arith, fits)) in
      let s2 : set (set xs 0 w) 1 0 ++ ys ≡ set (set l 0 w) 1 0 = stored (set xs 0 w) ys 0 s1 (simp length-set (omega (arith, fits))) in
      let s3 : set (set (set xs 0 w) 1 0) 2 0 ++ ys ≡ set (set (set l 0 w) 1 0) 2 0 =
      stored (set (set xs 0 w) 1 0) ys 0 s2 (simp length-set (omega (arith, fits))) in
      ap (λ (m : List ℕ). m ++ ys) (sym (emptied_stores w xs fits))
      ∙ stored (set (set (set xs 0 w) 1 0) 2 0) ys 0 s3 (simp length-set (omega (arith, fits)))
      ∙ emptied_stores w l first.enough

  pub front_headed : (t k n : ℕ) → headed xs t k n ++ drop board_length l ≡ headed l t k n
  front_headed t k n =
      let ys = drop board_length l in
      let s1 : set xs 1 t ++ ys ≡ set l 1 t = stored xs ys t whole (omega (arith, fits)) in
      let s2 : set (set xs 1 t) 2 k ++ ys ≡ set (set l 1 t) 2 k = stored (set xs 1 t) ys k s1 (simp length-set (omega (arith, fits))) in
      stored (set (set xs 1 t) 2 k) ys n s2 (simp length-set (omega (arith, fits)))

  pub front_added : (t k n p : ℕ) (e : Entry) → p < most_kept
      → placed (headed xs t k n) p e ++ drop board_length l ≡ placed (headed l t k n) p e
  front_added t k n p e h =
      let ys = drop board_length l in
      let xs' = headed xs t k n in
      let l' = headed l t k n in
      let at = 4 + 3 * p in
      let long : length xs' ≡ length xs = simp length-set in
      let s1 : set xs' at e.time ++ ys ≡ set l' at e.time = stored xs' ys e.time (front_headed t k n) (omega (arith, fits, long)) in
      let s2 : set (set xs' at e.time) (at + 1) e.process ++ ys ≡ set (set l' at e.time) (at + 1) e.process =
      stored (set xs' at e.time) ys e.process s1 (rw length-set (omega (arith, fits, long))) in
      stored (set (set xs' at e.time) (at + 1) e.process) ys e.wait s2 (rw (length-set, length-set) (omega (arith, fits, long)))
