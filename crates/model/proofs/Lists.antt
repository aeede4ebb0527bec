-- Laws of lists and of their parts. Assumes nothing.
use Prim.Native.Nat.{ℕ, zero, suc, ◌+◌, ◌-◌, ◌≤◌, ◌<◌, min}
use mathlib.Core.Path.{◌≡◌, refl, sym, ap, ◌∙◌}
use mathlib.Core.List.{List, [], ◌∷◌, ◌++◌, map, map-append, append_assoc, append-nil}
use native.Mathlib.Omega.{arith}
use native.Mathlib.Numerals.{add-one}
use lib.ListN.{length, get_or, take, drop, set, length-drop, length-append, length-set, length-map, take-append-drop}
use lib.Seq.{drop-cons, drop-length, take-suc, take_all, length-take-le, set-append_left, set_at, get_or_at}
use lib.Seq.{drop_at as seam-at}
use Rattle.model.specs.Readings.{over}
use Rattle.model.proofs.Tests.{if_lt}

-- Parts

-- a list from place i on is its element there and the list from i + 1 on
pub drop_at : {A : Type 0} (l : List A) (i : ℕ) (d : A) → i < length l → drop i l ≡ get_or l i d ∷ drop (i + 1) l
drop_at l i d h = rw (add-one, drop-cons l i d)

-- nothing stands from the length on
pub drop_end : {A : Type 0} (l : List A) (i : ℕ) → length l ≤ i → i ≤ length l → drop i l ≡ []
drop_end l i h g = let q : i ≡ length l = omega arith in rw q (drop-length l)

-- a part from i to the end is what is left after i
pub part_is : {A : Type 0} (l : List A) (i : ℕ) → take (length l - i) (drop i l) ≡ drop i l
part_is l i = take_all (length l - i) (drop i l) (omega (arith, length-drop i l))

-- a row that is there is the same, whatever stands for one past the end
pub row_at : {A : Type 0} (l : List A) (i : ℕ) (x y : A) → i < length l → get_or l i x ≡ get_or l i y
row_at [] i x y h = absurd (omega arith)
row_at (r ∷ l) zero x y h = refl
row_at (r ∷ l) (suc i) x y h = row_at l i x y (omega arith)

-- What is stored over the front of a list

-- its own front changes nothing
pub over_front : {A : Type 0} (k : ℕ) (l : List A) → k ≤ length l → over (take k l) l ≡ l
over_front k l h = rw (length-take-le k l h) (take-append-drop k l)

-- as many as stood there take their place
pub over_seam : {A : Type 0} (xs ys rest : List A) → length xs ≡ length ys → over xs (ys ++ rest) ≡ xs ++ rest
over_seam xs ys rest e = rw (seam-at ys rest (length xs) (sym e))

-- to store over it and then set one of these is to set it before
pub over_set : {A : Type 0} (xs l : List A) (i : ℕ) (a : A) → i < length xs → over (set xs i a) l ≡ set (over xs l) i a
over_set xs l i a h = rw (length-set xs i a) (sym (set-append_left xs (drop (length xs) l) i a h))

pub length_over : {A : Type 0} (xs l : List A) → length xs ≤ length l → length (over xs l) ≡ length l
length_over xs l h = rw (length-append xs (drop (length xs) l), length-drop (length xs) l) (omega arith)

-- Row after row is stored over the front of a list, and i of them have been

module _ {A : Type 0} (xs l : List A) (i : ℕ) (written : length xs ≡ i) (inside : i < length l) where
  -- the row after those stored is as it was
  pub over_next : (d : A) → get_or (over xs l) i d ≡ get_or l i d
  over_next d = rw (written, drop-cons l i d) (get_or_at xs (get_or l i d) (drop (suc i) l) d i written)

  pub over_snoc : (x : A) → set (over xs l) i x ≡ over (xs ++ (x ∷ [])) l
  over_snoc x =
      let more : length (xs ++ (x ∷ [])) ≡ suc i = simp length-append (omega arith) in
      rw (written, drop-cons l i x, more, append_assoc) (set_at xs (get_or l i x) (drop (suc i) l) x i written)

-- the rows that each of i results makes
module _ {A B : Type 0} (f : A → B) (rs : List A) (l : List B) (i : ℕ) (made : length rs ≡ i) where
  rows_made : length (map f rs) ≡ i
  rows_made = length-map rs f ∙ made

  pub rows_next : i < length l → (d : B) → get_or (over (map f rs) l) i d ≡ get_or l i d
  rows_next h d = over_next (map f rs) l i rows_made h d

  pub rows_snoc : i < length l → (r : A) → set (over (map f rs) l) i (f r) ≡ over (map f (rs ++ (r ∷ []))) l
  rows_snoc h r = rw (map-append f rs (r ∷ [])) (over_snoc (map f rs) l i rows_made h (f r))

  pub rows_long : i ≤ length l → length (over (map f rs) l) ≡ length l
  rows_long h = length_over (map f rs) l (omega (arith, rows_made))

-- Maps

-- a list is as long as any map of it: `search (rules, length_mapped)` finds the length of an array of structs
pub length_mapped : (X Y : Type 0) (f : X → Y) (l : List X) (n : ℕ) → length (map f l) ≡ n → length l ≡ n
length_mapped X Y f l n e = sym (length-map l f) ∙ e

-- Copying

-- as many as there were take the place of all
pub copied_whole : {A : Type 0} (from to : List A) → length to ≡ length from → over (take (length to) from) to ≡ from
copied_whole from to e =
    let all = take_all (length to) from (omega arith) in
    ap (λ (l : List _). over l to) all ∙ ap (λ (l : List _). from ++ l) (drop_end to (length from) (omega arith) (omega arith)) ∙ append-nil from
