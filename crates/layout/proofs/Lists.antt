-- Laws of storing in a list: from the front, behind its front, and the front as a whole. Assumes nothing.
use Rattle.std.proofs.Common.{◌≡◌, ℕ, ◌+◌, ◌<◌, List, [], ◌∷◌, ◌++◌, length, take, drop, set, ap, ◌∙◌, suc-add, zero-add, add-one, arith}
use Rattle.std.proofs.Common.{length-set, take-suc-set}
use lib.Seq.{append_snoc}
use Rattle.model.specs.Readings.{over}

-- one element more is stored
pub fill_at : {A : Type 0} (l : List A) (i : ℕ) (x : A) (rest : List A) → i < length l
    → take (i + 1) (set l i x) ++ rest ≡ take i l ++ x ∷ rest
fill_at l i x rest h = rw (add-one, take-suc-set l i x h) (append_snoc (take i l) x rest)

-- a pair more is stored
pub fill_pair : {A : Type 0} (l : List A) (i : ℕ) (x y : A) (rest : List A) → i + 1 < length l
    → take (i + 1 + 1) (set (set l i x) (i + 1) y) ++ rest ≡ take i l ++ x ∷ y ∷ rest
fill_pair l i x y rest h = fill_at (set l i x) (i + 1) y rest (simp length-set h) ∙ fill_at l i x (y ∷ rest) (omega arith)

-- what is stored behind a front is stored in the rest
pub set_behind : {A : Type 0} (front rest : List A) (i : ℕ) (x : A) → set (front ++ rest) (length front + i) x ≡ front ++ set rest i x
set_behind [] rest i x = ap (λ (k : ℕ). set rest k x) (zero-add i)
set_behind (y ∷ front) rest i x =
    ap (λ (k : ℕ). set (y ∷ (front ++ rest)) k x) (suc-add (length front) i) ∙ ap (λ (l : List _). y ∷ l) (set_behind front rest i x)

-- numbers that are put in the place of as many at the front of a list
pub front_over : {A : Type 0} {new numbers : List A} (k : ℕ) (l : List A) → new ≡ numbers → length new ≡ k
    → new ++ drop k l ≡ over numbers l
front_over k l e h = rw (← e, h)
