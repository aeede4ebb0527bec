-- Numbers that are all 0, looked at by the bits of every other one together: those bits and the numbers that are left tell it. And a list as its
-- chunks. Assumes nothing.
use Prim.Native.Nat.{ℕ, zero, suc, ◌+◌, ◌*◌, ◌/◌, ◌≤◌, ◌<◌}
use mathlib.Core.Path.{◌≡◌, refl, sym, ap, ◌∙◌}
use mathlib.Core.Bool.{Bool, true, false, ◌&&◌, and_assoc, and-false, and-true}
use mathlib.Core.List.{List, [], ◌∷◌, ◌++◌}
use native.Mathlib.Omega.{arith}
use lib.Bits.{bit_or}
use lib.Dec.{eqb}
use lib.ListN.{length, get_or, take, drop, take-append-drop, length-drop}
use lib.Seq.{drop-drop, take-add}
use Rattle.std.proofs.lemmas.List.{append_assoc}
use Rattle.std.specs.List.{concat, flat_map}
use Rattle.std.specs.Simd.{first_chunks}
use Rattle.std.proofs.lemmas.List.Concat.{concat_is}
use Rattle.std.proofs.lemmas.List.Folds.{concat-append}
use Rattle.model.proofs.Lists.{drop_at}
use Rattle.values.specs.Bits.{are_zero}
use Rattle.values.proofs.Zeros.{or_zero}

-- the bits so far are 0, and the numbers that are left
abbrev pub zero_left : ℕ → ℕ → List ℕ → Bool
zero_left even odd l = eqb even 0 && eqb odd 0 && are_zero l

-- three tests in another order
swap : (a x b z : Bool) → a && x && b && z ≡ a && b && (x && z)
swap true true b z = refl
swap true false b z = sym (and-false b)
swap false x b z = refl

module _ (even odd x : ℕ) (l : List ℕ) where
  -- a number more
  pub even_more : zero_left (bit_or even x) odd l ≡ zero_left even odd (x ∷ l)
  unfolding are_zero
  even_more = rw (or_zero even x) (swap (eqb even 0) (eqb x 0) (eqb odd 0) (are_zero l))

  pub odd_more : zero_left even (bit_or odd x) l ≡ zero_left even odd (x ∷ l)
  unfolding are_zero
  odd_more =
      rw (or_zero odd x)
      (ap (λ (t : Bool). t && are_zero l) (sym (and_assoc (eqb even 0) (eqb odd 0) (eqb x 0)))
      ∙ and_assoc (eqb even 0 && eqb odd 0) (eqb x 0) (are_zero l))

-- the bits of three numbers, taken one by one
regroup : (x a b c : Bool) → x && (a && b && c) ≡ x && a && b && c
regroup true a b c = refl
regroup false a b c = refl

three_bits : (x a b c : ℕ) → eqb (bit_or x (bit_or (bit_or a b) c)) 0 ≡ eqb (bit_or (bit_or (bit_or x a) b) c) 0
three_bits x a b c =
    or_zero x (bit_or (bit_or a b) c)
    ∙ ap (λ (t : Bool). eqb x 0 && t) (or_zero (bit_or a b) c ∙ ap (λ (t : Bool). t && eqb c 0) (or_zero a b))
    ∙ regroup (eqb x 0) (eqb a 0) (eqb b 0) (eqb c 0)
    ∙ sym (or_zero (bit_or (bit_or x a) b) c
    ∙ ap (λ (t : Bool). t && eqb c 0) (or_zero (bit_or x a) b ∙ ap (λ (t : Bool). t && eqb b 0) (or_zero x a)))

-- those of an entry, all to one
entry_more : (even odd a b c : ℕ) (l : List ℕ)
    → zero_left (bit_or even (bit_or (bit_or a b) c)) odd l ≡ zero_left even odd (a ∷ b ∷ c ∷ l)
entry_more even odd a b c l =
    ap (λ (t : Bool). t && eqb odd 0 && are_zero l) (three_bits even a b c)
    ∙ even_more (bit_or (bit_or even a) b) odd c l ∙ even_more (bit_or even a) odd b (c ∷ l) ∙ even_more even odd a (b ∷ c ∷ l)

-- nothing is left
pub zero_end : (even odd : ℕ) → eqb (bit_or even odd) 0 ≡ zero_left even odd []
unfolding are_zero
zero_end even odd = rw (or_zero even odd) (sym (and-true (eqb even 0 && eqb odd 0)))

-- Chunks

-- the numbers of entries that stand in chunks
abbrev pub of_chunks : List (List (List ℕ)) → List ℕ
of_chunks l = flat_map concat l

-- the first chunks, and what is left after them, are all
pub chunks_all : (n k : ℕ) (es : List (List ℕ)) → of_chunks (first_chunks n k es) ++ concat (drop (k * n) es) ≡ concat es
chunks_all n zero es =
    let e : 0 * n ≡ 0 = omega arith in
    ap (λ (i : ℕ). concat (drop i es)) e
chunks_all n (suc k) es =
    let e : suc k * n ≡ n + k * n = omega arith in
    ap (λ (i : ℕ). of_chunks (first_chunks n (suc k) es) ++ concat (drop i es)) e
    ∙ append_assoc (concat (take n es)) (of_chunks (first_chunks n k (drop n es))) (concat (drop (n + k * n) es))
    ∙ ap (λ (l : List (List ℕ)). concat (take n es) ++ (of_chunks (first_chunks n k (drop n es)) ++ concat l)) (sym (drop-drop (k * n) n es))
    ∙ ap (λ (l : List ℕ). concat (take n es) ++ l) (chunks_all n k (drop n es))
    ∙ sym (concat-append (take n es) (drop n es)) ∙ ap concat (take-append-drop n es)

-- numbers in pairs
pairs_all : (k : ℕ) (l : List ℕ) → length l ≡ 2 * k → concat (first_chunks 2 k l) ≡ l
pairs_all zero [] h = refl
pairs_all zero (x ∷ l) h = absurd (omega arith)
pairs_all (suc k) l h = ap (λ (r : List ℕ). take 2 l ++ r) (pairs_all k (drop 2 l) (length-drop 2 l ∙ omega arith)) ∙ take-append-drop 2 l

-- the next chunk, of four entries, whose numbers are taken in pairs
pub four_next : (fours : List (List (List ℕ))) (i : ℕ) → i < length fours → (numbers : List ℕ) → numbers ≡ flat_map (λ e. e) (get_or fours i [])
    → length numbers ≡ 12 → {pairs : List (List ℕ)} → pairs ≡ first_chunks 2 (length numbers / 2) numbers → (rest : List ℕ)
    → of_chunks (drop i fours) ++ rest ≡ concat pairs ++ (of_chunks (drop (i + 1) fours) ++ rest)
four_next fours i here numbers are size {pairs} e rest =
    let four = get_or fours i [] in
    let more = of_chunks (drop (i + 1) fours) in
    let whole : concat four ≡ concat pairs =
    concat_is four ∙ sym are ∙ sym (pairs_all 6 numbers size) ∙ ap (λ (k : ℕ). concat (first_chunks 2 (k / 2) numbers)) (sym size) ∙ ap concat (sym e) in
    ap (λ (l : List (List (List ℕ))). of_chunks l ++ rest) (drop_at fours i [] here) ∙ append_assoc (concat four) more rest
    ∙ ap (λ (l : List ℕ). l ++ (more ++ rest)) whole

-- the numbers of entries one by one
three_of : (e : List ℕ) → length e ≡ 3 → e ≡ get_or e 0 0 ∷ get_or e 1 0 ∷ get_or e 2 0 ∷ []
three_of [] h = absurd (omega arith)
three_of (p ∷ []) h = absurd (omega arith)
three_of (p ∷ (q ∷ [])) h = absurd (omega arith)
three_of (p ∷ (q ∷ (r ∷ []))) h = refl
three_of (p ∷ (q ∷ (r ∷ (s ∷ t)))) h = absurd (omega arith)

two_of : (p : List ℕ) → length p ≡ 2 → p ≡ get_or p 0 0 ∷ get_or p 1 0 ∷ []
two_of [] h = absurd (omega arith)
two_of (p ∷ []) h = absurd (omega arith)
two_of (p ∷ (q ∷ [])) h = refl
two_of (p ∷ (q ∷ (r ∷ t))) h = absurd (omega arith)

-- the next pair of numbers, and the next entry
module _ (even odd j : ℕ) where
  pub pair_next : (pairs : List (List ℕ)) → j < length pairs → (p : List ℕ) → get_or pairs j [] ≡ p → length p ≡ 2 → (rest : List ℕ)
      → zero_left (bit_or even (get_or p 0 0)) (bit_or odd (get_or p 1 0)) (concat (drop (j + 1) pairs) ++ rest)
      ≡ zero_left even odd (concat (drop j pairs) ++ rest)
  pair_next pairs here p is size rest =
      let more = concat (drop (j + 1) pairs) in
      odd_more (bit_or even (get_or p 0 0)) odd (get_or p 1 0) (more ++ rest)
      ∙ even_more even odd (get_or p 0 0) (get_or p 1 0 ∷ (more ++ rest))
      ∙ ap (λ (l : List ℕ). zero_left even odd ((l ++ more) ++ rest)) (sym (two_of p size))
      ∙ ap (λ (l : List (List ℕ)). zero_left even odd (concat l ++ rest)) (sym (drop_at pairs j [] here ∙ ap (λ (l : List ℕ). l ∷ drop (j + 1) pairs) is))

  pub entry_next : (rows : List (List ℕ)) → j < length rows → (x : List ℕ) → get_or rows j [] ≡ x → length x ≡ 3
      → zero_left (bit_or even (bit_or (bit_or (get_or x 0 0) (get_or x 1 0)) (get_or x 2 0))) odd (concat (drop (j + 1) rows))
      ≡ zero_left even odd (concat (drop j rows))
  entry_next rows here x is size =
      let more = concat (drop (j + 1) rows) in
      entry_more even odd (get_or x 0 0) (get_or x 1 0) (get_or x 2 0) more
      ∙ ap (λ (l : List ℕ). zero_left even odd (l ++ more)) (sym (three_of x size))
      ∙ ap (λ (l : List (List ℕ)). zero_left even odd (concat l)) (sym (drop_at rows j [] here ∙ ap (λ (l : List ℕ). l ∷ drop (j + 1) rows) is))

-- so many chunks are there
pub rows_size : (k : ℕ) (l : List ℕ) → length (first_chunks 3 k l) ≡ k
rows_size zero l = refl
rows_size (suc k) l = ap suc (rows_size k (drop 3 l))

-- the numbers of entries, from entry i on and up to it
pub rows_from : (k i : ℕ) (l : List ℕ) → length l ≡ 3 * k → concat (drop i (first_chunks 3 k l)) ≡ drop (3 * i) l
rows_from zero zero [] h = refl
rows_from zero (suc i) [] h =
    let e : 3 * suc i ≡ suc (suc (suc (3 * i))) = omega arith in
    ap (λ (j : ℕ). drop j []) (sym e)
rows_from zero i (x ∷ l) h = absurd (omega arith)
rows_from (suc k) zero l h =
    ap (λ (r : List ℕ). take 3 l ++ r) (rows_from k zero (drop 3 l) (length-drop 3 l ∙ omega arith)) ∙ take-append-drop 3 l
rows_from (suc k) (suc i) l h =
    let e : 3 + 3 * i ≡ 3 * suc i = omega arith in
    rows_from k i (drop 3 l) (length-drop 3 l ∙ omega arith) ∙ drop-drop (3 * i) 3 l ∙ ap (λ (j : ℕ). drop j l) e

pub rows_to : (k i : ℕ) (l : List ℕ) → i ≤ k → concat (take i (first_chunks 3 k l)) ≡ take (3 * i) l
rows_to zero zero l h = refl
rows_to zero (suc i) l h = absurd (omega arith)
rows_to (suc k) zero l h = refl
rows_to (suc k) (suc i) l h =
    let e : 3 + 3 * i ≡ 3 * suc i = omega arith in
    ap (λ (r : List ℕ). take 3 l ++ r) (rows_to k i (drop 3 l) (omega arith)) ∙ sym (take-add 3 (3 * i) l) ∙ ap (λ (j : ℕ). take j l) e
