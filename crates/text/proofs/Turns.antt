-- One turn of each loop over bytes, said of the definitions that the loops compute. Assumes nothing.
use Prim.Native.Nat.{ℕ, suc, ◌+◌, ◌-◌, ◌*◌, ◌≤◌, ◌<◌}
use mathlib.Core.Path.{◌≡◌, refl, sym}
use mathlib.Core.Bool.{false, cond, ◌&&◌, ◌||◌}
use mathlib.Core.List.{List, [], ◌∷◌, ◌++◌}
use native.Mathlib.Omega.{arith}
use lib.Dec.{leb, ltb, eqb}
use lib.ListN.{length, get_or, drop, set, drop_of_length-le}
use lib.Seq.{drop-drop}
use borrow.Author.Tests.{eq-eqb, ne_eqb}
use Rattle.std.specs.List.{starts_with as list_starts}
use Rattle.std.specs.Option.{ok_or}
use Rattle.std.specs.Prelude.{Option, Some, None, Err, Ok}
use Rattle.model.specs.declared.Refusal.TheVariants.{BadLine}
use Rattle.model.specs.declared.Parsed.{Parsed}
use Rattle.model.specs.declared.Fault.{Fault}
use Rattle.model.specs.Texts.{comma, newline, number_bound, words}
use Rattle.model.specs.Readings.{parsed, fault, starts_with, number_from, number_at, word_from, numbers_from}
use Rattle.model.proofs.Lists.{drop_at}
use Rattle.model.proofs.Tests.{by_test, if_eq}

-- std's test of the start of a slice is that of the definitions
pub starts_alike : (w s : List ℕ) → list_starts eqb s w ≡ starts_with w s
unfolding starts_with
starts_alike [] s = refl
starts_alike (x ∷ w) [] = refl
starts_alike (x ∷ w) (y ∷ s) =
    if_eq x y (λ e. simp (eq-eqb x y e, eq-eqb y x (sym e)) (starts_alike w s)) (λ n. simp (ne_eqb x y n, ne_eqb y x (λ e. n (sym e))))

-- a text starts with two texts, one after the other
pub starts_append : (w v s : List ℕ) → starts_with (w ++ v) s ≡ starts_with w s && starts_with v (drop (length w) s)
unfolding starts_with
starts_append [] v s = refl
starts_append (x ∷ w) v [] = refl
starts_append (x ∷ w) v (y ∷ s) = by_test (eqb y x) (λ e. rw e (starts_append w v s)) (λ e. rw e)

-- the end of a line after the first i bytes
module _ (s : List ℕ) (i : ℕ) where
  pub line_short : length s ≤ i → starts_with (newline ∷ []) (drop i s) ≡ false
  unfolding starts_with
  line_short h = rw (drop_of_length-le s {i = i} h)

  pub line_ends : i < length s → starts_with (newline ∷ []) (drop i s) ≡ eqb (get_or s i 0) newline
  unfolding starts_with
  line_ends h = rw (drop_at s i 0 h) (by_test (eqb (get_or s i 0) newline) (λ e. rw e) (λ e. rw e))

-- a number at the byte x, of which k digits made v
abbrev pub number_turn : ℕ → ℕ → ℕ → ℕ → ℕ → List ℕ → Option (Parsed ℕ)
number_turn bound end v k x rest =
    cond (eqb x end) (cond (eqb k 0) None (Some (parsed v (k + 1))))
    (cond (ltb x 48 || ltb 57 x) None
    (cond (eqb v 0 && ltb 0 k) None
    (cond (leb bound (v * 10 + (x - 48))) None
    (number_from bound end (v * 10 + (x - 48)) (k + 1) rest))))

pub number-at : (bound end v k : ℕ) (s : List ℕ) (i : ℕ) → i < length s
    → number_from bound end v k (drop i s) ≡ number_turn bound end v k (get_or s i 0) (drop (i + 1) s)
unfolding number_from
number-at bound end v k s i h = rw (drop_at s i 0 h)

-- the word of one act is tried
pub word-at : (a : ℕ) (s : List ℕ) → a < length words
    → word_from a (drop a words) s
    ≡ cond (starts_with (get_or words a [] ++ (newline ∷ [])) s) (Some (parsed a (length (get_or words a []) + 1))) (word_from (a + 1) (drop (a + 1) words) s)
unfolding word_from
word-at a s h = rw (drop_at words a [] h)

-- A field or its fault

-- what a field that is to be there tells
pub field_none : (o : Option (Parsed ℕ)) (e f : Fault) → ok_or o e ≡ Err f → (o ≡ None) × (f ≡ e)
field_none None e f q = (refl, cc)
field_none (Some field) e f q = cc

pub field_some : (o : Option (Parsed ℕ)) (e : Fault) (field : Parsed ℕ) → ok_or o e ≡ Ok field → o ≡ Some field
field_some None e field q = cc
field_some (Some other) e field q = cc

-- A line of numbers, of which `got` has the first i: they took the first `at` bytes of s, and `more` end with a comma

module _ (line more i at : ℕ) (got s : List ℕ) where
  pub numbers_next : (v k : ℕ) → i < more → number_at number_bound comma (drop at s) ≡ Some (parsed v k)
      → numbers_from line (more - i) i at got (drop at s) ≡ numbers_from line (more - (i + 1)) (i + 1) (at + k) (set got i v) (drop (at + k) s)
  unfolding numbers_from
  numbers_next v k h e = let q : more - i ≡ suc (more - (i + 1)) = omega arith in rw (q, e, ← drop-drop k at s)

  pub numbers_bad : i < more → number_at number_bound comma (drop at s) ≡ None
      → numbers_from line (more - i) i at got (drop at s) ≡ Err (fault BadLine line)
  unfolding numbers_from
  numbers_bad h e = let q : more - i ≡ suc (more - (i + 1)) = omega arith in rw (q, e)

  module _ (h : more ≤ i) where
    pub numbers_last : (v k : ℕ) → number_at number_bound newline (drop at s) ≡ Some (parsed v k)
        → numbers_from line (more - i) i at got (drop at s) ≡ Ok (parsed (set got i v) (at + k))
    unfolding numbers_from
    numbers_last v k e = let q : more - i ≡ 0 = omega arith in rw (q, e)

    pub numbers_none : number_at number_bound newline (drop at s) ≡ None
        → numbers_from line (more - i) i at got (drop at s) ≡ Err (fault BadLine line)
    unfolding numbers_from
    numbers_none e = let q : more - i ≡ 0 = omega arith in rw (q, e)
