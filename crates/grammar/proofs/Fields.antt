-- What is written for a field is read back, and what is read was so written. Assumes nothing.
use Prim.Native.Nat.{ℕ, zero, suc, ◌+◌, ◌-◌, ◌*◌, ◌/◌, ◌%◌, ◌≤◌, ◌<◌}
use mathlib.Core.Path.{◌≡◌, refl, sym, ap, ◌∙◌, subst}
use mathlib.Core.Logic.{◌≢◌}
use mathlib.Core.Bool.{Bool, true, false, cond, not, ◌&&◌, ◌||◌, true≢false, false≢true}
use mathlib.Core.List.{List, [], ◌∷◌, ◌++◌}
use native.Mathlib.Omega.{arith}
use native.Mathlib.Nat.{add-zero, zero-add}
use lib.Dec.{leb, ltb, eqb}
use lib.ListN.{length, get_or, drop, length-append}
use lib.Seq.{drop_at, drop-append_seam, append_snoc}
use borrow.Author.Tests.{lt-leb, eq-eqb, ne_eqb, eqb-true, leb-false}
use Rattle.std.specs.Prelude.{Option, Some, None}
use Rattle.model.specs.declared.Parsed.{Parsed}
use Rattle.model.specs.Texts.{decimal, number_text, newline, words, word_text}
use Rattle.model.specs.Readings.{parsed, starts_with, number_from, number_at, word_from, word_at}
use Rattle.model.proofs.Tests.{by_cond, if_lt, if_eq, tests}
use Rattle.grammar.proofs.Tables.{every, every_at}
use Rattle.grammar.proofs.Digits.{decimal_small, decimal_more, decimal_next, some_digit}

-- What is taken

-- `k` bytes of `s` were taken, and they are `text`
pub record Took (s text : List ℕ) (k : ℕ) : Type 0 where
  pub split : s ≡ text ++ drop k s
  pub size : k ≡ length text

pub took_le : {s text : List ℕ} {k : ℕ} → Took s text k → k ≤ length s
took_le {s} {text} {k} t = omega (arith, ap length t.split ∙ length-append text (drop k s), t.size)

pub took : (text s : List ℕ) (k : ℕ) → k ≡ length text → Took (text ++ s) text k
took text s k e = record { split = ap (λ (l : List ℕ). text ++ l) (sym (drop_at text s k (sym e))); size = e }

-- A number that is written is read

-- the value of a field, 0 where there is none
abbrev value_of : Option (Parsed ℕ) → ℕ
value_of (Some field) = field.value
value_of None = 0

module _ (bound end : ℕ) (small : end < 48) where
  digit_taken : (v k d : ℕ) (s : List ℕ) → d < 10 → (0 < k → 0 < v) → v * 10 + d < bound
      → number_from bound end v k ((48 + d) ∷ s) ≡ number_from bound end (v * 10 + d) (k + 1) s
  unfolding number_from
  digit_taken v k d s h pos l =
      let q : 48 + d - 48 ≡ d = omega arith in
      let other : eqb (48 + d) end ≡ false = simp tests (λ (e : 48 + d ≡ end). omega arith) in
      let digit : (ltb (48 + d) 48 || ltb 57 (48 + d)) ≡ false = simp tests (omega arith, omega arith) in
      let led : (eqb v 0 && ltb 0 k) ≡ false =
      simp tests (λ (e : v ≡ 0). if_lt 0 k (λ g. omega (arith, pos g)) (λ g. omega arith)) in
      rw q (simp (other, digit, led, lt-leb bound (v * 10 + d) l))

  digits_taken : (f v : ℕ) (s : List ℕ) → v < f → v < bound
      → number_from bound end 0 0 (decimal v ++ s) ≡ number_from bound end v (length (decimal v)) s
  digits_taken zero v s h l = absurd (omega arith)
  digits_taken (suc f) v s h l =
      if_lt v 10
      (λ t. let z : 0 + v ≡ v = omega arith in
      rw (decimal_small v t) (digit_taken 0 0 v s t (λ (g : 0 < 0). omega arith) (omega arith) ∙ rw z))
      (λ m. let q : v / 10 * 10 + v % 10 ≡ v = omega arith in
      let k : ℕ = length (decimal (v / 10)) in
      let size : length (decimal v) ≡ k + 1 =
      rw (decimal_more v m) (length-append (decimal (v / 10)) ((48 + v % 10) ∷ [])) in
      rw (size, decimal_more v m, append_snoc)
      (digits_taken f (v / 10) ((48 + v % 10) ∷ s) (omega arith) (omega arith)
      ∙ (digit_taken (v / 10) k (v % 10) s (omega arith) (λ (g : 0 < k). omega arith) (omega arith) ∙ rw q)))

  pub number_reads : (v : ℕ) (s : List ℕ) → v < bound
      → number_at bound end (number_text end v ++ s) ≡ Some (parsed v (length (number_text end v)))
  unfolding number_text number_from
  number_reads v s l =
      let some : eqb (length (decimal v)) 0 ≡ false = ne_eqb _ _ (λ (z : length (decimal v) ≡ 0). omega (arith, some_digit v)) in
      rw (append_snoc (decimal v) end s, digits_taken (suc v) v (end ∷ s) (omega arith) l)
      (simp (eq-eqb end end refl, some, length-append))

-- So its bytes tell it, whatever follows

module _ (end : ℕ) (small : end < 48) where
  -- a text starts with one number at most
  pub number_first : (v w : ℕ) (s t : List ℕ) → number_text end v ++ s ≡ number_text end w ++ t → (v ≡ w) × (s ≡ t)
  number_first v w s t e =
      let bound : ℕ = suc (v + w) in
      let read =
      sym (number_reads bound end small v s (omega arith)) ∙ (ap (number_at bound end) e ∙ number_reads bound end small w t (omega arith)) in
      let same : v ≡ w = ap value_of read in
      let text : List ℕ = number_text end w in
      (same, sym (drop-append_seam text s) ∙ (ap (drop (length text)) (rw same at e) ∙ drop-append_seam text t))

  -- and with none where none is read
  pub number_none : (v : ℕ) (s t : List ℕ) → ((bound : ℕ) → number_at bound end t ≡ None) → number_text end v ++ s ≢ t
  number_none v s t none e =
      let read = sym (number_reads (suc v) end small v s (omega arith)) ∙ (ap (number_at (suc v) end) e ∙ none (suc v)) in
      let z : ◌≡◌ {A = ℕ} 0 1 = cc in
      absurd (omega arith)

-- A number that is read was written

-- what `k` digits `p` make, as long as the number is not ended
record Digits (p : List ℕ) (v k : ℕ) : Type 0 where
  none : k ≡ 0 → (p ≡ []) × (v ≡ 0)
  some : 0 < k → p ≡ decimal v
  size : k ≡ length p

-- one digit more
more_digits : (p : List ℕ) (v k d : ℕ) → Digits p v k → d < 10 → (0 < k → 0 < v)
    → Digits (p ++ ((48 + d) ∷ [])) (v * 10 + d) (k + 1)
more_digits p v k d s h pos =
    record {
      none = λ (z : k + 1 ≡ 0). absurd (omega arith);
      some = λ _.
          if_lt 0 k
          (λ g. rw (decimal_next v d (pos g) h) (ap (λ (l : List ℕ). l ++ ((48 + d) ∷ [])) (s.some g)))
          (λ g. let n = s.none (omega arith) in let q : 0 + d ≡ d = omega arith in rw (n.0, n.1, q) (sym (decimal_small d h)));
      size = omega (arith, length-append p ((48 + d) ∷ []), s.size);
    }

module _ (bound end : ℕ) where
  ended : (s p : List ℕ) (v k : ℕ) → Digits p v k → 0 < k → Took (p ++ end ∷ s) (number_text end v) (k + 1)
  unfolding number_text
  ended s p v k d g =
      let text : List ℕ = decimal v ++ (end ∷ []) in
      let size : k + 1 ≡ length text = omega (arith, length-append (decimal v) (end ∷ []), d.size, ap length (d.some g)) in
      rw (d.some g, ← append_snoc (decimal v) end s) (took text s (k + 1) size)

  -- what a field tells of the text that it was read from
  abbrev NumberTells : List ℕ → Option (Parsed ℕ) → Type 0
  NumberTells s (Some field) = Took s (number_text end field.value) field.size × (field.value < bound)
  NumberTells s None = Unit

  number_tells : (s p : List ℕ) (v k : ℕ) → Digits p v k → v < bound → NumberTells (p ++ s) (number_from bound end v k s)
  unfolding number_from
  number_tells [] p v k d l = tt
  number_tells (x ∷ s) p v k d l =
      by_cond (NumberTells (p ++ x ∷ s)) (eqb x end)
      (λ t.
      by_cond (NumberTells (p ++ x ∷ s)) (eqb k 0) (λ _. tt) (λ z.
      (rw (eqb-true x end t) (ended s p v k d (omega (arith, simp tests at z))), l)))
      (λ _.
      by_cond (NumberTells (p ++ x ∷ s)) (ltb x 48 || ltb 57 x) (λ _. tt) (λ z.
      by_cond (NumberTells (p ++ x ∷ s)) (eqb v 0 && ltb 0 k) (λ _. tt) (λ y.
      by_cond (NumberTells (p ++ x ∷ s)) (leb bound (v * 10 + (x - 48))) (λ _. tt) (λ m.
      let digit = simp tests at z in
      let led = simp tests at y in
      let pos : 0 < k → 0 < v = λ (g : 0 < k). if_eq v 0 (λ e. omega (arith, led e)) (λ n. omega arith) in
      let q : 48 + (x - 48) ≡ x = omega arith in
      rw append_snoc at
      (number_tells s (p ++ (x ∷ [])) (v * 10 + (x - 48)) (k + 1)
      (rw q at (more_digits p v k (x - 48) d (omega arith) pos)) (leb-false _ _ m))))))

  pub number_was : (s : List ℕ) (v k : ℕ) → 0 < bound → number_at bound end s ≡ Some (parsed v k)
      → Took s (number_text end v) k × (v < bound)
  number_was s v k h e =
      rw e at
      (number_tells s [] 0 0 (record { none = λ _. (refl, refl); some = λ (g : 0 < 0). absurd (omega arith); size = refl }) h)

-- The start of a text

pub starts_here : (w s : List ℕ) → starts_with w (w ++ s) ≡ true
unfolding starts_with
starts_here [] s = refl
starts_here (x ∷ w) s = simp (eq-eqb x x refl) (starts_here w s)

starts_was : (w s : List ℕ) → starts_with w s ≡ true → s ≡ w ++ drop (length w) s
unfolding starts_with
starts_was [] s e = refl
starts_was (x ∷ w) [] e = absurd (false≢true e)
starts_was (x ∷ w) (y ∷ s) e = let f = simp tests at e in rw f.0 (ap (λ (l : List ℕ). x ∷ l) (starts_was w s f.1))

pub starts_took : (w s : List ℕ) → starts_with w s ≡ true → Took s w (length w)
starts_took w s e = record { split = starts_was w s e; size = refl }

-- A word that is read was written

-- a word and the end of its line
abbrev filled : List ℕ → List ℕ
filled w = w ++ (newline ∷ [])

-- the bytes that one of some words takes
record Worded (base : ℕ) (ws : List (List ℕ)) (s : List ℕ) (a k : ℕ) : Type 0 where
  place : ℕ
  named : a ≡ base + place
  below : place < length ws
  took : Took s (filled (get_or ws place [])) k

abbrev WordTells : ℕ → List (List ℕ) → List ℕ → Option (Parsed ℕ) → Type 0
WordTells base ws s (Some field) = Worded base ws s field.value field.size
WordTells base ws s None = Unit

later : (base : ℕ) (w : List ℕ) (ws : List (List ℕ)) (s : List ℕ) (f : Option (Parsed ℕ)) → WordTells (base + 1) ws s f
    → WordTells base (w ∷ ws) s f
later base w ws s None r = tt
later base w ws s (Some field) r =
    record { place = suc r.place; named = omega (arith, r.named); below = omega (arith, r.below); took = r.took }

word_tells : (base : ℕ) (ws : List (List ℕ)) (s : List ℕ) → WordTells base ws s (word_from base ws s)
unfolding word_from
word_tells base [] s = tt
word_tells base (w ∷ ws) s =
    by_cond (WordTells base (w ∷ ws) s) (starts_with (filled w) s)
    (λ t.
    let size = length-append w (newline ∷ []) in
    let taken = rw size at (starts_took (filled w) s t) in
    record { place = 0; named = omega arith; below = omega arith; took = taken })
    (λ _. later base w ws s (word_from (base + 1) ws s) (word_tells (base + 1) ws s))

-- a word that is read was written
pub word_was : (s : List ℕ) (a k : ℕ) → word_at s ≡ Some (parsed a k) → Took s (word_text a) k × (a < length words)
unfolding word_text
word_was s a k e =
    let r = rw e at (word_tells 0 words s) in
    let n : r.place ≡ a = omega (arith, r.named) in
    (subst (λ (i : ℕ). Took s (filled (get_or words i [])) k) n r.took, omega (arith, r.below))

-- Telling the words apart

-- of two texts of which neither starts with the other, the first starts nothing that starts with the second
apart_starts : (w u s : List ℕ) → starts_with w u ≡ false → starts_with u w ≡ false → starts_with w (u ++ s) ≡ false
unfolding starts_with
apart_starts [] u s e f = absurd (true≢false e)
apart_starts (x ∷ w) [] s e f = absurd (true≢false f)
apart_starts (x ∷ w) (y ∷ u) s e f =
    simp tests (λ (q : y ≡ x). apart_starts w u s (simp tests at e q) (simp tests at f (sym q)))

-- the words w at place i and u at place j are one, or apart
abbrev told : ℕ → List ℕ → ℕ → List ℕ → Bool
told i w j u = cond (eqb i j) true (not (starts_with (filled w) (filled u)) && not (starts_with (filled u) (filled w)))

-- the one test of the table of words
words_apart : every (λ i w. every (told i w) 0 words) 0 words ≡ true
unfolding starts_with
words_apart = refl

words_told : (i j : ℕ) → i < length words → j < length words → told i (get_or words i []) j (get_or words j []) ≡ true
words_told i j h g =
    every_at (told i (get_or words i [])) words [] (every_at (λ i w. every (told i w) 0 words) words [] words_apart i h) j g

-- the first word that fills the line is read
word_first : (base : ℕ) (ws : List (List ℕ)) (s : List ℕ) (a : ℕ) → a < length ws
    → ((i : ℕ) → i < a → starts_with (filled (get_or ws i [])) s ≡ false)
    → starts_with (filled (get_or ws a [])) s ≡ true
    → word_from base ws s ≡ Some (parsed (base + a) (length (get_or ws a []) + 1))
unfolding word_from
word_first base [] s a h before e = absurd (omega arith)
word_first base (w ∷ ws) s zero h before e = rw e (rw add-zero)
word_first base (w ∷ ws) s (suc a) h before e =
    let q : base + 1 + a ≡ base + suc a = omega arith in
    rw (before 0 (omega arith), ← q) (word_first (base + 1) ws s a (omega arith) (λ i g. before (suc i) (omega arith)) e)

-- a word that is written is read
pub word_reads : (a : ℕ) (s : List ℕ) → a < length words → word_at (word_text a ++ s) ≡ Some (parsed a (length (word_text a)))
unfolding word_text
word_reads a s h =
    let line : List ℕ = filled (get_or words a []) in
    let others : (i : ℕ) → i < a → starts_with (filled (get_or words i [])) (line ++ s) ≡ false =
    λ i g.
    let t = (simp tests at (words_told i a (omega arith) h)).1 (λ (q : i ≡ a). omega arith) in
    apart_starts (filled (get_or words i [])) line s t.0 t.1 in
    rw (length-append (get_or words a []) (newline ∷ []))
    (rw zero-add at (word_first 0 words (line ++ s) a h others (starts_here line s)))
