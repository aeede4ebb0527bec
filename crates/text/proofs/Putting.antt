-- Laws of putting texts into a lent output, and how wide the texts are at most. Assumes nothing.
use Prim.Native.Nat.{ℕ, zero, suc, ◌+◌, ◌^◌, ◌≤◌, ◌<◌, max}
use mathlib.Core.Path.{◌≡◌, refl, sym, ap, ◌∙◌}
use mathlib.Core.List.{List, [], ◌∷◌, ◌++◌, append-nil, append_assoc}
use native.Mathlib.Omega.{arith}
use native.Mathlib.Nat.{add-zero, zero-add}
use lib.ListN.{length, get_or, set, take, drop, length-append}
use lib.Seq.{sets, sets-eq, length-sets, take_all}
use Rattle.model.specs.Texts.{decimal, comma, newline, number_text, words, word_text, numbers_text}
use Rattle.model.specs.Readings.{over}
use Rattle.model.proofs.Lists.{drop_at, drop_end}
use Rattle.grammar.proofs.Digits.{digits_word}
use Rattle.grammar.proofs.Lines.{number_length}
use Rattle.text.specs.Puts.{most_numbers, Put}

pub sets_append : (xs ys l : List ℕ) (i : ℕ) → sets l i (xs ++ ys) ≡ sets (sets l i xs) (i + length xs) ys
sets_append [] ys l i = rw add-zero
sets_append (x ∷ xs) ys l i =
    let e : suc i + length xs ≡ i + suc (length xs) = omega arith in
    sets_append xs ys (set l i x) (suc i) ∙ rw e

-- one more byte of a text
pub sets_at : (l text : List ℕ) (at i : ℕ) → i < length text
    → sets l (at + i) (drop i text) ≡ sets (set l (at + i) (get_or text i 0)) (at + (i + 1)) (drop (i + 1) text)
sets_at l text at i h = let e : suc (at + i) ≡ at + (i + 1) = omega arith in rw (drop_at text i 0 h, ← e)

-- a text that fits, from the start on, and the rest as it was
pub sets_over : (text out : List ℕ) → length text ≤ length out → sets out 0 text ≡ over text out
sets_over text out h = sets-eq text out 0 (omega arith) ∙ rw zero-add

-- Putting

-- an output keeps its length
pub put_long : {old new text : List ℕ} {at width : ℕ} → Put old new at text width → length new ≡ length old
put_long {old} {text = text} {at = at} p = ap length p.put ∙ length-sets old at text

pub put_nothing : {old : List ℕ} {at : ℕ} → Put old old at [] 0
put_nothing = record { put = refl; wide = refl }

pub put_one : {old new : List ℕ} {at x : ℕ} → new ≡ set old at x → Put old new at (x ∷ []) 1
put_one e = record { put = e; wide = refl }

-- one text after the other
pub put_both : {old mid new x y : List ℕ} {at i j : ℕ} → Put old mid at x i → Put mid new (at + i) y j → Put old new at (x ++ y) (i + j)
put_both {old} {mid} {new} {x} {y} {at} {i} {j} f g =
    record {
      put = g.put ∙ rw (f.put, f.wide) (sym (sets_append x y old at));
      wide = omega (arith, f.wide, g.wide, length-append x y);
    }

-- a text at the start, and one after it
pub put_first : {old mid new x y : List ℕ} {i j : ℕ} → Put old mid 0 x i → Put mid new i y j → Put old new 0 (x ++ y) (i + j)
put_first {i = i} f g = put_both f (rw zero-add g)

-- Putting part by part

-- `whole` is being put into `old` from `start` on: it is `new` now, and `rest` is left to put from `at` on
pub record Left (old : List ℕ) (start : ℕ) (whole new : List ℕ) (at : ℕ) (rest : List ℕ) : Type 0 where
  pub ends : at + length rest ≡ start + length whole
  pub same : length new ≡ length old
  pub put : sets new at rest ≡ sets old start whole

pub left_all : {old : List ℕ} {start : ℕ} {whole : List ℕ} → Left old start whole old start whole
left_all = record { ends = refl; same = refl; put = refl }

-- one text more is put
pub left_next : {old whole mid new x y : List ℕ} {start at k : ℕ}
    → Left old start whole mid at (x ++ y) → Put mid new at x k → Left old start whole new (at + k) y
left_next {mid = mid} {x = x} {y = y} {at = at} f p =
    record {
      ends = omega (arith, f.ends, p.wide, length-append x y);
      same = put_long p ∙ f.same;
      put = rw (p.put, p.wide) (sym (sets_append x y mid at) ∙ f.put);
    }

-- what is being put comes after a text that is put already
pub left_after : {old mid new x y z : List ℕ} {start at k : ℕ}
    → Put old mid start x k → Left mid (start + k) y new at z → Left old start (x ++ y) new at z
left_after {old} {x = x} {y = y} {start = start} p f =
    record {
      ends = omega (arith, f.ends, p.wide, length-append x y);
      same = f.same ∙ put_long p;
      put = f.put ∙ rw (p.put, p.wide) (sym (sets_append x y old start));
    }

-- nothing is left
pub left_done : {old whole new : List ℕ} {start at k : ℕ} → Left old start whole new at [] → at ≡ start + k → Put old new start whole k
left_done f e = record { put = f.put; wide = omega (arith, f.ends) }

-- the last text is put
pub left_last : {old whole mid new x : List ℕ} {start at k n : ℕ}
    → Left old start whole mid at x → Put mid new at x k → at + k ≡ start + n → Put old new start whole n
left_last {x = x} f p e = left_done (left_next {y = []} (rw append-nil f) p) e

-- Lines of numbers

-- of a line that is short enough all are put
pub all_numbers : (ws : List ℕ) → length ws < 2 ^ 32 → take most_numbers ws ≡ ws
unfolding most_numbers
all_numbers ws h = take_all most_numbers ws (omega arith)

-- what follows the digits of a number, where the numbers ws come after it
abbrev pub tail_text : List ℕ → List ℕ
tail_text [] = newline ∷ []
tail_text (w ∷ ws) = comma ∷ numbers_text w ws

pub digits_first : (v : ℕ) (ws : List ℕ) → numbers_text v ws ≡ decimal v ++ tail_text ws
unfolding numbers_text number_text
digits_first v [] = refl
digits_first v (w ∷ ws) = append_assoc (decimal v) (comma ∷ []) (numbers_text w ws)

module _ (ws : List ℕ) (i : ℕ) where
  pub tail_at : i < length ws → tail_text (drop i ws) ≡ (comma ∷ []) ++ (decimal (get_or ws i 0) ++ tail_text (drop (i + 1) ws))
  tail_at h = rw (drop_at ws i 0 h, digits_first (get_or ws i 0) (drop (i + 1) ws))

  pub tail_end : length ws ≤ i → i ≤ length ws → tail_text (drop i ws) ≡ newline ∷ []
  tail_end h g = rw (drop_end ws i h g)

-- Widths

-- of a number that a u64 holds, without the byte that ends it and with it
pub digits_narrow : {old new : List ℕ} {at k : ℕ} (v : ℕ) → v < 2 ^ 64 → Put old new at (decimal v) k → k ≤ 20
digits_narrow v h p = omega (arith, p.wide, digits_word v h)

pub number_narrow : {old new : List ℕ} {at k : ℕ} (v end : ℕ) → v < 2 ^ 64 → Put old new at (number_text end v) k → k ≤ 21
number_narrow v end h p = omega (arith, p.wide, number_length v end, digits_word v h)

abbrev longest : List (List ℕ) → ℕ
longest [] = 0
longest (w ∷ ws) = max (length w) (longest ws)

longest-at : (ws : List (List ℕ)) (i : ℕ) → length (get_or ws i []) ≤ longest ws
longest-at [] i = omega arith
longest-at (w ∷ ws) zero = omega arith
longest-at (w ∷ ws) (suc i) = omega (arith, longest-at ws i)

-- with room for longer words than there are
pub word_width : (action : ℕ) → length (word_text action) ≤ 22
unfolding word_text
word_width action = omega (arith, length-append (get_or words action []) (newline ∷ []), longest-at words action)
