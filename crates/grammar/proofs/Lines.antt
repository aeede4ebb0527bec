-- What is written for a line is read back, and what is read was so written: a line of numbers, whatever their count, and the line of a
-- step. Assumes nothing.
use Prim.Native.Nat.{ℕ, zero, suc, ◌+◌, ◌*◌, ◌≤◌, ◌<◌}
use mathlib.Core.Path.{◌≡◌, refl, ap, ◌∙◌}
use mathlib.Core.Logic.{◌↔◌}
use mathlib.Core.Bool.{true}
use mathlib.Core.List.{List, [], ◌∷◌, ◌++◌, append_assoc}
use native.Mathlib.Omega.{arith}
use native.Mathlib.Nat.{add_assoc, zero-add}
use native.Mathlib.Numerals.{add-one}
use lib.ListN.{length, get_or, drop, set, replicate, length-append, length-set}
use lib.Seq.{drop-append_seam, drop-drop, get_or-set_same, get_or-set_other, sets}
use borrow.Author.Tests.{leb-true}
use lib.Dec.{leb}
use Rattle.std.specs.Prelude.{Option, Some, None, Result, Ok, Err}
use Rattle.model.specs.declared.Refusal.TheVariants.{BadLine}
use Rattle.model.specs.declared.Parsed.{Parsed}
use Rattle.model.specs.declared.Fault.{Fault}
use Rattle.model.specs.Texts.{comma, newline, time_bound, number_bound, decimal, number_text, words, word_text}
use Rattle.model.specs.Texts.{Event, numbers_text, event_text, has_form}
use Rattle.model.specs.Readings.{parsed, fault, number_at, word_at, opened, event_at, numbers_from, numbers_at}
use Rattle.model.proofs.Tests.{tests}
use Rattle.grammar.specs.Digits.{digits_of, Few}
use Rattle.grammar.proofs.Tables.{every_at}
use Rattle.grammar.proofs.Digits.{some_digit, bounds_are_digits}
use Rattle.grammar.proofs.Fields.{Took, number_was, number_reads, word_was, word_reads}

-- How many bytes the texts take

pub number_length : (v end : ℕ) → length (number_text end v) ≡ length (decimal v) + 1
unfolding number_text
number_length v end = length-append (decimal v) (end ∷ [])

-- each number of a line has a digit and a byte that ends it
pub numbers_long : (v : ℕ) (ws : List ℕ) → 2 * suc (length ws) ≤ length (numbers_text v ws)
unfolding numbers_text
numbers_long v [] = omega (arith, number_length v newline, some_digit v)
numbers_long v (w ∷ ws) =
    omega (arith, length-append (number_text comma v) (numbers_text w ws), number_length v comma, some_digit v, numbers_long w ws)

pub event_length : (e : Event)
    → length (event_text e) ≡ length (decimal e.time) + 1 + (length (decimal e.process) + 1 + length (word_text e.action))
unfolding event_text
event_length e = simp (length-append, number_length)

-- a word has three letters or more
word_length : (a : ℕ) → a < length words → 4 ≤ length (word_text a)
unfolding word_text
word_length a h =
    let three = leb-true 3 (length (get_or words a [])) (every_at (λ _ w. leb 3 (length w)) words [] refl a h) in
    omega (arith, length-append (get_or words a []) (newline ∷ []))

-- a step has a byte
pub event_some : (e : Event) → 0 < length (event_text e)
event_some e = omega (arith, event_length e)

-- a step that has a form has eight bytes or more
pub event_eight : (e : Event) → has_form e ≡ true → 8 ≤ length (event_text e)
event_eight e h =
    let f = simp tests at h in
    omega (arith, event_length e, some_digit e.time, some_digit e.process, word_length e.action f.1)

-- Fields one after the other

-- what holds whichever way a field goes holds of what it is opened to
pub by_opened : {A : Type 0} (P : A → Type 0) {refusal : A} {next : ℕ → ℕ → A} (f : Option (Parsed ℕ))
    → P refusal → ((v k : ℕ) → f ≡ Some (parsed v k) → P (next v k)) → P (opened f refusal next)
by_opened P None bad value = bad
by_opened P (Some field) bad value = value field.value field.size refl

pub took_both : {s x y : List ℕ} {i j : ℕ} → Took s x i → Took (drop i s) y j → Took s (x ++ y) (i + j)
took_both {s} {x} {y} {i} {j} f g =
    record {
      split = rw (append_assoc x y (drop (i + j) s), ← drop-drop j i s) (f.split ∙ ap (λ (l : List ℕ). x ++ l) g.split);
      size = omega (arith, length-append x y, f.size, g.size);
    }

-- what follows was taken apart
pub took_then : {s x : List ℕ} {i : ℕ} → Took s x i → (y rest : List ℕ) → drop i s ≡ y ++ rest → s ≡ (x ++ y) ++ rest
took_then {s} {x} f y rest e = rw (append_assoc x y rest) (f.split ∙ ap (λ (l : List ℕ). x ++ l) e)

-- A line of numbers

-- small enough for its field, and of few digits
pub few : (v : ℕ) → (v < number_bound) ↔ (digits_of v ≤ 8)
few = bounds_are_digits.number

-- the numbers at the first `many` places from i on
abbrev pub numbers_in : ℕ → ℕ → List ℕ → List ℕ
numbers_in zero i l = []
numbers_in (suc many) i l = get_or l i 0 ∷ numbers_in many (i + 1) l

pub numbers_many : (many i : ℕ) (l : List ℕ) → length (numbers_in many i l) ≡ many
numbers_many zero i l = refl
numbers_many (suc many) i l = ap suc (numbers_many many (i + 1) l)

-- l was read from s: `more` numbers and one before them stand in its first places
pub record LineTook (s : List ℕ) (more : ℕ) (l : Parsed (List ℕ)) : Type 0 where
  pub took : Took s (numbers_text (get_or l.value 0 0) (numbers_in more 1 l.value)) l.size
  pub digits : Few (numbers_in (suc more) 0 l.value)

-- the same from place i on, after `at` bytes; the places before i are those of `got`
record TookFrom (s : List ℕ) (more i at : ℕ) (got : List ℕ) (l : Parsed (List ℕ)) : Type 0 where
  bytes : ℕ
  sized : l.size ≡ at + bytes
  took : Took s (numbers_text (get_or l.value i 0) (numbers_in more (i + 1) l.value)) bytes
  digits : Few (numbers_in (suc more) i l.value)
  kept : (j : ℕ) → j < i → get_or l.value j 0 ≡ get_or got j 0

-- what a line tells of the text that it was read from: it was written so, or it is refused
abbrev TellsFrom : ℕ → List ℕ → ℕ → ℕ → ℕ → List ℕ → Result (Parsed (List ℕ)) Fault → Type 0
TellsFrom line s more i at got (Ok l) = TookFrom s more i at got l
TellsFrom line s more i at got (Err f) = f ≡ fault BadLine line

-- with a number before it
one_more : (line more i at : ℕ) (got s : List ℕ) (v k : ℕ) → i < length got → Took s (number_text comma v) k → digits_of v ≤ 8
    → (r : Result (Parsed (List ℕ)) Fault) → TellsFrom line (drop k s) more (i + 1) (at + k) (set got i v) r
    → TellsFrom line s (suc more) i at got r
unfolding numbers_text
one_more line more i at got s v k h w few (Err f) r = r
one_more line more i at got s v k h w few (Ok l) r =
    let here : get_or l.value i 0 ≡ v = r.kept i (omega arith) ∙ get_or-set_same got i v 0 h in
    record {
      bytes = k + r.bytes;
      sized = omega (arith, r.sized);
      took = rw here (took_both w r.took);
      digits = rw here (few, r.digits);
      kept = λ j g. r.kept j (omega arith) ∙ get_or-set_other got i j v 0 (λ (q : j ≡ i). omega arith);
    }

from_was : (line more i at : ℕ) (got s : List ℕ) → i + more < length got
    → TellsFrom line s more i at got (numbers_from line more i at got s)
unfolding numbers_from numbers_text
from_was line zero i at got s h =
    by_opened (TellsFrom line s zero i at got) (number_at number_bound newline s) refl (λ v k e.
    let w = number_was number_bound newline s v k (omega arith) e in
    let here : get_or (set got i v) i 0 ≡ v = get_or-set_same got i v 0 (omega arith) in
    record {
      bytes = k;
      sized = refl;
      took = rw here w.0;
      digits = rw here ((few v).0 w.1, tt);
      kept = λ j g. get_or-set_other got i j v 0 (λ (q : j ≡ i). omega arith);
    })
from_was line (suc more) i at got s h =
    by_opened (TellsFrom line s (suc more) i at got) (number_at number_bound comma s) refl (λ v k e.
    let w = number_was number_bound comma s v k (omega arith) e in
    one_more line more i at got s v k (omega arith) w.0 ((few v).0 w.1) (numbers_from line more (i + 1) (at + k) (set got i v) (drop k s))
    (from_was line more (i + 1) (at + k) (set got i v) (drop k s) (omega (arith, length-set got i v))))

module _ (line more : ℕ) (s : List ℕ) (h : more < 4) where
  -- a line that is read was written, where there is a place for each number
  pub numbers_was : (l : Parsed (List ℕ)) → numbers_at line more s ≡ Ok l → LineTook s more l
  numbers_was l e =
      let r = rw e at (from_was line more 0 0 (replicate 4 0) s (omega arith)) in
      let sized : l.size ≡ r.bytes = omega (arith, r.sized) in
      record { took = rw sized r.took; digits = r.digits }

  -- any other is refused
  pub numbers_fail : (f : Fault) → numbers_at line more s ≡ Err f → f ≡ fault BadLine line
  numbers_fail f e = rw e at (from_was line more 0 0 (replicate 4 0) s (omega arith))

from_reads : (line v : ℕ) (ws : List ℕ) (i at : ℕ) (got s : List ℕ) → Few (v ∷ ws)
    → numbers_from line (length ws) i at got (numbers_text v ws ++ s) ≡ Ok (parsed (sets got i (v ∷ ws)) (at + length (numbers_text v ws)))
unfolding numbers_from numbers_text
from_reads line v [] i at got s h = rw (number_reads number_bound newline (omega arith) v s ((few v).1 h.0))
from_reads line v (w ∷ ws) i at got s h =
    let size : at + length (number_text comma v) + length (numbers_text w ws) ≡ at + length (number_text comma v ++ numbers_text w ws) =
    omega (arith, length-append (number_text comma v) (numbers_text w ws)) in
    rw (append_assoc (number_text comma v) (numbers_text w ws) s)
    (rw (number_reads number_bound comma (omega arith) v (numbers_text w ws ++ s) ((few v).1 h.0), drop-append_seam, ← size, add-one i)
    (from_reads line w ws (suc i) (at + length (number_text comma v)) (set got i v) s h.1))

-- a line that is written is read: its numbers in the first places, and zeros after them
pub numbers_reads : (line v : ℕ) (ws s : List ℕ) → Few (v ∷ ws)
    → numbers_at line (length ws) (numbers_text v ws ++ s) ≡ Ok (parsed (sets (replicate 4 0) 0 (v ∷ ws)) (length (numbers_text v ws)))
numbers_reads line v ws s h = rw zero-add at (from_reads line v ws 0 0 (replicate 4 0) s h)

-- A step

pub record EventTook (s : List ℕ) (e : Event) (k : ℕ) : Type 0 where
  pub took : Took s (event_text e) k
  pub formed : has_form e ≡ true

-- what a row tells of the text that it was read from
abbrev RowTells : List ℕ → Result (Parsed Event) Fault → Type 0
RowTells s (Ok step) = EventTook s step.value step.size
RowTells s (Err f) = Unit

row_tells : (line : ℕ) (s : List ℕ) → RowTells s (event_at line s)
unfolding event_at event_text
row_tells line s =
    by_opened (RowTells s) (number_at time_bound comma s) tt (λ t i e1.
    by_opened (RowTells s) (number_at number_bound comma (drop i s)) tt (λ p j e2.
    by_opened (RowTells s) (word_at (drop j (drop i s))) tt (λ a k e3.
    let w1 = number_was time_bound comma s t i (omega arith) e1 in
    let w2 = number_was number_bound comma (drop i s) p j (omega arith) e2 in
    let w3 = word_was (drop j (drop i s)) a k e3 in
    record {
      took = rw (add_assoc i j k) (took_both w1.0 (took_both w2.0 w3.0));
      formed = simp tests ((w1.1, w2.1), w3.1);
    })))

-- a step that is read was written
pub event_was : (line : ℕ) (s : List ℕ) (step : Parsed Event) → event_at line s ≡ Ok step → EventTook s step.value step.size
event_was line s step e = rw e at (row_tells line s)

-- a step that is written is read
pub event_reads : (line : ℕ) (e : Event) (s : List ℕ) → has_form e ≡ true
    → event_at line (event_text e ++ s) ≡ Ok (parsed e (length (event_text e)))
unfolding event_at event_text
event_reads line e s h =
    let f = simp tests at h in
    let t : e.time < time_bound = f.0.0 in
    let p : e.process < number_bound = f.0.1 in
    let a : e.action < length words = f.1 in
    simp (
      append_assoc,
      number_reads time_bound comma (omega arith),
      number_reads number_bound comma (omega arith),
      word_reads,
      drop-append_seam,
      length-append,
      add_assoc,
    )
