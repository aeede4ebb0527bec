-- A line that is no step, with what it is refused with, and what a pass over the lines answers. Assumes nothing.
use Prim.Native.Nat.{ℕ, ◌+◌, ◌≤◌, ◌<◌}
use mathlib.Core.Path.{◌≡◌, refl, sym, ap}
use mathlib.Core.Bool.{true, false}
use lib.Dec.{eqb}
use mathlib.Core.List.{List}
use native.Mathlib.Omega.{arith}
use lib.ListN.{length, drop, length-drop}
use lib.Seq.{drop-drop}
use borrow.Author.Tests.{ne_eqb, eqb-true, eqb-false}
use Rattle.std.specs.Prelude.{Result, Ok, Err}
use Rattle.model.specs.declared.Refusal.TheVariants.{BadLine}
use Rattle.model.specs.declared.Parsed.{Parsed}
use Rattle.model.specs.declared.Fault.{Fault}
use Rattle.model.specs.Texts.{Event, comma, time_bound, number_bound}
use Rattle.model.specs.Readings.{fault, number_at, word_at, event_at, body_of}
use Rattle.grammar.proofs.Lines.{by_opened}
use Rattle.grammar.proofs.Bodies.{Along, along_start, along_step, along_more, along_inside, along_end, along_fault}
use Rattle.trace.specs.Passes.{counted_of}

abbrev Refuses : ℕ → Result (Parsed Event) Fault → Type 0
Refuses line (Ok row) = Unit
Refuses line (Err f) = f ≡ fault BadLine line

row_refuses : (line : ℕ) (s : List ℕ) → Refuses line (event_at line s)
unfolding event_at
row_refuses line s =
    by_opened (Refuses line) (number_at time_bound comma s) refl (λ t i _.
    by_opened (Refuses line) (number_at number_bound comma (drop i s)) refl (λ p j _.
    by_opened (Refuses line) (word_at (drop j (drop i s))) refl (λ a k _. tt)))

row_refused : (line : ℕ) (s : List ℕ) (f : Fault) → event_at line s ≡ Err f → f ≡ fault BadLine line
row_refused line s f e = rw e at (row_refuses line s)

-- Where a walk along the lines ends

module _ (s : List ℕ) (first at count : ℕ) (g : Along s first at count) where
  pub answer_steps : length s ≤ at → Ok count ≡ counted_of (body_of first s)
  answer_steps h = let e = along_end s first at count g h in rw (e.1, e.0)

  pub answer_fault : 0 < first → (f : Fault) → at < length s → event_at (first + count) (drop at s) ≡ Err f
      → Err f ≡ counted_of (body_of first s)
  answer_fault some f h e =
      let t = along_fault s first at count g f h e in
      rw (row_refused (first + count) (drop at s) f e, t.1) (simp (ne_eqb (first + count) 0 (λ (z : first + count ≡ 0). omega arith)))

pub some_bytes : (l : List ℕ) → false ≡ eqb (length l) 0 → 0 < length l
some_bytes l e = let n = eqb-false (length l) 0 (sym e) in omega arith

pub no_bytes : (l : List ℕ) → true ≡ eqb (length l) 0 → length l ≡ 0
no_bytes l e = eqb-true (length l) 0 (sym e)

-- a walk that has come to where `rest` starts: `count` steps have been read
pub record Walk (s : List ℕ) (first : ℕ) (rest : List ℕ) (count : ℕ) : Type 0 where
  pub at : ℕ
  pub rest_is : rest ≡ drop at s
  pub along : Along s first at count

unfoldable pub walk_start : (s : List ℕ) (first : ℕ) → Walk s first s 0
walk_start s first = record { at = 0; rest_is = refl; along = along_start s first }

module _ {s : List ℕ} {first : ℕ} {rest : List ℕ} {count : ℕ} (w : Walk s first rest count) where
  -- no more steps than bytes
  pub walk_fewer : count + length rest ≤ length s
  walk_fewer = let g = w.along in omega (arith, g.fewer, g.inside, ap length w.rest_is, length-drop w.at s)

  pub walk_past : length rest ≡ 0 → length s ≤ w.at
  walk_past z = let g = w.along in omega (arith, g.inside, ap length w.rest_is, length-drop w.at s)

  pub walk_end : length rest ≡ 0 → Ok count ≡ counted_of (body_of first s)
  walk_end z = answer_steps s first w.at count w.along (walk_past z)

  module _ (some : 0 < length rest) where
    pub walk_more : w.at < length s
    walk_more = omega (arith, ap length w.rest_is, length-drop w.at s)

    pub walk_fault : 0 < first → (f : Fault) → event_at (first + count) rest ≡ Err f → Err f ≡ counted_of (body_of first s)
    walk_fault h f e = answer_fault s first w.at count w.along h f walk_more (rw w.rest_is at e)

    module _ (row : Parsed Event) (e : event_at (first + count) rest ≡ Ok row) where
      pub walk_some : 0 < row.size
      walk_some = along_more s first w.at count row walk_more (rw w.rest_is at e)

      pub walk_within : row.size ≤ length rest
      walk_within = omega (arith, along_inside s first w.at count row walk_more (rw w.rest_is at e), ap length w.rest_is, length-drop w.at s)

      unfoldable pub walk_step : Walk s first (drop row.size rest) (count + 1)
      walk_step = record {
        at = w.at + row.size;
        rest_is = rw w.rest_is (drop-drop row.size w.at s);
        along = along_step s first w.at count row walk_more (rw w.rest_is at e) w.along;
      }
