-- How the lines of the steps follow one another. Assumes nothing.
use Prim.Native.Nat.{ℕ, zero, suc, ◌+◌, ◌≤◌, ◌<◌}
use mathlib.Core.Path.{◌≡◌, refl, sym, ap, ◌∙◌}
use mathlib.Core.List.{List, [], ◌∷◌}
use native.Mathlib.Omega.{arith}
use native.Mathlib.Nat.{add_assoc, zero-add}
use lib.ListN.{length, drop, length-drop}
use lib.Seq.{drop-drop}
use Rattle.std.specs.Prelude.{Result, Ok, Err}
use Rattle.model.specs.declared.Parsed.{Parsed}
use Rattle.model.specs.declared.Fault.{Fault}
use Rattle.model.specs.Texts.{Event}
use Rattle.model.specs.Readings.{event_at, Body, before, body_in, body_of}
use Rattle.model.proofs.Lists.{drop_end}
use Rattle.grammar.proofs.Fields.{took_le}
use Rattle.grammar.proofs.Lines.{event_some, event_was}

-- The first of the lines

-- what a step takes is something
taken_some : (line : ℕ) (s : List ℕ) (step : Parsed Event) → event_at line s ≡ Ok step → 0 < step.size
taken_some line s step e = omega (arith, event_some step.value, (event_was line s step e).took.size)

-- as many lines as may be are the same lines
body_enough : (f g line : ℕ) (s : List ℕ) → length s ≤ f → length s ≤ g → body_in f line s ≡ body_in g line s
unfolding body_in
body_enough zero zero line s h k = refl
body_enough zero (suc g) line [] h k = refl
body_enough zero (suc g) line (x ∷ s) h k = absurd (omega arith)
body_enough (suc f) zero line [] h k = refl
body_enough (suc f) zero line (x ∷ s) h k = absurd (omega arith)
body_enough (suc f) (suc g) line [] h k = refl
body_enough (suc f) (suc g) line (x ∷ s) h k =
    go (event_at line (x ∷ s)) refl (λ i (m : 0 < i).
    body_enough f g (line + 1) (drop i (x ∷ s)) (omega (arith, length-drop i (x ∷ s))) (omega (arith, length-drop i (x ∷ s))))
  where
    go : (r : Result (Parsed Event) Fault) → event_at line (x ∷ s) ≡ r
        → ((i : ℕ) → 0 < i → body_in f (line + 1) (drop i (x ∷ s)) ≡ body_in g (line + 1) (drop i (x ∷ s)))
        → body_in (suc f) line (x ∷ s) ≡ body_in (suc g) line (x ∷ s)
    go (Err f) e same = rw (e, body_in)
    go (Ok step) e same = rw (e, body_in, same step.size (taken_some line (x ∷ s) step e))

pub body_step : (line : ℕ) (s : List ℕ) → 0 < length s → (step : Parsed Event) → event_at line s ≡ Ok step
    → body_of line s ≡ before step.value (body_of (line + 1) (drop step.size s))
unfolding body_of body_in
body_step line [] h step e = absurd (omega arith)
body_step line (x ∷ s) h step e =
    let m = taken_some line (x ∷ s) step e in
    let rest : List ℕ = drop step.size (x ∷ s) in
    rw (e, body_in, body_enough (length s) (length rest) (line + 1) rest (omega (arith, length-drop step.size (x ∷ s))) (omega arith))

pub body_fault : (line : ℕ) (s : List ℕ) → 0 < length s → (f : Fault) → event_at line s ≡ Err f
    → body_of line s ≡ record { events = []; fault = line }
unfolding body_of body_in
body_fault line [] h f e = absurd (omega arith)
body_fault line (x ∷ s) h f e = rw (e, body_in)

pub body_end : (line : ℕ) → body_of line [] ≡ record { events = []; fault = 0 }
unfolding body_of body_in
body_end line = refl

-- A walk along the lines of s, of which the first has the number `first`: `count` steps have been read, and the next line starts at `at`.

pub record Along (s : List ℕ) (first at count : ℕ) : Type 0 where
  pub inside : at ≤ length s
  pub fewer : count ≤ at
  pub counted : count + length (body_of (first + count) (drop at s)).events ≡ length (body_of first s).events
  pub fault : (body_of (first + count) (drop at s)).fault ≡ (body_of first s).fault

pub along_start : (s : List ℕ) (first : ℕ) → Along s first 0 0
along_start s first =
    let z : first + 0 ≡ first = omega arith in
    record { inside = omega arith; fewer = omega arith; counted = rw (z, zero-add); fault = rw z }

pub some_left : (s : List ℕ) (at : ℕ) → at < length s → 0 < length (drop at s)
some_left s at h = omega (arith, length-drop at s)

module _ (s : List ℕ) (first at count : ℕ) (step : Parsed Event) (more : at < length s) (e : event_at (first + count) (drop at s) ≡ Ok step) where
  pub along_turn : body_of (first + count) (drop at s) ≡ before step.value (body_of (first + (count + 1)) (drop (at + step.size) s))
  along_turn = rw (add_assoc, drop-drop) at (body_step (first + count) (drop at s) (some_left s at more) step e)

  pub along_more : 0 < step.size
  along_more = taken_some (first + count) (drop at s) step e

  pub along_inside : at + step.size ≤ length s
  along_inside = omega (arith, took_le (event_was (first + count) (drop at s) step e).took, length-drop at s)

  pub along_step : Along s first at count → Along s first (at + step.size) (count + 1)
  along_step g =
      record {
        inside = along_inside;
        fewer = omega (arith, along_more, g.fewer);
        counted = omega (arith, g.counted, ap (λ (b : Body). length b.events) along_turn);
        fault = sym (ap (λ (b : Body). b.fault) along_turn) ∙ g.fault;
      }

module _ (s : List ℕ) (first at count : ℕ) (g : Along s first at count) where
  pub along_end : length s ≤ at → (count ≡ length (body_of first s).events) × ((body_of first s).fault ≡ 0)
  along_end h =
      let b : body_of (first + count) (drop at s) ≡ record { events = []; fault = 0 } =
      rw (drop_end s at h g.inside) (body_end (first + count)) in
      (omega (arith, g.counted, ap (λ (x : Body). length x.events) b), sym g.fault ∙ ap (λ (x : Body). x.fault) b)

  pub along_fault : (f : Fault) → at < length s → event_at (first + count) (drop at s) ≡ Err f
      → (count ≡ length (body_of first s).events) × ((body_of first s).fault ≡ first + count)
  along_fault f h e =
      let b = body_fault (first + count) (drop at s) (some_left s at h) f e in
      (omega (arith, g.counted, ap (λ (x : Body). length x.events) b), sym g.fault ∙ ap (λ (x : Body). x.fault) b)
