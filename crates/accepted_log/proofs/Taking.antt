-- The steps that are taken while what was accepted is moved to the front of their lists: as nothing changes that is yet to be looked at, a
-- block is that of the lists as they were. Assumes nothing.
use Prim.Native.Nat.{ℕ, ◌+◌, ◌-◌, ◌≤◌}
use mathlib.Core.Path.{◌≡◌, refl, sym, ap, ◌∙◌}
use mathlib.Core.List.{List, ◌++◌, map}
use native.Mathlib.Omega.{arith}
use Rattle.std.proofs.lemmas.List.{drop-take}
use lib.ListN.{length, take, drop, length-map, length-take}
use lib.Seq.{drop-drop, take-take}
use Rattle.model.specs.declared.Answer.{Answer}
use Rattle.model.specs.Texts.{Event}
use Rattle.model.specs.Readings.{Lists}
use Rattle.model.specs.Writings.{events_of}
use Rattle.model.specs.Executions.{attempts_of, attempts_from}
use Rattle.model.proofs.Steps.{from, steps_from}
use Rattle.grammar.specs.RoundTrips.{first_of}
use Rattle.execution.specs.declared.running.Run.{Run}
use Rattle.execution.specs.Blocks.{attempts_by, Took}
use Rattle.execution.proofs.Lent.{steps_first}
use Rattle.execution.proofs.Attempts.{codes_front, took_next}

-- Parts of the first n of a list

front_after : {A : Type 0} (n i : ℕ) (xs : List A) → i ≤ n → drop i (take n xs) ≡ take (n - i) (drop i xs)
front_after n i xs h =
    let whole : n ≡ i + (n - i) = omega arith in
    ap (λ (k : ℕ). drop i (take k xs)) whole ∙ drop-take i (n - i) xs

same_after : {A : Type 0} (n i : ℕ) (xs ys : List A) → i ≤ n → drop i xs ≡ drop i ys → drop i (take n xs) ≡ drop i (take n ys)
same_after n i xs ys h e = front_after n i xs h ∙ ap (take (n - i)) e ∙ sym (front_after n i ys h)

-- as many steps as there are codes are of account
codes_within : (n i : ℕ) (es : List Event) (codes : List ℕ) → i + length codes ≤ n
    → attempts_of (drop i (take n es)) codes ≡ attempts_of (drop i es) codes
codes_within n i es codes h =
    codes_front (drop i (take n es)) codes
    ∙ ap (λ (xs : List Event). attempts_of (take (length codes) xs) codes) (front_after n i es (omega arith))
    ∙ ap (λ (xs : List Event). attempts_of xs codes) (take-take (length codes) (n - i) (drop i es) (omega arith))
    ∙ sym (codes_front (drop i es) codes)

-- One block

-- from place i on the lists l are as the lists m
module _ (l m : Lists) (i : ℕ) (same : from i l ≡ from i m) where
  events_after : (j : ℕ) → i ≤ j → drop j (events_of l) ≡ drop j (events_of m)
  events_after j h =
      let whole : i + (j - i) ≡ j = omega arith in
      let further : (x : Lists) → drop j (events_of x) ≡ drop (j - i) (events_of (from i x)) =
      λ x. rw (steps_from x i, drop-drop (j - i) i (events_of x), whole) refl in
      further l ∙ ap (λ (x : Lists). drop (j - i) (events_of x)) same ∙ sym (further m)

  -- of the first n steps too
  firsts_after : (n j : ℕ) → i ≤ j → j ≤ n → drop j (events_of (first_of n l)) ≡ drop j (take n (events_of m))
  firsts_after n j h g = ap (drop j) (steps_first n l) ∙ same_after n j (events_of l) (events_of m) g (events_after j h)

-- the attempts of a block that was taken of these, and then those of the steps that are left in m
module _ (l m : Lists) {n k : ℕ} {r t : Run} (took : Took r (first_of n l) k t) (same : from r.taken l ≡ from r.taken m) (h : r.taken + k ≤ n) where
  abbrev answers : List Answer
  answers = take k t.answers

  block_within : attempts_by (from (t.taken - k) (first_of n l)) answers ≡ attempts_by (from (t.taken - k) l) answers
  block_within =
      let codes : List ℕ = map (λ (a : Answer). a.code) answers in
      let j : ℕ = t.taken - k in
      let few : j + length codes ≤ n = omega (arith, took.counted, length-map answers (λ (a : Answer). a.code), length-take k t.answers) in
      ap (λ (es : List Event). attempts_of es codes) (steps_from (first_of n l) j ∙ ap (drop j) (steps_first n l))
      ∙ codes_within n j (events_of l) codes few
      ∙ ap (λ (es : List Event). attempts_of es codes) (sym (steps_from l j))

  pub block_kept : attempts_from r.state (drop r.taken (take n (events_of m)))
      ≡ attempts_by (from (t.taken - k) l) answers ++ attempts_from t.state (drop t.taken (take n (events_of m)))
  block_kept =
      let here = firsts_after l m r.taken same n r.taken (omega arith) (omega arith) in
      let behind = firsts_after l m r.taken same n t.taken (omega (arith, took.counted)) (omega (arith, took.counted)) in
      ap (attempts_from r.state) (sym here) ∙ took_next took ∙ rw (block_within, behind) refl
