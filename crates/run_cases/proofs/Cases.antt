-- The test of a table of cases, which antt computes, and the law that a table which passes it holds. Outcomes are compared part by
-- part. A customer need not believe the test: the contract of `table` is `Hold`. Assumes nothing.
use Prim.Native.Nat.{ℕ}
use mathlib.Core.Path.{◌≡◌, refl, sym, ◌∙◌}
use mathlib.Core.Bool.{Bool, true, false, ◌&&◌, false≢true}
use mathlib.Core.List.{List, [], ◌∷◌}
use lib.Dec.{eqb}
use Rattle.model.specs.Types.{Location}
use Rattle.model.specs.declared.Parameters.{Parameters}
use Rattle.model.specs.Types.{Process}
use Rattle.model.specs.Types.{State}
use Rattle.model.specs.declared.Answer.{Answer}
use Rattle.model.specs.Types.{Outcome}
use Rattle.model.specs.States.{entry, stage_of, since_of, location_at}
use Rattle.model.proofs.Locations.{location_is}
use borrow.Author.Tests.{eqb-true}
use Rattle.model.proofs.Tests.{and_true_iff, tests}
use Rattle.run_cases.specs.declared.calls.Row.{Row}
use Rattle.run_cases.specs.Cases.{called_of, expected_of, Hold}

-- The test

unfoldable pub same_answer : Answer → Answer → Bool
same_answer x y = eqb x.code y.code && eqb x.process y.process && eqb x.time y.time

unfoldable pub same_numbers : List ℕ → List ℕ → Bool
same_numbers [] [] = true
same_numbers [] (y ∷ ys) = false
same_numbers (x ∷ xs) [] = false
same_numbers (x ∷ xs) (y ∷ ys) = eqb x y && same_numbers xs ys

unfoldable pub same_parameters : Parameters → Parameters → Bool
same_parameters x y = eqb x.n y.n && eqb x.b y.b && eqb x.c y.c && same_numbers x.a y.a

unfoldable pub same_entry : Process → Process → Bool
same_entry p q = eqb (stage_of p.location) (stage_of q.location) && eqb (since_of p.location) (since_of q.location)

unfoldable pub same_entries : List Process → List Process → Bool
same_entries [] [] = true
same_entries [] (q ∷ qs) = false
same_entries (p ∷ ps) [] = false
same_entries (p ∷ ps) (q ∷ qs) = same_entry p q && same_entries ps qs

unfoldable pub same_state : State → State → Bool
same_state x y =
    same_parameters x.parameters y.parameters && eqb x.clock y.clock && eqb x.word y.word
    && same_entries x.processes y.processes

unfoldable pub same_outcome : Outcome → Outcome → Bool
same_outcome x y = same_answer x.answer y.answer && same_state x.state y.state

unfoldable pub passes : State → List Row → Bool
passes s [] = true
passes s (row ∷ rows) = same_outcome (called_of s row) (expected_of row) && passes (called_of s row).state rows

-- What is the same is equal

answer_equal : (x y : Answer) → same_answer x y ≡ true → x ≡ y
unfolding same_answer
answer_equal x y t = let h = simp tests at t in λ i. record { code = h.0.0 i; process = h.0.1 i; time = h.1 i }

numbers_equal : (xs ys : List ℕ) → same_numbers xs ys ≡ true → xs ≡ ys
unfolding same_numbers
numbers_equal [] [] t = refl
numbers_equal [] (y ∷ ys) t = absurd (false≢true t)
numbers_equal (x ∷ xs) [] t = absurd (false≢true t)
numbers_equal (x ∷ xs) (y ∷ ys) t =
    let h = (and_true_iff (eqb x y) (same_numbers xs ys)).0 t in
    λ i. eqb-true x y h.0 i ∷ numbers_equal xs ys h.1 i

parameters_equal : (x y : Parameters) → same_parameters x y ≡ true → x ≡ y
unfolding same_parameters
parameters_equal x y t =
    let h = simp tests at t in
    λ i. record { n = h.0.0.0 i; b = h.0.0.1 i; c = h.0.1 i; a = numbers_equal x.a y.a h.1 i }

-- a location is told by its stage and its since
location_equal : (l m : Location) → stage_of l ≡ stage_of m → since_of l ≡ since_of m → l ≡ m
location_equal l m e f = location_is l ∙ (λ i. location_at (e i) (f i)) ∙ sym (location_is m)

entry_equal : (p q : Process) → same_entry p q ≡ true → p ≡ q
unfolding same_entry
entry_equal p q t = let h = simp tests at t in λ i. entry (location_equal p.location q.location h.0 h.1 i)

entries_equal : (ps qs : List Process) → same_entries ps qs ≡ true → ps ≡ qs
unfolding same_entries
entries_equal [] [] t = refl
entries_equal [] (q ∷ qs) t = absurd (false≢true t)
entries_equal (p ∷ ps) [] t = absurd (false≢true t)
entries_equal (p ∷ ps) (q ∷ qs) t =
    let h = (and_true_iff (same_entry p q) (same_entries ps qs)).0 t in
    λ i. entry_equal p q h.0 i ∷ entries_equal ps qs h.1 i

state_equal : (x y : State) → same_state x y ≡ true → x ≡ y
unfolding same_state
state_equal x y t =
    let h = simp tests at t in
    λ i. record {
      parameters = parameters_equal x.parameters y.parameters h.0.0.0 i;
      clock = h.0.0.1 i;
      word = h.0.1 i;
      processes = entries_equal x.processes y.processes h.1 i;
    }

outcome_equal : (x y : Outcome) → same_outcome x y ≡ true → x ≡ y
unfolding same_outcome
outcome_equal x y t =
    let h = (and_true_iff (same_answer x.answer y.answer) (same_state x.state y.state)).0 t in
    λ i. record { answer = answer_equal x.answer y.answer h.0 i; state = state_equal x.state y.state h.1 i }

-- The law

pub hold : (s : State) (rows : List Row) → passes s rows ≡ true → Hold s rows
unfolding Hold passes
hold s [] t = tt
hold s (row ∷ rows) t =
    let next = (called_of s row).state in
    let h = (and_true_iff (same_outcome (called_of s row) (expected_of row)) (passes next rows)).0 t in
    (outcome_equal (called_of s row) (expected_of row) h.0, hold next rows h.1)
