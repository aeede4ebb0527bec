-- The loops that take steps, by the record `Going` of model: the steps that there are rows for, a turn, and the end. Assumes nothing.
use Prim.Native.Nat.{ℕ, ◌+◌, ◌≤◌, ◌<◌, min}
use mathlib.Core.Path.{◌≡◌, refl, sym, ap, ◌∙◌}
use mathlib.Core.List.{List, map, map-map}
use native.Mathlib.Omega.{arith}
use lib.ListN.{length, set, take, length-take}
use lib.Seq.{get_or-take}
use Rattle.model.specs.Types.{State}
use Rattle.model.specs.Types.{Outcome}
use Rattle.model.specs.Answers.{answer_numbers}
use Rattle.model.specs.Texts.{Event}
use Rattle.model.specs.Readings.{Lists, room, over}
use Rattle.model.specs.Writings.{events_of, event_in}
use Rattle.model.specs.Folds.{results_by}
use Rattle.model.specs.Executions.{step_by, state_after, executed_gave, executed_of}
use Rattle.model.proofs.Lists.{rows_snoc}
use Rattle.model.proofs.Folds.{Going, sets_out, count_going, moves_on, end_reached, all_written}
use Rattle.model.proofs.Steps.{length_steps, step_at}

-- The steps that there are rows for

abbrev steps_for : Lists → List (List ℕ) → List Event
steps_for l rows = take (length rows) (events_of l)

length_for : (l : Lists) (rows : List (List ℕ)) → length (steps_for l rows) ≡ min (length rows) (room l)
length_for l rows = simp (length-take, length_steps)

-- The loop: of n steps i have been taken, the state is t, and the rows have become m

abbrev row_of : Outcome → List ℕ
row_of o = answer_numbers o.answer

abbrev answered : List Outcome → List (List ℕ) → List (List ℕ)
answered os rows = over (map row_of os) rows

abbrev pub Taking : State → Lists → List (List ℕ) → ℕ → ℕ → State → List (List ℕ) → Type 0
Taking s l rows n i t m = Going step_by state_after steps_for answered s l rows n i t m

pub sets_off : {s : State} {l : Lists} {rows : List (List ℕ)} {n : ℕ} → n ≡ min (length rows) (room l) → Taking s l rows n 0 s rows
sets_off {l = l} {rows = rows} e = sets_out (e ∙ sym (length_for l rows)) refl

module _ {s : State} {l : Lists} {rows : List (List ℕ)} {n i : ℕ} {t : State} {m : List (List ℕ)} (g : Taking s l rows n i t m) where
  pub is_inside : i < n → i < min (length rows) (room l)
  is_inside h = omega (arith, g.all, length_for l rows)

  pub takes_on : i < n → (e : Event) → e ≡ event_in l i → (o : Outcome) → o ≡ step_by t e
      → Taking s l rows n (i + 1) o.state (set m i (answer_numbers o.answer))
  takes_on h e at o gave =
      let inside = is_inside h in
      let this = get_or-take (length rows) (events_of l) i e (omega arith) ∙ step_at l i e (omega arith) ∙ sym at in
      moves_on g h e e this (ap state_after gave)
      (rw (gave, g.written) (rows_snoc row_of g.results rows i (count_going g) (omega arith) _))

  pub all_taken : n ≤ i → executed_gave t m ≡ executed_of s (events_of l) rows
  unfolding executed_of
  all_taken h =
      let same = map-map answer_numbers (λ (o : Outcome). o.answer) (results_by step_by state_after s (steps_for l rows)) in
      λ j. executed_gave (end_reached g h j) ((all_written g h ∙ ap (λ (x : List (List ℕ)). over x rows) (sym same)) j)
