-- Steps that are taken block by block, as many at a time as there are places: where a block leads, and what it leaves of answers.
-- Assumes nothing.
use Prim.Native.Nat.{ℕ, ◌-◌, min}
use mathlib.Core.Path.{◌≡◌, sym, ap, ◌∙◌}
use mathlib.Core.List.{List, [], ◌++◌, map, map-append}
use native.Mathlib.Omega.{arith}
use Rattle.std.proofs.lemmas.List.{take-map}
use lib.ListN.{length, take, drop, length-map, length-take, length-drop}
use lib.Seq.{length-take-le, take-nil, take_all, take-take, take_at}
use Rattle.model.specs.declared.Answer.{Answer}
use Rattle.model.specs.Types.{State}
use Rattle.model.specs.Answers.{answer_numbers}
use Rattle.model.specs.Texts.{Event}
use Rattle.model.specs.Readings.{Lists, lists, room}
use Rattle.model.specs.Writings.{events_of}
use Rattle.model.specs.Folds.{end_by}
use Rattle.model.specs.Executions.{state_from, Executed, executed_gave, executed_all, executed_of}
use Rattle.model.proofs.Folds.{results_append, length_results}
use Rattle.model.proofs.Steps.{length_steps, steps_from}
use Rattle.execution.specs.Blocks.{rows_from, Taken}

-- The rows of answers

pub length_from : (s : State) (events : List Event) → length (rows_from s events) ≡ length events
length_from s events = simp (length-map, length_results)

pub from_append : (s : State) (xs ys : List Event) → rows_from s (xs ++ ys) ≡ rows_from s xs ++ rows_from (state_from s xs) ys
from_append s xs ys = simp (results_append, map-append)

-- One block

-- of the steps in the lists i have been taken, which led to s; the block is the next k, as many as there are places for answers
module _ (s : State) (l : Lists) (answers : List Answer) (i k : ℕ) (count : k ≡ min (length answers) (room l - i)) where
  abbrev block : List Event
  block = take k (drop i (events_of l))

  abbrev rows : List (List ℕ)
  rows = map answer_numbers answers

  length_block : length block ≡ k
  length_block = length-take-le k (drop i (events_of l)) (simp (length-drop, length_steps) (omega arith))

  is_block : take (length rows) (drop i (events_of l)) ≡ block
  is_block =
      let n : length rows ≡ length answers = length-map answers answer_numbers in
      sym (take_all k (take (length rows) (drop i (events_of l))) (simp (length-take, length-drop, length_steps) (omega arith)))
      ∙ take-take k (length rows) (drop i (events_of l)) (omega arith)

  -- it led to t and left the answers m
  module _ {t : State} (m : List Answer)
      (ran : executed_gave t (map answer_numbers m) ≡ executed_of s (events_of (lists (drop i l.times) (drop i l.processes) (drop i l.actions))) rows) where
    block_ran : executed_gave t (map answer_numbers m) ≡ executed_all s block rows
    unfolding executed_of
    block_ran = ran ∙ rw (steps_from l i, is_block)

    pub block_taken : Taken s block k t m
    block_taken = record {
      size = length_block;
      led = ap (λ (x : Executed). x.state) block_ran;
      rows = sym (take-map answer_numbers k m)
          ∙ ap (λ (x : Executed). take k x.answers) block_ran
          ∙ take_at (rows_from s block) (drop (length (rows_from s block)) rows) k (length_from s block ∙ length_block);
    }

-- where no step is left the state is the same
nowhere : (s : State) (k : ℕ) → state_from s (take k []) ≡ s
unfolding end_by
nowhere s k = ap (state_from s) (take-nil k)

pub none_taken : (s : State) (rows : List (List ℕ)) {t : State} {m : List (List ℕ)} {events : List Event}
    → events ≡ [] → executed_gave t m ≡ executed_of s events rows → t ≡ s
unfolding executed_of
none_taken s answers none ran =
    ap (λ (x : Executed). x.state) ran ∙ ap (λ (es : List Event). state_from s (take (length answers) es)) none ∙ nowhere s (length answers)
