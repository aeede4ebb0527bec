-- The statements about chains of calls on lent deadline tables: the contracts allow one result each, that of the definitions; a list of calls on the
-- numbers of a state of deadlines is the list of its steps, in numbers; and the two ways to and fro undo each other. Assumes nothing.
use Prim.Native.Nat.{ℕ, ◌≤◌}
use mathlib.Core.Path.{◌≡◌, refl, sym, ap, ◌∙◌}
use mathlib.Core.Bool.{true}
use mathlib.Core.List.{List, [], ◌∷◌, ◌++◌, map}
use native.Mathlib.Omega.{arith}
use lib.Dec.{eqb, ltb}
use lib.ListN.{length, drop}
use borrow.Author.Tests.{eq-eqb, eqb-true, eqb-false, le-ltb}
use Rattle.model.specs.declared.Parameters.{Parameters}
use Rattle.model.specs.Types.{State}
use Rattle.model.specs.Answers.{answer_of}
use Rattle.model.specs.States.{parameters_of, sound_of}
use Rattle.model.specs.Folds.{end_by, results_by}
use Rattle.model.specs.Readings.{over}
use Rattle.model.specs.Texts.{Event}
use Rattle.layout.specs.Encodings.{table_length, state_numbers, table_in, is_sound_table}
use Rattle.layout.specs.Interface.{Lent, lent_gave}
use Rattle.layout.specs.Numbers.{IsWhole}
use Rattle.deadlines.specs.Types.{DeadlineState}
use Rattle.deadlines.specs.Types.{DeadlineOutcome}
use Rattle.deadlines.specs.Deadlines.{sound_with, step_with, fresh_with}
use Rattle.deadlines.specs.Matching.{matched, arrived, to_deadlines, to_arrivals}
use Rattle.matching.specs.Facts.{AcceptedWith}
use Rattle.matching.specs.Lists.{step_by_deadlines, steps_with, run_with, Demand3With}
use Rattle.deadline_layout.specs.Encodings.{deadline_length, state_numbers_with, deadline_table_in, is_sound_deadline_table}
use Rattle.deadline_layout.specs.Numbers.{IsWholeWith}
use Rattle.deadline_layout.specs.Interface.{lent_fresh_with, lent_step_with, lent_to_deadlines, lent_to_arrivals}
use Rattle.model.proofs.Tests.{by_test}
use Rattle.model.proofs.Lists.{over_seam}
use Rattle.model.proofs.Folds.{chain_results, chain_last, list_chain}
use Rattle.theory.specs.Soundness.{ParametersStand}
use Rattle.theory.proofs.Soundness.{fresh_is_plain}
use Rattle.layout.proofs.Encodings as tables
use Rattle.deadlines.proofs.Judging.{exit_unsound_with}
use Rattle.deadlines.proofs.Matched.{length_dated, length_arrived, sound_same, sound_matched, arrived_matched}
use Rattle.deadline_layout.proofs.Encodings.{table-length, deadlines_come_back, deadlines_are_whole, sound_is_table, table_is_sound}
use Rattle.deadline_layout.proofs.Starting.{fresh_whole}
use Rattle.matching.proofs.Matchings.{matches_matched}
use Rattle.matching.proofs.Engines.{fresh_match, arrived_matches, arrived_sound}
use Rattle.matching.proofs.Acceptance.{next_is_changed_with, refused_stays_with}
use Rattle.matching.proofs.Demand3.{every_list_with}
use Rattle.exported.specs.DeadlineChains.{StartsDeadlines, StepsDeadlines, GoesToDeadlines, GoesToArrivals, MadeOnDeadlines, numbers_after}
use Rattle.exported.specs.DeadlineChains.{NotStuckOnDeadlines, in_numbers_with, EveryDeadlineTableChain, SomeDeadlineTableChain}
use Rattle.exported.specs.DeadlineChains.{EveryThereAndBack, EveryBackAndThere}
use Rattle.exported.proofs.Lending.{lending, whole, lending_limits}

-- One result is allowed

starts_is : (k : Parameters) (table : List ℕ) (r : Lent) → StartsDeadlines k table r → r ≡ lent_fresh_with k table
starts_is k table r s = rw (s.1.list.entry, s.1.told, s.2.entry, s.2.exit) at s.3

steps_is : (table : List ℕ) (act p m : ℕ) (r : Lent) → StepsDeadlines table act p m r → r ≡ lent_step_with table act p m
steps_is table act p m r s = rw (s.1.entry, s.1.exit) at s.2

to_is : (table out : List ℕ) (r : Lent) → GoesToDeadlines table out r → r ≡ lent_to_deadlines table out
to_is table out r s = rw (s.1.entry, s.2.entry, s.2.exit) at s.3

fro_is : (deadlines out : List ℕ) (r : Lent) → GoesToArrivals deadlines out r → r ≡ lent_to_arrivals deadlines out
fro_is deadlines out r s = rw (s.1.entry, s.2.entry, s.2.exit) at s.3

-- A step in numbers

step_whole : (d : DeadlineState) (act p m : ℕ) → IsWholeWith d → IsWholeWith (step_with d act p m).state
step_whole d act p m size =
    by_test (eqb (step_with d act p m).answer.code 0)
    (λ e. let changed = next_is_changed_with d size.entries act p m (eqb-true _ 0 e) in record {
      limits = ap (λ (k : Parameters). length k.a) changed.parameters_stay ∙ size.limits;
      entries = changed.size_stays ∙ size.entries;
    })
    (λ e. rw (refused_stays_with d act p m (eqb-false _ 0 e)) size)

step_numbers : (d : DeadlineState) → IsWholeWith d → (rest : List ℕ) (act p m : ℕ)
    → lent_step_with (state_numbers_with d ++ rest) act p m ≡ in_numbers_with rest (step_with d act p m)
unfolding lent_step_with is_sound_deadline_table
step_numbers d size rest act p m =
    let told = deadlines_come_back d size rest in
    by_test (sound_with d)
    (λ e. rw (told.0, told.1, e) (ap (lent_gave (step_with d act p m).answer)
    (over_seam (state_numbers_with (step_with d act p m).state) (state_numbers_with d) rest
    (table-length (step_with d act p m).state (step_whole d act p m size) ∙ sym (table-length d size)))))
    (λ e. rw (told.0, told.1, e) (rw (sym (exit_unsound_with d act p m e))))

-- Lists of calls

-- the call that an action asks for, on any numbers
abbrev lent_by : List ℕ → Event → Lent
lent_by l e = lent_step_with l e.action e.process e.time

made_is : (l : List ℕ) (e : Event) (r : Lent) → MadeOnDeadlines l e r → r ≡ lent_by l e
made_is l e r h = steps_is l e.action e.process e.time r h

-- what comes of a list on the numbers of d is what comes of it on d, in numbers
record InNumbers (d : DeadlineState) (rest : List ℕ) (es : List Event) : Type 0 where
  results : results_by lent_by numbers_after (state_numbers_with d ++ rest) es ≡ map (in_numbers_with rest) (steps_with d es)
  last : end_by lent_by numbers_after (state_numbers_with d ++ rest) es ≡ state_numbers_with (run_with d es) ++ rest

list_numbers : (d : DeadlineState) → IsWholeWith d → (rest : List ℕ) (es : List Event) → InNumbers d rest es
unfolding results_by end_by
list_numbers d size rest [] = record { results = refl; last = refl }
list_numbers d size rest (e ∷ es) =
    let next = step_by_deadlines d e in
    let first = step_numbers d size rest e.action e.process e.time in
    let more = list_numbers next.state (step_whole d e.action e.process e.time size) rest es in
    record {
      results = (λ i. first i ∷ results_by lent_by numbers_after (first i).table es) ∙ ap (λ (rs : List Lent). in_numbers_with rest next ∷ rs) more.results;
      last = ap (λ (r : Lent). end_by lent_by numbers_after r.table es) first ∙ more.last;
    }

-- A fresh table

record Began (k : Parameters) (table : List ℕ) : Type 0 where
  accepted : AcceptedWith (fresh_with k)
  numbers : (lent_fresh_with k table).table ≡ state_numbers_with (fresh_with k).state ++ drop deadline_length table

began : (k : Parameters) (table : List ℕ) → (lent_fresh_with k table).answer.code ≡ 0 → Began k table
unfolding lent_fresh_with
began k table e =
    by_test (eqb (fresh_with k).answer.code 0)
    (λ t. by_test (ltb (length table) deadline_length)
    (λ s. absurd (omega (arith, rw (t, s) at e)))
    (λ s. record { accepted = eqb-true _ 0 t; numbers = rw (t, s, table-length (fresh_with k).state (fresh_whole k)) }))
    (λ t. absurd (eqb-false _ 0 t (rw t at e)))

-- Demand 3

not_stuck_on : {k : Parameters} {es : List Event} {rs : List DeadlineOutcome} (t : DeadlineState) → IsWholeWith t → (rest : List ℕ)
    → Demand3With k es rs t → NotStuckOnDeadlines t (state_numbers_with t ++ rest)
not_stuck_on t size rest h = record {
  waits = λ b g a. rw (steps_is _ _ _ _ g a ∙ step_numbers t size rest _ _ _) (h.waits b);
  acts = λ i f due. let may = h.acts i f due in (may.0, may.1, λ g a. rw (steps_is _ _ _ _ g a ∙ step_numbers t size rest _ _ _) may.2);
}

run_whole : (d : DeadlineState) → IsWholeWith d → (es : List Event) → IsWholeWith (run_with d es)
unfolding end_by
run_whole d size [] = size
run_whole d size (e ∷ es) = run_whole (step_by_deadlines d e).state (step_whole d e.action e.process e.time size) es

pub every_deadline_table_chain : EveryDeadlineTableChain
every_deadline_table_chain k table f es rs s e ch =
    let fresh = starts_is k table f s in
    let start = began k table (rw fresh at e) in
    let rest = drop deadline_length table in
    let d = (fresh_with k).state in
    let holds = every_list_with k start.accepted es in
    let from : f.table ≡ state_numbers_with d ++ rest = ap (λ (r : Lent). r.table) fresh ∙ start.numbers in
    let lists = list_numbers d (fresh_whole k) rest es in
    let left = chain_last numbers_after made_is ch ∙ ap (λ (l : List ℕ). end_by lent_by numbers_after l es) from ∙ lists.last in
    record {
      results = steps_with d es;
      last = run_with d es;
      results_are = chain_results numbers_after made_is ch ∙ ap (λ (l : List ℕ). results_by lent_by numbers_after l es) from ∙ lists.results;
      last_is = left;
      demand3 = holds;
      not_stuck = rw left (not_stuck_on (run_with d es) (run_whole d (fresh_whole k) es) rest holds);
    }

-- Every list has a chain

made_for : (l : List ℕ) (e : Event) → MadeOnDeadlines l e (lent_by l e)
made_for l e = (([], tt), lending l (lent_by l e).table, refl)

begins : (k : Parameters) (table : List ℕ) → ParametersStand k → deadline_length ≤ length table → (lent_fresh_with k table).answer.code ≡ 0
unfolding lent_fresh_with
begins k table stand long =
    let e : (fresh_with k).answer.code ≡ 0 = rw (fresh_match k).answer ((fresh_is_plain k).accepted.1 stand) in
    simp (eq-eqb (fresh_with k).answer.code 0 e, le-ltb (length table) deadline_length long) e

starts_for : (k : Parameters) (table : List ℕ) → ParametersStand k → StartsDeadlines k table (lent_fresh_with k table)
starts_for k table stand = (
  ([], ([], tt)),
  lending_limits k.a stand.limits.size,
  lending table (lent_fresh_with k table).table,
  ap (λ (a : List ℕ). lent_fresh_with (parameters_of k.n k.b k.c a) table) (sym (whole k.a stand.limits.size)),
)

pub some_deadline_table_chain : SomeDeadlineTableChain
some_deadline_table_chain = record {
  start = λ k table stand long. (lent_fresh_with k table, starts_for k table stand, begins k table stand long);
  chain = λ l es. (results_by lent_by numbers_after l es, list_chain lent_by numbers_after made_for l es);
}

-- To and fro

module _ (table : List ℕ) (sound : is_sound_table table ≡ true) where
  abbrev s : State
  s = table_in table

  s_sound : sound_of s ≡ true
  s_sound = tables.table_is_sound table sound

  matched_whole : IsWholeWith (matched s)
  matched_whole =
      let all = tables.table_is_whole table (tables.sound_is_table table sound) in
      record { limits = all.limits; entries = length_dated s.parameters 1 s.processes ∙ all.entries }

  -- what stands after the numbers of the deadline table
  goes_to : (deadlines : List ℕ) → deadline_length ≤ length deadlines
      → lent_to_deadlines table deadlines ≡ lent_gave (answer_of 0 0 0) (state_numbers_with (matched s) ++ drop deadline_length deadlines)
  unfolding lent_to_deadlines to_deadlines
  goes_to deadlines long =
      rw (sound, le-ltb (length deadlines) deadline_length long, s_sound, table-length (matched s) matched_whole)

  comes_back : (rest out : List ℕ) → table_length ≤ length out
      → lent_to_arrivals (state_numbers_with (matched s) ++ rest) out ≡ lent_gave (answer_of 0 0 0) (over (state_numbers s) out)
  unfolding lent_to_arrivals is_sound_deadline_table to_arrivals
  comes_back rest out long =
      let told = deadlines_come_back (matched s) matched_whole rest in
      rw (told.0, told.1, sound_same s ∙ s_sound, le-ltb (length out) table_length long)
      (ap (λ (t : State). lent_gave (answer_of 0 0 0) (over (state_numbers t) out)) (arrived_matched s))

  sound_told : (rest : List ℕ) → is_sound_deadline_table (state_numbers_with (matched s) ++ rest) ≡ true
  unfolding is_sound_deadline_table
  sound_told rest = let told = deadlines_come_back (matched s) matched_whole rest in rw (told.0, told.1) (sound_same s ∙ s_sound)

pub every_there_and_back : EveryThereAndBack
every_there_and_back table deadlines out to fro sound long room t f =
    let there = to_is table deadlines to t ∙ goes_to table sound deadlines long in
    let rest = drop deadline_length deadlines in
    let told = deadlines_come_back (matched (table_in table)) (matched_whole table sound) rest in
    record {
      answer = ap (λ (r : Lent). r.answer) there;
      sound = rw there (sound_told table sound rest);
      matches = rw (there, told.1) (matches_matched (table_in table));
      back = fro_is to.table out fro f ∙ rw there (comes_back table sound rest out room);
    }

module _ (deadlines : List ℕ) (sound : is_sound_deadline_table deadlines ≡ true) where
  abbrev d : DeadlineState
  d = deadline_table_in deadlines

  d_sound : sound_with d ≡ true
  d_sound = table_is_sound deadlines sound

  arrived_whole : IsWhole (arrived d)
  arrived_whole =
      let all = deadlines_are_whole deadlines (sound_is_table deadlines sound) in
      record { limits = all.limits; entries = length_arrived d.parameters d.processes ∙ all.entries }

  -- what stands after the numbers of the table
  goes_fro : (table : List ℕ) → table_length ≤ length table
      → lent_to_arrivals deadlines table ≡ lent_gave (answer_of 0 0 0) (state_numbers (arrived d) ++ drop table_length table)
  unfolding lent_to_arrivals to_arrivals
  goes_fro table long =
      rw (sound, le-ltb (length table) table_length long, d_sound, tables.table-length (arrived d) arrived_whole)

  arrivals_told : (rest : List ℕ) → is_sound_table (state_numbers (arrived d) ++ rest) ≡ true
  unfolding is_sound_table
  arrivals_told rest = let told = tables.table_comes_back (arrived d) arrived_whole rest in rw (told.0, told.1) (arrived_sound d d_sound)

  deadlines_back : (rest out : List ℕ) → deadline_length ≤ length out
      → lent_to_deadlines (state_numbers (arrived d) ++ rest) out ≡ lent_gave (answer_of 0 0 0) (over (state_numbers_with d) out)
  unfolding lent_to_deadlines is_sound_table to_deadlines
  deadlines_back rest out long =
      let told = tables.table_comes_back (arrived d) arrived_whole rest in
      rw (told.0, told.1, arrived_sound d d_sound, le-ltb (length out) deadline_length long)
      (ap (λ (x : DeadlineState). lent_gave (answer_of 0 0 0) (over (state_numbers_with x) out)) (sound_matched d d_sound))

pub every_back_and_there : EveryBackAndThere
every_back_and_there deadlines table out fro to sound long room f t =
    let back = fro_is deadlines table fro f ∙ goes_fro deadlines sound table long in
    let rest = drop table_length table in
    let told = tables.table_comes_back (arrived (deadline_table_in deadlines)) (arrived_whole deadlines sound) rest in
    record {
      answer = ap (λ (r : Lent). r.answer) back;
      sound = rw back (arrivals_told deadlines sound rest);
      matches = rw (back, told.1) (arrived_matches (deadline_table_in deadlines) (d_sound deadlines sound));
      back = to_is fro.table out to t ∙ rw back (deadlines_back deadlines sound rest out room);
    }
