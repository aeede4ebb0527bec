-- Laws of rows of numbers: the calls that rows stand for, one turn of the loop of `run`, the loop by the record `Going` of model, and
-- demand 3 of what it leaves. Assumes nothing.
use Prim.Native.Nat.{ℕ, zero, suc, ◌+◌, ◌≤◌, ◌<◌, min}
use mathlib.Core.Path.{◌≡◌, refl, ap, ◌∙◌}
use mathlib.Core.List.{List, [], ◌∷◌, ◌++◌}
use native.Mathlib.Omega.{arith}
use lib.ListN.{length, get_or, length-take}
use lib.Seq.{get_or-take}
use Rattle.model.specs.declared.Parameters.{Parameters}
use Rattle.model.specs.Types.{State}
use Rattle.model.specs.Types.{Outcome}
use Rattle.model.specs.declared.Statistics.{Statistics}
use Rattle.model.specs.declared.Recorded.{Recorded}
use Rattle.model.specs.Answers.{fresh_of}
use Rattle.model.specs.Calls.{Call, call_of, table_of, handed_on, results_of}
use Rattle.model.proofs.Lists.{row_at, rows_next, rows_snoc}
use Rattle.model.proofs.Folds.{Going, count_going, long_going, moves_on, end_reached, all_written}
use Rattle.theory.proofs.Soundness.{fresh_is}
use Rattle.lists.proofs.Demand3.{every_list}
use Rattle.history.specs.Lists.{Tuple, summary_of, call_in_row, Rows, rows, calls_in, calls_of}
use Rattle.history.specs.Lists.{counts_row, waited_row, answer_row, overwritten, Run, run_gave, ending, ran_from, ran_of, MeetsDemand3}
use Rattle.history.specs.Lists.{call_at, result_at, stored_at, Turn, turn_gave, turn_of}

-- The calls that rows stand for

-- place i is in each of the lists
pub record Inside (i : ℕ) (calls : List Tuple) (l : Rows) : Type 0 where
  pub in_calls : i < length calls
  pub in_counts : i < length l.counts
  pub in_waited : i < length l.waited
  pub in_answers : i < length l.answers

length_calls_in : (rs cs ts : List Tuple) → length (calls_in rs cs ts) ≡ min (length rs) (min (length cs) (length ts))
unfolding calls_in
length_calls_in [] cs ts = omega arith
length_calls_in (r ∷ rs) [] ts = omega arith
length_calls_in (r ∷ rs) (c ∷ cs) [] = omega arith
length_calls_in (r ∷ rs) (c ∷ cs) (t ∷ ts) = omega (arith, length_calls_in rs cs ts)

pub length_calls : (calls : List Tuple) (l : Rows)
    → length (calls_of calls l) ≡ min (min (length calls) (length l.counts)) (min (length l.waited) (length l.answers))
length_calls calls l = simp (length-take, length_calls_in) (omega arith)

call_in_at : (rs cs ts : List Tuple) (i : ℕ) (d : Call) → i < length rs → i < length cs → i < length ts
    → get_or (calls_in rs cs ts) i d ≡ call_in_row (get_or rs i []) (summary_of (get_or cs i []) (get_or ts i []))
unfolding calls_in
call_in_at [] cs ts i d p q r = absurd (omega arith)
call_in_at (a ∷ rs) [] ts i d p q r = absurd (omega arith)
call_in_at (a ∷ rs) (b ∷ cs) [] i d p q r = absurd (omega arith)
call_in_at (a ∷ rs) (b ∷ cs) (c ∷ ts) zero d p q r = refl
call_in_at (a ∷ rs) (b ∷ cs) (c ∷ ts) (suc i) d p q r = call_in_at rs cs ts i d (omega arith) (omega arith) (omega arith)

call-at : (calls : List Tuple) (l : Rows) (i : ℕ) (d : Call) → Inside i calls l → get_or (calls_of calls l) i d ≡ call_at calls l i
call-at calls l i d h =
    get_or-take (length l.answers) (calls_in calls l.counts l.waited) i d h.in_answers
    ∙ call_in_at calls l.counts l.waited i d h.in_calls h.in_counts h.in_waited

-- One turn

pub result-at : (s : State) (calls : List Tuple) (l : Rows) (i : ℕ) (x y z : Tuple) → Inside i calls l → {lent : Statistics} {r : Recorded}
    → lent ≡ summary_of (get_or l.counts i y) (get_or l.waited i z) → r ≡ call_of s (call_in_row (get_or calls i x) lent)
    → r ≡ result_at s calls l i
result-at s calls l i x y z h e made = made ∙ rw e
    (λ j. call_of s (call_in_row (row_at calls i x [] h.in_calls j)
    (summary_of (row_at l.counts i y [] h.in_counts j) (row_at l.waited i z [] h.in_waited j))))

-- the results of the calls before row i have been written
module _ (rs : List Recorded) (calls : List Tuple) (l : Rows) (i : ℕ) (made : length rs ≡ i) (inside : Inside i calls l) where
  -- the next call is lent the summary that stood in its row at first
  call_next : call_at calls (overwritten rs l) i ≡ call_at calls l i
  call_next = λ j. call_in_row (get_or calls i []) (summary_of
      (rows_next counts_row rs l.counts i made inside.in_counts [] j)
      (rows_next waited_row rs l.waited i made inside.in_waited [] j))

  rows_stored : (r : Recorded) → stored_at (overwritten rs l) i r ≡ overwritten (rs ++ (r ∷ [])) l
  rows_stored r = λ j. rows
      (rows_snoc counts_row rs l.counts i made inside.in_counts r j)
      (rows_snoc waited_row rs l.waited i made inside.in_waited r j)
      (rows_snoc answer_row rs l.answers i made inside.in_answers r j)

  after_turn : (t : State) → let r = result_at t calls l i in
      turn_of t calls (overwritten rs l) i ≡ turn_gave r.outcome.state (overwritten (rs ++ (r ∷ [])) l)
  after_turn t =
      ap (λ (d : Call). turn_gave (table_of t d) (stored_at (overwritten rs l) i (call_of t d))) call_next
      ∙ ap (turn_gave (result_at t calls l i).outcome.state) (rows_stored (result_at t calls l i))

-- The loop of `run`: of n calls i have been made, the table is t, and the rows have become m

abbrev pub Turning : State → List Tuple → Rows → ℕ → ℕ → State → Rows → Type 0
Turning s calls l n i t m = Going call_of handed_on calls_of overwritten s calls l n i t m

module _ {s : State} {calls : List Tuple} {l : Rows} {n i : ℕ} {t : State} {m : Rows} (g : Turning s calls l n i t m) where
  pub is_inside : i < n → Inside i calls l
  is_inside h = omega (arith, g.all, length_calls calls l)

  pub turns_on : i < n → {u : State} {k : Rows} → turn_gave u k ≡ turn_of t calls m i → Turning s calls l n (i + 1) u k
  turns_on h e =
      let d : Call = call_at calls l i in
      let gave = e ∙ ap (λ (v : Rows). turn_of t calls v i) g.written ∙ after_turn g.results calls l i (count_going g) (is_inside h) t in
      moves_on g h d d (call-at calls l i d (is_inside h)) (ap (λ (v : Turn). v.state) gave) (ap (λ (v : Turn). v.kept) gave)

  -- no list has become longer or shorter
  pub counts_long : length m.counts ≡ length l.counts
  counts_long = rw g.written (long_going g counts_row l.counts (omega (arith, g.all, length_calls calls l)))

  pub waited_long : length m.waited ≡ length l.waited
  waited_long = rw g.written (long_going g waited_row l.waited (omega (arith, g.all, length_calls calls l)))

  pub answers_long : length m.answers ≡ length l.answers
  answers_long = rw g.written (long_going g answer_row l.answers (omega (arith, g.all, length_calls calls l)))

-- o is the outcome of the fresh table
pub ends : (o : Outcome) {calls : List Tuple} {l : Rows} {n i : ℕ} {t : State} {m : Rows} → Turning o.state calls l n i t m → n ≤ i
    → run_gave (ending o t) m ≡ ran_from o (calls_of calls l) l
ends o g h = λ j. run_gave (ending o (end_reached g h j)) (all_written g h j)

-- Demand 3, which holds of every list, of what the loop leaves

pub ran_demand3 : (k : Parameters) (calls : List Tuple) (l : Rows) {r : Run} → r ≡ ran_of k calls l
    → MeetsDemand3 k calls l r.kept r.outcome.state
unfolding ran_of
ran_demand3 k calls l e accepted = record {
  results = results_of (fresh_of k).state (calls_of calls l);
  written = ap (λ (q : Run). q.kept) e;
  demand3 = rw e (every_list (fresh_of k).state (fresh_is k accepted) (calls_of calls l));
}
