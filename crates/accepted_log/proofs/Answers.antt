-- The accepted log of a process in a text is given exactly where the text is a trace, the process one of it, and there is room for the log; it is
-- refused exactly for want of these, in this order; and the report of the text has the same answers. Assumes nothing.
use Prim.Native.Nat.{ℕ, ◌≤◌, min}
use mathlib.Core.Path.{◌≡◌, refl, sym, ap, subst₂}
use mathlib.Core.Logic.{◌≢◌, ◌↔◌}
use mathlib.Core.Bool.{true}
use mathlib.Core.List.{List, [], ◌∷◌}
use native.Mathlib.Omega.{arith}
use lib.Dec.{ltb}
use lib.ListN.{length, take, drop, length-map}
use lib.Seq.{take-append_seam, drop-append_seam}
use borrow.Author.Tests.{lt-ltb, le-ltb, ltb-true, ltb-false}
use Rattle.model.specs.declared.Parameters.{Parameters}
use Rattle.model.specs.Refusals.{code_of}
use Rattle.model.specs.Answers.{fresh_of}
use Rattle.model.specs.Texts.{Event}
use Rattle.model.specs.Readings.{Trace, refused, trace, trace_of, over}
use Rattle.model.specs.Executions.{answers_from}
use Rattle.model.specs.Reports.{report_text}
use Rattle.model.proofs.Tests.{by_test, by_cond, clash, tests}
use Rattle.model.proofs.Folds.{length_results}
use Rattle.grammar.proofs.Faults.{fault_some}
use Rattle.grammar.proofs.Exact.{TraceTells, trace_tells, read_exactly, refused_exactly}
use Rattle.grammar.proofs.Fits.{events_fit}
use Rattle.local_log.specs.Comparisons.{Entry, entries_of, actions_in, times_in}
use Rattle.accepted_log.specs.AcceptedLogs.{trace_log, LogRead, unlogged, logged, logged_in, is_process, log_into, read_accepted_of}
use Rattle.accepted_log.specs.Answers.{Readable, Gave, AcceptedTell, AcceptedIff, Unreadable, AcceptedRefusedExactly, AcceptedRoom, SameAnswers}
use Rattle.accepted_log.proofs.Runs.{log_short}

-- A log in two lists

entries_back : (log : List Entry) → entries_of (times_in log) (actions_in log) ≡ log
unfolding entries_of
entries_back [] = refl
entries_back (x ∷ log) = ap (λ (l : List Entry). x ∷ l) (entries_back log)

-- the first places are those that were stored, and the others are as they were
stored_front : (xs l : List ℕ) (k : ℕ) → length xs ≡ k → (take k (over xs l) ≡ xs) × (drop k (over xs l) ≡ drop k l)
stored_front xs l k e = rw (← e) (take-append_seam xs (drop (length xs) l), drop-append_seam xs (drop (length xs) l))

gave : (log : List Entry) (times actions : List ℕ) → Gave log times actions (logged log times actions)
gave log times actions =
    let t = stored_front (times_in log) times (length log) (length-map log (λ (x : Entry). x.time)) in
    let a = stored_front (actions_in log) actions (length log) (length-map log (λ (x : Entry). x.action)) in
    record { answer = refl; log_is = rw (t.0, a.0) (entries_back log); times_after = t.1; actions_after = a.1 }

process_iff : (n p : ℕ) → (is_process n p ≡ true) ↔ ((1 ≤ p) × (p ≤ n))
process_iff n p = (λ e. simp tests at e, λ h. simp tests h)

-- Where the log is given

module _ {text : List ℕ} {p : ℕ} {times actions : List ℕ} {line : ℕ} {k : Parameters} {events : List Event}
    (w : Readable text p times actions line k events) where
  given_is : read_accepted_of text p times actions ≡ logged (trace_log k events p) times actions
  unfolding read_accepted_of logged_in
  given_is =
      rw ((read_exactly text line k events).1 w.says, (process_iff k.n p).1 (w.from, w.to), le-ltb _ _ w.fits) refl

pub accepted_tell : AcceptedTell
accepted_tell text p times actions line k events w = rw (given_is w) (gave (trace_log k events p) times actions)

module _ (text : List ℕ) (p : ℕ) (times actions : List ℕ) where
  -- what is told of a text whose log is given
  abbrev Given : LogRead → Type 0
  Given r = r.answer.code ≡ 0 → (line : ℕ) × (k : Parameters) × (events : List Event) × Readable text p times actions line k events

  given : (t : Trace) → TraceTells text t → Given (log_into p times actions t)
  unfolding logged_in
  given (refused why line) told = λ e. absurd (omega (arith, fault_some told))
  given (trace line k events) told = by_cond Given (is_process k.n p)
      (λ i. by_cond Given (ltb (min (length times) (length actions)) (length (trace_log k events p)))
      (λ _ e. absurd (omega arith))
      (λ t _. let h = (process_iff k.n p).0 i in
      (line, k, events, record { says = told; from = h.0; to = h.1; fits = ltb-false _ _ t })))
      (λ _ e. absurd (omega arith))

pub accepted_iff : AcceptedIff
unfolding read_accepted_of
accepted_iff text p times actions = (
  given text p times actions (trace_of text) (trace_tells text),
  λ h. ap (λ (r : LogRead). r.answer.code) (given_is h.3),
)

-- Where it is refused

module _ (text : List ℕ) (p : ℕ) (times actions : List ℕ) (code line : ℕ) (some : code ≢ 0) where
  abbrev Why : LogRead → Type 0
  Why r = r ≡ unlogged code line times actions → Unreadable text p times actions code line

  -- whatever code and line are answered, they are those of the reason for it
  answered : {c l : ℕ} → Unreadable text p times actions c l → unlogged c l times actions ≡ unlogged code line times actions
      → Unreadable text p times actions code line
  answered u same =
      subst₂ (Unreadable text p times actions) (ap (λ (r : LogRead). r.answer.code) same) (ap (λ (r : LogRead). r.answer.time) same) u

  why : (t : Trace) → TraceTells text t → Why (log_into p times actions t)
  unfolding logged_in
  why (refused c l) told = λ same. answered (Unreadable.faulty told) same
  why (trace l k events) told = by_cond Why (is_process k.n p)
      (λ i. let h = (process_iff k.n p).0 i in
      by_cond Why (ltb (min (length times) (length actions)) (length (trace_log k events p)))
      (λ t same. answered (Unreadable.no_room l k events told h.0 h.1 (ltb-true _ _ t)) same)
      (λ t same. absurd (some (sym (ap (λ (r : LogRead). r.answer.code) same)))))
      (λ i same. answered (Unreadable.no_process l k events told (λ f t. clash ((process_iff k.n p).1 (f, t)) i)) same)

so : {text : List ℕ} {p : ℕ} {times actions : List ℕ} {code line : ℕ} → Unreadable text p times actions code line
    → read_accepted_of text p times actions ≡ unlogged code line times actions
unfolding read_accepted_of logged_in
so {text} (Unreadable.faulty {why} {line} f) = rw ((refused_exactly text why line).1 f) refl
so {text} {p} (Unreadable.no_process l k events says n) = by_test (is_process k.n p)
    (λ i. absurd (n ((process_iff k.n p).0 i).0 ((process_iff k.n p).0 i).1))
    (λ i. rw ((read_exactly text l k events).1 says, i) refl)
so {text} {p} (Unreadable.no_room l k events says f t h) =
    rw ((read_exactly text l k events).1 says, (process_iff k.n p).1 (f, t), lt-ltb _ _ h) refl

pub accepted_refused_exactly : AcceptedRefusedExactly
unfolding read_accepted_of
accepted_refused_exactly text p times actions code line some = (why text p times actions code line some (trace_of text) (trace_tells text), so)

-- [13.130]
enough : (text : List ℕ) (p : ℕ) (times actions : List ℕ) → 8187 ≤ length times → 8187 ≤ length actions
    → (t : Trace) → TraceTells text t → (log_into p times actions t).answer.code ≢ 16
unfolding logged_in
enough text p times actions h g (refused r line) told = λ (e : code_of r ≡ 16). omega (arith, fault_some told)
enough text p times actions h g (trace line k events) told = by_cond Not16 (is_process k.n p)
    (λ i. rw (le-ltb _ _ fits) (omega arith))
    (λ i. omega arith)
  where
    Not16 : LogRead → Type 0
    Not16 r = r.answer.code ≢ 16

    fits : length (trace_log k events p) ≤ min (length times) (length actions)
    fits = omega (arith, log_short k events p, events_fit text line k events ((read_exactly text line k events).1 told))

pub accepted_room : AcceptedRoom
unfolding read_accepted_of
accepted_room text p times actions h g = enough text p times actions h g (trace_of text) (trace_tells text)

-- The report of the same text

pub same_answers : SameAnswers
unfolding report_text read_accepted_of
same_answers text p times actions line k events says from to =
    let t = (read_exactly text line k events).1 says in
    (answers_from (fresh_of k).state events, simp (length-map, length_results), rw t refl, rw (t, (process_iff k.n p).1 (from, to)) refl)
