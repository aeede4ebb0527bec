-- The intervals of a text are written exactly where it is a trace and there is room for them, and refused exactly for a fault or for want of
-- room; its report has the same answers and faults. Assumes nothing.
use Prim.Native.Nat.{ℕ, ◌≤◌}
use mathlib.Core.Path.{◌≡◌, refl, sym, ap, subst₂}
use mathlib.Core.Logic.{◌≢◌}
use mathlib.Core.List.{List}
use native.Mathlib.Omega.{arith}
use lib.Dec.{ltb}
use lib.ListN.{length, length-map}
use borrow.Author.Tests.{lt-ltb, ltb-true, ltb-false}
use Rattle.model.specs.declared.Parameters.{Parameters}
use Rattle.model.specs.declared.Answer.{Answer}
use Rattle.model.specs.Refusals.{code_of}
use Rattle.model.specs.Answers.{answer_of, fresh_of}
use Rattle.model.specs.Texts.{Event}
use Rattle.model.specs.Readings.{Trace, refused, trace, trace_of}
use Rattle.model.specs.Writings.{Written, written, fitted}
use Rattle.model.specs.Executions.{answers_from}
use Rattle.model.specs.Reports.{report_text}
use Rattle.model.proofs.Tests.{by_cond}
use Rattle.model.proofs.Folds.{length_results}
use Rattle.grammar.specs.Exact.{Says}
use Rattle.grammar.specs.Answers.{RefusedWrite}
use Rattle.grammar.proofs.Faults.{fault_some}
use Rattle.grammar.proofs.Exact.{TraceTells, trace_tells, read_exactly, refused_exactly}
use Rattle.grammar.proofs.Answers.{wrote, fitted_is}
use Rattle.intervals.specs.Intervals.{trace_intervals, intervals_text, intervals_into, write_intervals_of}
use Rattle.intervals.specs.Answers.{Writable, IntervalsTell, IntervalsIff, Unwritable, IntervalsRefusedExactly, IntervalsRoom}
use Rattle.intervals.specs.Answers.{SameAnswers, SameFault}
use Rattle.intervals.proofs.Traces.{intervals_short}

-- Where it is written

module _ {text out : List ℕ} {line : ℕ} {k : Parameters} {events : List Event} (w : Writable text out line k events) where
  written_is : write_intervals_of text out ≡ written (intervals_text (trace_intervals k events)) out
  unfolding write_intervals_of
  written_is = rw ((read_exactly text line k events).1 w.says) (fitted_is (intervals_text (trace_intervals k events)) out w.fits)

pub intervals_tell : IntervalsTell
intervals_tell text out line k events w = rw (written_is w) (wrote (intervals_text (trace_intervals k events)) out)

module _ (text out : List ℕ) where
  -- what is told of a text whose intervals are written
  abbrev Accepted : Written → Type 0
  Accepted w = w.answer.code ≡ 0 → (line : ℕ) × (k : Parameters) × (events : List Event) × Writable text out line k events

  fitted_accepted : (line : ℕ) (k : Parameters) (events : List Event) → Says text line k events
      → Accepted (fitted (intervals_text (trace_intervals k events)) out)
  unfolding fitted
  fitted_accepted line k events says =
      by_cond Accepted (ltb (length out) (length (intervals_text (trace_intervals k events)))) (λ _ e. absurd (omega arith))
      (λ t _. (line, k, events, record { says = says; fits = ltb-false _ _ t }))

  accepted : (t : Trace) → TraceTells text t → Accepted (intervals_into out t)
  accepted (refused r line) told = λ e. absurd (omega (arith, fault_some told))
  accepted (trace line k events) told = fitted_accepted line k events told

pub intervals_iff : IntervalsIff
unfolding write_intervals_of
intervals_iff text out = (
  accepted text out (trace_of text) (trace_tells text),
  λ h. ap (λ (w : Written). w.answer.code) (written_is h.3),
)

-- Where it is refused

module _ (text out : List ℕ) (code line : ℕ) (some : code ≢ 0) where
  abbrev Why : Written → Type 0
  Why w = RefusedWrite out code line w → Unwritable text out code line

  -- whatever code and line are answered, they are those of the reason for it
  answered : {c l : ℕ} → Unwritable text out c l → answer_of c 0 l ≡ answer_of code 0 line → Unwritable text out code line
  answered u same = subst₂ (Unwritable text out) (ap (λ (r : Answer). r.code) same) (ap (λ (r : Answer). r.time) same) u

  fitted_why : (l : ℕ) (k : Parameters) (events : List Event) → Says text l k events → Why (fitted (intervals_text (trace_intervals k events)) out)
  unfolding fitted
  fitted_why l k events says =
      by_cond Why (ltb (length out) (length (intervals_text (trace_intervals k events))))
      (λ t u. answered (Unwritable.no_room l k events says (ltb-true _ _ t)) u.answer)
      (λ t u. absurd (some (sym (ap (λ (r : Answer). r.code) u.answer))))

  why : (t : Trace) → TraceTells text t → Why (intervals_into out t)
  why (refused c l) told = λ u. answered (Unwritable.faulty told) u.answer
  why (trace l k events) told = fitted_why l k events told

so : {text out : List ℕ} {code line : ℕ} → Unwritable text out code line → RefusedWrite out code line (write_intervals_of text out)
unfolding write_intervals_of fitted
so {text} (Unwritable.faulty {why} {line} f) = rw ((refused_exactly text why line).1 f) (record { answer = refl; bytes_stay = refl })
so {text} (Unwritable.no_room l k events says h) =
    rw ((read_exactly text l k events).1 says, lt-ltb _ _ h) (record { answer = refl; bytes_stay = refl })

pub intervals_refused_exactly : IntervalsRefusedExactly
unfolding write_intervals_of
intervals_refused_exactly text out code line some = (why text out code line some (trace_of text) (trace_tells text), so)

enough : (text out : List ℕ) → length text ≤ length out → (t : Trace) → TraceTells text t → (intervals_into out t).answer.code ≢ 16
enough text out wide (refused r line) told = λ (e : code_of r ≡ 16). omega (arith, fault_some told)
enough text out wide (trace line k events) told =
    rw (fitted_is (intervals_text (trace_intervals k events)) out (omega (arith, intervals_short text line k events told))) (omega arith)

pub intervals_room : IntervalsRoom
unfolding write_intervals_of
intervals_room text out wide = enough text out wide (trace_of text) (trace_tells text)

-- The report of the same text

pub same_answers : SameAnswers
unfolding report_text write_intervals_of
same_answers text out line k events says =
    let t = (read_exactly text line k events).1 says in
    (answers_from (fresh_of k).state events, simp (length-map, length_results), rw t, rw t)

pub same_fault : SameFault
unfolding report_text write_intervals_of
same_fault text out r line h = let t = (refused_exactly text r line).1 h in (rw t, rw t)
