-- What is printed for a text, by how the intervals of the text were answered: they are whole where the code is 0; otherwise the text is no
-- trace, as there is room for the intervals of any. Assumes nothing.
use Prim.Native.Nat.{ℕ, ◌≤◌}
use mathlib.Core.Path.{◌≡◌, refl}
use mathlib.Core.Logic.{◌≢◌}
use mathlib.Core.List.{List}
use native.Mathlib.Omega.{arith}
use lib.ListN.{length}
use Rattle.model.specs.Refusals.{code_of}
use Rattle.model.specs.Readings.{Trace, refused, trace, trace_of}
use Rattle.model.specs.Reports.{report_text}
use Rattle.grammar.proofs.Faults.{fault_some}
use Rattle.grammar.proofs.Exact.{TraceTells, trace_tells}
use Rattle.grammar.proofs.Answers.{fitted_is}
use Rattle.text.proofs.Wholes.{Whole, whole}
use Rattle.intervals.specs.Intervals.{trace_intervals, intervals_text, intervals_into, write_intervals_of}
use Rattle.intervals.proofs.Traces.{intervals_short}
use Rattle.spans.specs.Prints.{printed_for, printed_text}

module _ (text out : List ℕ) where
  written_of : (t : Trace) → TraceTells text t → (intervals_into out t).answer.code ≡ 0
      → Whole (printed_for text t) (intervals_into out t).out (intervals_into out t).answer.time
  written_of (refused why line) told = λ (e : code_of why ≡ 0). absurd (omega (arith, fault_some told))
  written_of (trace line k events) told = whole (intervals_text (trace_intervals k events)) out

  pub written : (write_intervals_of text out).answer.code ≡ 0
      → Whole (printed_text text) (write_intervals_of text out).out (write_intervals_of text out).answer.time
  unfolding write_intervals_of printed_text
  written = written_of (trace_of text) (trace_tells text)

  refused_of : 65536 ≤ length out → (t : Trace) → TraceTells text t → (intervals_into out t).answer.code ≢ 0
      → printed_for text t ≡ report_text text
  refused_of wide (refused why line) told = λ _. refl
  refused_of wide (trace line k events) told =
      let fits : length (intervals_text (trace_intervals k events)) ≤ length out =
      omega (arith, intervals_short text line k events told, told.short) in
      rw (fitted_is (intervals_text (trace_intervals k events)) out fits) (λ z. absurd (z refl))

  pub reported : 65536 ≤ length out → (write_intervals_of text out).answer.code ≢ 0 → printed_text text ≡ report_text text
  unfolding write_intervals_of printed_text
  reported wide = refused_of wide (trace_of text) (trace_tells text)
