-- What is found of a text that is started with lists of 8,187 places: they have room for any trace, so it is refused exactly where the
-- text is, and else the lists have its steps. Assumes nothing.
use Prim.Native.Nat.{ℕ, ◌≤◌}
use mathlib.Core.Path.{◌≡◌, refl, sym, subst, ◌∙◌}
use mathlib.Core.Bool.{false}
use mathlib.Core.List.{List}
use native.Mathlib.Omega.{arith}
use lib.Dec.{ltb}
use lib.ListN.{length}
use borrow.Author.Tests.{le-ltb}
use Rattle.std.specs.Prelude.{Result, Ok, Err}
use Rattle.model.specs.declared.Fault.{Fault}
use Rattle.model.specs.declared.Started.{Started}
use Rattle.model.specs.declared.Parameters.{Parameters}
use Rattle.model.specs.Texts.{Event}
use Rattle.model.specs.Readings.{Lists, room, Trace, refused, trace, trace_of, into, scanned_of}
use Rattle.model.specs.Writings.{events_of}
use Rattle.model.specs.Executions.{Start, start_gave, first_state, started_from, started_of}
use Rattle.grammar.specs.RoundTrips.{first_of}
use Rattle.grammar.proofs.Exact.{read_exactly}
use Rattle.grammar.proofs.Fits.{says_line, events_fit}
use Rattle.grammar.proofs.RoundTrips.{events_back}

-- what is found: the text is the trace whose steps stand in the first places of the lists, to be taken from the state on
pub record Ready (text : List ℕ) (s : Started) (kept : Lists) : Type 0 where
  pub few : s.found.steps ≤ 8187
  pub low : s.found.line ≤ 65536
  pub is : trace_of text ≡ trace s.found.line s.found.parameters (events_of (first_of s.found.steps kept))
  pub state : s.state ≡ first_state s.found

-- what a start tells: this, or the refusal of the text, which is never 16
abbrev Tells : List ℕ → Result Started Fault → Lists → Type 0
Tells text (Ok s) kept = Ready text s kept
Tells text (Err f) kept = trace_of text ≡ refused f.refusal f.line

module _ (text : List ℕ) (l : Lists) (wide : room l ≡ 8187) where
  roomy : (line : ℕ) (k : Parameters) (events : List Event) → trace_of text ≡ trace line k events → ltb (room l) (length events) ≡ false
  roomy line k events q = le-ltb (room l) (length events) (omega (arith, events_fit text line k events q))

  into_tells : (t : Trace) → trace_of text ≡ t → Tells text (started_from (into l t).scan) (into l t).kept
  into_tells (refused why line) q = q
  into_tells (trace line k events) q =
      rw (roomy line k events q)
      (record {
        few = events_fit text line k events q;
        low = (says_line ((read_exactly text line k events).0 q)).1;
        is = q ∙ rw (events_back events l);
        state = refl;
      })

-- of lists that have 8,187 places each
module _ (text : List ℕ) (l : Lists) (times : 8187 ≡ length l.times) (processes : 8187 ≡ length l.processes) (actions : 8187 ≡ length l.actions)
    {r : Result Started Fault} {kept : Lists} (e : start_gave r kept ≡ started_of text l) where
  tells : Tells text r kept
  unfolding started_of scanned_of
  tells = subst (λ (x : Start). Tells text x.started x.kept) (sym e) (into_tells text l (omega arith) (trace_of text) refl)

  pub ready_in : {s : Started} → r ≡ Ok s → Ready text s kept
  ready_in q = rw q at tells

  pub refusal_in : {f : Fault} → r ≡ Err f → trace_of text ≡ refused f.refusal f.line
  refusal_in q = rw q at tells
