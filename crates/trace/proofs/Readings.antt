-- What a scan gives back, by what the passes over its text found: one law for each way out of `scan`. Assumes nothing.
use Prim.Native.Nat.{ℕ, ◌≤◌, ◌<◌}
use mathlib.Core.Path.{◌≡◌}
use mathlib.Core.Logic.{◌≢◌}
use mathlib.Core.List.{List}
use lib.ListN.{length, drop}
use borrow.Author.Tests.{lt-ltb, le-ltb, eq-eqb, ne_eqb}
use Rattle.std.specs.Prelude.{Ok, Err}
use Rattle.model.specs.declared.Refusal.TheVariants.{BadLine, ShortOutput}
use Rattle.model.specs.declared.Fault.{Fault}
use Rattle.model.specs.declared.Head.{Head}
use Rattle.model.specs.Readings.{fault, found, head_of, Body, body_of, trace, trace_of, Lists, room, stored, scan_gave, scanned_of}
use Rattle.model.proofs.Tests.{if_eq}
use Rattle.trace.specs.Passes.{counted_of}
use Rattle.grammar.proofs.Heads.{trace_refused, trace_events, trace_fault}

-- What the count says of a body

pub record Whole (b : Body) (count : ℕ) : Type 0 where
  pub whole : b.fault ≡ 0
  pub many : length b.events ≡ count

pub counted_steps : (b : Body) (count : ℕ) → counted_of b ≡ Ok count → Whole b count
counted_steps b count e =
    if_eq b.fault 0
    (λ z. let s = simp (eq-eqb b.fault 0 z) at e in record { whole = z; many = cc })
    (λ z. let s = simp (ne_eqb b.fault 0 z) at e in cc)

pub record Faulty (b : Body) (f : Fault) : Type 0 where
  pub broken : b.fault ≢ 0
  pub is : f ≡ fault BadLine b.fault

pub counted_fault : (b : Body) (f : Fault) → counted_of b ≡ Err f → Faulty b f
counted_fault b f e =
    if_eq b.fault 0
    (λ z. let s = simp (eq-eqb b.fault 0 z) at e in cc)
    (λ z. let s = simp (ne_eqb b.fault 0 z) at e in record { broken = z; is = cc })

-- The ways out

pub scan_refused : (text : List ℕ) (l : Lists) (f : Fault) → head_of text ≡ Err f → scanned_of text l ≡ scan_gave (Err f) l
unfolding scanned_of
scan_refused text l f e = rw (trace_refused text f e)

-- where h was found of the first lines, and `body` of the others
module _ (text : List ℕ) (l : Lists) (h : Head) (e : head_of text ≡ Ok h) (body : Body) (rest : body_of h.line (drop h.size text) ≡ body) where
  says : body.fault ≡ 0 → trace_of text ≡ trace h.line h.parameters body.events
  says z = rw rest at (trace_events text h e (rw rest z))

  pub scan_fault : (f : Fault) → counted_of body ≡ Err f → scanned_of text l ≡ scan_gave (Err f) l
  unfolding scanned_of
  scan_fault f t = let b = counted_fault body f t in rw (trace_fault text h e (rw rest b.broken), rest, b.is)

  module _ (count : ℕ) (t : counted_of body ≡ Ok count) where
    pub scan_full : room l < count → scanned_of text l ≡ scan_gave (Err (fault ShortOutput 0)) l
    unfolding scanned_of
    scan_full g = let c = counted_steps body count t in rw (says c.whole, c.many, lt-ltb (room l) count g)

    pub scan_stored : count ≤ room l → scanned_of text l ≡ scan_gave (Ok (found h.line h.parameters count)) (stored body.events l)
    unfolding scanned_of
    scan_stored g = let c = counted_steps body count t in rw (says c.whole, c.many, le-ltb (room l) count g)
