-- How many steps a text can hold. Assumes nothing.
use Prim.Native.Nat.{ℕ, ◌+◌, ◌*◌, ◌≤◌, ◌<◌}
use mathlib.Core.Path.{◌≡◌, ap, ◌∙◌}
use mathlib.Core.List.{List, [], ◌∷◌}
use native.Mathlib.Omega.{arith}
use lib.ListN.{length, length-append}
use Rattle.std.specs.Prelude.{None}
use Rattle.model.specs.declared.Parameters.{Parameters}
use Rattle.model.specs.Texts.{Event, event_text, events_text, text_limit}
use Rattle.model.specs.Readings.{trace, trace_of}
use Rattle.model.specs.Writings.{formless_from}
use Rattle.grammar.specs.Exact.{Says}
use Rattle.grammar.proofs.Lines.{event_eight}
use Rattle.grammar.proofs.Shapes.{first_long, first-line}
use Rattle.grammar.proofs.Exact.{first_formed, read_exactly}

events_long : (line : ℕ) (events : List Event) → formless_from line events ≡ None
    → length events * 8 ≤ length (events_text events)
unfolding events_text
events_long line [] f = omega arith
events_long line (e ∷ es) f =
    let g = first_formed line e es f in
    omega (
      arith,
      length-append (event_text e) (events_text es),
      event_eight e g.0,
      events_long (line + 1) es g.1,
    )

-- what the first lines of either shape leave for the steps, and the line of the first of them
module _ {text : List ℕ} {line : ℕ} {k : Parameters} {events : List Event} (s : Says text line k events) where
  pub says_long : 38 + length (events_text events) ≤ length text
  says_long = omega (arith, ap length s.text_is ∙ length-append s.head (events_text events), first_long s.shape)

  pub says_line : (0 < line) × (line ≤ text_limit)
  says_line =
      let f = first-line s.shape s.stand in
      let t = ap length s.text_is ∙ length-append s.head (events_text events) in
      let h = s.short in
      (f.0, omega arith)

-- 65,536 bytes less the head's, eight or more a step
pub events_fit : (text : List ℕ) (line : ℕ) (k : Parameters) (events : List Event) → trace_of text ≡ trace line k events → length events ≤ 8187
events_fit text line k events e =
    let s = (read_exactly text line k events).0 e in
    omega (arith, s.short, says_long s, events_long line events s.forms)
