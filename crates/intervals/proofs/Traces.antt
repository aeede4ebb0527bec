-- The intervals of a trace: its steps are taken from a fresh state, so what holds of every run holds of them, the text that is put is
-- theirs, and it is no longer than the trace. Assumes nothing.
use Prim.Native.Nat.{ℕ, ◌≤◌}
use mathlib.Core.Path.{◌≡◌, subst}
use mathlib.Core.List.{List}
use native.Mathlib.Omega.{arith}
use lib.ListN.{length}
use Rattle.model.specs.declared.Parameters.{Parameters}
use Rattle.model.specs.declared.Started.{Started}
use Rattle.model.specs.Answers.{fresh_of}
use Rattle.model.specs.Facts.{IsFresh}
use Rattle.model.specs.Texts.{Event}
use Rattle.model.specs.Readings.{Lists}
use Rattle.model.specs.Writings.{events_of, fitted}
use Rattle.theory.proofs.Soundness.{stand_fresh}
use Rattle.grammar.specs.Exact.{Says}
use Rattle.grammar.specs.RoundTrips.{first_of}
use Rattle.grammar.proofs.Exact.{read_exactly}
use Rattle.grammar.proofs.Fits.{says_long, events_fit}
use Rattle.execution.proofs.Starts.{Ready}
use Rattle.intervals.specs.Intervals.{trace_intervals, intervals_text, write_intervals_of}
use Rattle.intervals.specs.Parts.{pass_text}
use Rattle.intervals.specs.Answers.{IntervalsShort, EveryTrace, IntervalsCounted}
use Rattle.intervals.proofs.Runs.{every_run}
use Rattle.intervals.proofs.Passes.{pass-text, pass_short}

module _ {text : List ℕ} {line : ℕ} {k : Parameters} {events : List Event} (says : Says text line k events) where
  starts_fresh : IsFresh (fresh_of k).state
  starts_fresh = stand_fresh k says.stand

  trace-text : pass_text (fresh_of k).state events ≡ intervals_text (trace_intervals k events)
  trace-text = pass-text starts_fresh events

  trace_short : length (pass_text (fresh_of k).state events) ≤ length text
  trace_short = omega (arith, pass_short (fresh_of k).state events, says_long says)

-- What is found of a text that is started

module _ {text : List ℕ} {s : Started} {kept : Lists} (r : Ready text s kept) where
  abbrev steps : List Event
  steps = events_of (first_of s.found.steps kept)

  abbrev says_steps : Says text s.found.line s.found.parameters steps
  says_steps = (read_exactly text s.found.line s.found.parameters steps).0 r.is

  pub ready_short : length (pass_text s.state steps) ≤ length text
  ready_short = rw r.state (trace_short says_steps)

  pub ready_written : (out : List ℕ) → fitted (pass_text s.state steps) out ≡ write_intervals_of text out
  unfolding write_intervals_of
  ready_written out = rw (r.is, r.state, trace-text says_steps)

-- Every trace

pub intervals_short : IntervalsShort
intervals_short text line k events says = subst (λ (t : List ℕ). length t ≤ length text) (trace-text says) (trace_short says)

pub every_trace : EveryTrace
every_trace text line k events says = every_run (fresh_of k).state (starts_fresh says) events

pub intervals_counted : IntervalsCounted
intervals_counted text line k events says =
    (every_trace text line k events says).counted (omega (arith, events_fit text line k events ((read_exactly text line k events).1 says)))
