-- What the check of `passes::find_differences` does not find alone. Assumes nothing.
use Rattle.std.proofs.Common.{sym, inl, inr, ◌∙◌}
use Rattle.std.specs.Slice.Iter.{iter_rest}
use Rattle.std.specs.Iterator.Adapters.{zip_first, zip_second}
use Rattle.local_log.specs.Passes.{differences, noted}
use Rattle.local_log.proofs.Turns.{pass_next, local_stops, other_stops, pass_ends}
use Rattle.local_log.proofs.passes.find_differences.Goals as goal
use Rattle.local_log.proofs.passes.find_differences.Goals.{then-stamp-gt-LAST-via-then-stamp-gt-LAST}
use Rattle.local_log.proofs.passes.find_differences.Goals.{then-stamp-gt-LAST-via-else-stamp-gt-LAST+then-time-gt-LAST}

pub returns-then-stamp-gt-LAST : goal.returns-then-stamp-gt-LAST
returns-then-stamp-gt-LAST c =
    let v = c.loop-stamp in
    let met = c.in-Some.ensures.steps in
    elim c.then-stamp-gt-LAST.branch [
      | then-stamp-gt-LAST-via-then-stamp-gt-LAST w ↦
          sym (local_stops (differences v.smallest v.largest) met.0 met.1 w.if-stamp-gt-LAST.true) ∙ v.invariant
      | then-stamp-gt-LAST-via-else-stamp-gt-LAST+then-time-gt-LAST w ↦
          sym (other_stops (differences v.smallest v.largest) met.0 met.1 w.if-time-gt-LAST.true) ∙ v.invariant
    ]

pub loop-stamp-preserved : goal.loop-stamp-preserved
unfolding noted
loop-stamp-preserved c =
    let v = c.loop-stamp in
    let met = c.in-Some.ensures.steps in
    let next = pass_next (differences v.smallest v.largest) met.0 met.1 c.if-stamp-gt-LAST.false c.if-time-gt-LAST.false in
    rw (c.min-smallest.ensures, c.max-largest.ensures) (sym next ∙ v.invariant)

pub returns : goal.returns
returns c =
    let v = c.loop-stamp in
    let ended = c.in-None.ensures.steps in
    sym (pass_ends (differences v.smallest v.largest) (iter_rest (zip_first v.stamp-iterator)) (iter_rest (zip_second v.stamp-iterator))
    (elim ended [ inl a ↦ inl a.1.0 | inr b ↦ inr b.1.0 ])) ∙ v.invariant
