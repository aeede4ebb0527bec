-- `intervals::write_run` meets its contract: an output of no bytes measures, and one that has enough needs no measuring. Assumes nothing.
use Rattle.std.proofs.Common.{◌≡◌, ◌≤◌, ◌<◌, length, refl, ◌∙◌, arith}
use borrow.Author.Tests.{lt-ltb}
use Rattle.model.specs.Writings.{fitted}
use Rattle.model.proofs.Given.{write-gave}
use Rattle.text.proofs.Wholes.{nothing_put, put_whole}
use Rattle.execution.specs.Steps.{steps_of}
use Rattle.intervals.specs.Parts.{pass_text}
use Rattle.intervals.proofs.write_run.Goals as goal
use Rattle.intervals.proofs.write_run.Goals.{then-out-enough+else-out-needed, else-out-enough}

pub returns-then-out-needed : goal.returns-then-out-needed
unfolding fitted
returns-then-out-needed c =
    let a = c.args in
    let measured = c.put_run-needed.ensures in
    let short : length a.out.now < length (pass_text a.first (steps_of a.steps.now)) =
    omega (arith, rw (nothing_put measured) at c.if-out-needed.true, measured.wide) in
    rw (lt-ltb _ _ short) (write-gave c.from.ensures (rw (nothing_put measured)))

-- measuring leaves the output as it was, and there is room, since it was measured or there is enough
pub returns : goal.returns
returns c =
    let put = c.put_run-size.ensures in
    let same : c.if-out-enough.out ≡ c.args.out.now =
    elim c.if-out-enough.branch [
      | then-out-enough+else-out-needed w ↦ w.out-is ∙ rw (nothing_put w.put_run-needed.ensures)
      | else-out-enough w ↦ w.out-is
    ] in
    let room : c.put_run-size.result ≤ length c.args.out.now =
    elim c.if-out-enough.branch [
      | then-out-enough+else-out-needed w ↦
          let measured = w.put_run-needed.ensures in
          omega (arith, put.wide, measured.wide, rw (nothing_put measured) at w.if-out-needed.false)
      | else-out-enough w ↦ omega (arith, put.wide, c.requires, w.if-out-enough.false)
    ] in
    write-gave c.accepted.ensures refl ∙ put_whole (rw same at put) room
