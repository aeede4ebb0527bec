-- What the check of `take_steps` does not find alone. Assumes nothing.
use native.Mathlib.Omega.{arith}
use Rattle.std.proofs.lemmas.List.{map-set}
use lib.ListN.{length-map}
use Rattle.model.specs.Answers.{answer_numbers}
use Rattle.execution.proofs.Turns.{sets_off, takes_on, all_taken}
use Rattle.execution.proofs.running.take_steps.Goals as goal

pub loop-i-init : goal.loop-i-init
loop-i-init c = sets_off (omega (arith, length-map c.args.answers.now answer_numbers))

pub loop-i-preserved : goal.loop-i-preserved
loop-i-preserved c =
    let v = c.loop-i in
    let o = c.step-outcome.result in
    rw (map-set answer_numbers v.answers v.i o.answer) (takes_on v.invariant (omega arith) _ c.at-event.ensures o c.step-outcome.ensures)

pub returns : goal.returns
returns c = all_taken c.loop-i.invariant (omega arith)
