-- What the check of `run_steps` does not find alone. Assumes nothing.
use mathlib.Core.Path.{refl}
use native.Mathlib.Omega.{arith}
use Rattle.execution.proofs.Turns.{sets_off, takes_on, all_taken}
use Rattle.execution.proofs.run_steps.Goals as goal

pub loop-i-init : goal.loop-i-init
loop-i-init c = sets_off (omega arith)

pub loop-i-preserved : goal.loop-i-preserved
loop-i-preserved c = rw c.from.ensures (takes_on c.loop-i.invariant (omega arith) _ refl _ c.step-outcome.ensures)

pub returns : goal.returns
returns c = all_taken c.loop-i.invariant (omega arith)
