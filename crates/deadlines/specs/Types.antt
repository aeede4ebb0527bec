-- The declared types of the lock at the entries of the second engine, which carry two times. Assumes nothing.
use Rattle.std.specs.Prelude.{List}
use Rattle.model.specs.declared.Location as location
use Rattle.model.specs.declared.Process as process
use Rattle.model.specs.declared.State as state
use Rattle.model.specs.declared.Outcome as outcome
use Rattle.deadlines.specs.declared.Period.{Period}

-- [12.10]
abbrev pub DeadlineLocation : Type 0
DeadlineLocation = location.Location Period

-- [12.10]
abbrev pub DeadlineProcess : Type 0
DeadlineProcess = process.Process Period

-- [12.10]
abbrev pub DeadlineState : Type 0
DeadlineState = state.State (List DeadlineProcess)

-- helper: what a call gives back
abbrev pub DeadlineOutcome : Type 0
DeadlineOutcome = outcome.Outcome (List DeadlineProcess)
