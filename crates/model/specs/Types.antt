-- The declared types of the lock at the entries of the first engine, which carry arrivals. Assumes nothing.
use Rattle.std.specs.Prelude.{ℕ, List}
use Rattle.model.specs.declared.Location as location
use Rattle.model.specs.declared.Process as process
use Rattle.model.specs.declared.State as state
use Rattle.model.specs.declared.Outcome as outcome

-- [2.70]
abbrev pub Location : Type 0
Location = location.Location ℕ

-- [2.10]
abbrev pub Process : Type 0
Process = process.Process ℕ

-- [2.10]
abbrev pub State : Type 0
State = state.State (List Process)

-- helper: what a call gives back
abbrev pub Outcome : Type 0
Outcome = outcome.Outcome (List Process)
