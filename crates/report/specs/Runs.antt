-- The lines of the steps from a state on. For the proofs only. Assumes nothing.
use Rattle.std.specs.Prelude.{ℕ, List}
use Rattle.model.specs.Types.{State}
use Rattle.model.specs.Texts.{Event}
use Rattle.model.specs.Reports.{rows_text}
use Rattle.execution.specs.Blocks.{rows_from}

-- the first has the number `line`
abbrev pub run_text : ℕ → State → List Event → List ℕ
run_text line s events = rows_text line (rows_from s events)
