-- A call, and a list of them, leaves a table its 96 values of a and its 96 entries. Assumes nothing.
use mathlib.Core.List.{List}
use Rattle.model.specs.Types.{State}
use Rattle.model.specs.Calls.{Call, table_of, run_of}
use Rattle.lists.proofs.Calls.{call_keeps, run_keeps}
use Rattle.layout.specs.Numbers.{IsWhole}
use Rattle.layout.proofs.Encodings.{step_whole}

pub call_whole : (s : State) → IsWhole s → (d : Call) → IsWhole (table_of s d)
call_whole s whole d = call_keeps IsWhole step_whole d whole

pub run_whole : (s : State) → IsWhole s → (ds : List Call) → IsWhole (run_of s ds)
run_whole s whole ds = run_keeps IsWhole step_whole ds whole
