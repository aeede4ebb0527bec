-- `deadline_layout::tables::put_table` meets its contract: what stands before the entries, and then these one by one. Assumes nothing.
use Rattle.deadline_layout.proofs.Saving.{EntriesWritten}
use Rattle.deadline_layout.proofs.tables.put_table.Given as goal

abbrev pub invariant-loop-i : goal.invariant-loop-i
invariant-loop-i l = EntriesWritten l.fn.state l.table l.i
