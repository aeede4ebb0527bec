-- `layout::tables::put_table` meets its contract: what stands before the entries, and then these one by one. Assumes nothing.
use Rattle.layout.proofs.Saving.{EntriesWritten}
use Rattle.layout.proofs.tables.put_table.Given as goal

abbrev pub invariant-loop-i : goal.invariant-loop-i
invariant-loop-i l = EntriesWritten l.state l.table l.i
