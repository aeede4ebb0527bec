-- `deadline_layout::conversions::put_arrived` meets its contract: what stands before the entries, and then the entries one by one. Assumes nothing.
use Rattle.layout.proofs.Saving.{EntriesWritten}
use Rattle.deadlines.specs.Matching.{arrived}
use Rattle.deadline_layout.specs.Encodings.{state_with_in}
use Rattle.deadline_layout.proofs.conversions.put_arrived.Given as goal

abbrev pub invariant-loop-i : goal.invariant-loop-i
invariant-loop-i l = EntriesWritten (arrived (state_with_in l.deadlines)) l.out l.i
