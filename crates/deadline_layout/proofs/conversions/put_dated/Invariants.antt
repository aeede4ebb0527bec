-- `deadline_layout::conversions::put_dated` meets its contract: what stands before the entries, and then the entries one by one. Assumes nothing.
use Rattle.layout.specs.Encodings.{state_in}
use Rattle.deadlines.specs.Matching.{matched}
use Rattle.deadline_layout.proofs.Saving.{EntriesWritten}
use Rattle.deadline_layout.proofs.conversions.put_dated.Given as goal

abbrev pub invariant-loop-i : goal.invariant-loop-i
invariant-loop-i l = EntriesWritten (matched (state_in l.table)) l.out l.i
