-- `recent::rings::longest_in` meets its contract: the entries that are left come to what all come to, from the time and the wait so far on.
-- Assumes nothing.
use lib.ListN.{drop}
use Rattle.recent.specs.Looking.{entries_in}
use Rattle.recent.proofs.Passing.{Passing}
use Rattle.recent.proofs.rings.longest_in.Given as goal

abbrev pub invariant-loop-entry : goal.invariant-loop-entry
invariant-loop-entry l =
    Passing (entries_in l.entries) l.initial.time l.initial.longest (entries_in (drop l.entry-index l.entries)) l.time l.longest
