-- `trace::read` meets its contract. Assumes nothing.
use Rattle.std.proofs.Common.{ap}
use Rattle.model.specs.Readings.{Scanned, read_gave, reading_from, read_of}
use Rattle.trace.proofs.read.Goals as goal

pub returns : goal.returns
unfolding read_of
returns c = rw c.reading_from.ensures (ap (λ (r : Scanned). read_gave (reading_from r.scan) r.kept) c.scan.ensures)
