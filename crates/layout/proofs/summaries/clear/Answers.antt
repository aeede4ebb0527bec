-- `layout::summaries::clear` meets its contract: all numbers are 0. Assumes nothing.
use Rattle.std.proofs.Common.{refl}
use Rattle.layout.specs.Encodings.{statistics_numbers}
use Rattle.layout.proofs.summaries.clear.Goals as goal

pub returns : goal.returns
unfolding statistics_numbers
returns c = refl
