-- `deadlines::idle_entries` meets its contract: the repeat is the definition's, and each of its 96 entries is `idle_with`.
-- Assumes nothing.
use Rattle.std.proofs.Common.{refl}
use lib.ListN.{get_or-replicate}
use Rattle.deadlines.proofs.idle_entries.Goals as goal

pub returns : goal.returns
returns c = record { equals = refl; each = λ i other h. get_or-replicate 96 i _ other h }
