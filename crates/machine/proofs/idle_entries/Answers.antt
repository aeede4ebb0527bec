-- `machine::idle_entries` meets its contract: the repeat is the definition's, and each of its 96 entries is `idle`.
-- Assumes nothing.
use mathlib.Core.Path.{refl}
use lib.ListN.{get_or-replicate}
use Rattle.machine.proofs.idle_entries.Goals as goal

pub returns : goal.returns
returns c = record { equals = refl; each = λ i other h. get_or-replicate 96 i _ other h }
