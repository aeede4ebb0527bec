-- The layout of the number is that of tables and summaries, by computation. Assumes nothing.
use Rattle.std.proofs.Common.{refl}
use Rattle.layout.specs.Layouts.{LayoutIsNumbered}

pub layout_is_numbered : LayoutIsNumbered
layout_is_numbered = record { last = refl; table_is = refl; header_is = refl; entry_is = refl; summary_is = refl; counts_is = refl }
