-- `recent::rings::places` meets its contract: the places are the rows of three numbers after the header. Assumes nothing.
use mathlib.Core.Path.{ap, ◌∙◌}
use lib.ListN.{length}
use Rattle.recent.proofs.Rows.{lent_rows, rows_count}
use Rattle.recent.proofs.rings.places.Goals as goal

pub returns : goal.returns
returns c =
    let l = c.args.board.now in
    let same = lent_rows l c.as_chunks.result.0.now c.told-board c.as_chunks.ensures.front in
    record { rows = same; count = ap length same ∙ rows_count l }
