-- `layout::tables::put_header` meets its contract: five numbers, and behind them the values of a. Assumes nothing.
use Rattle.std.proofs.Common.{◌≡◌, length, rules}
use Rattle.model.proofs.Lists.{length_mapped}
use Rattle.layout.proofs.Saving.{header_stored}
use Rattle.layout.proofs.tables.put_header.Goals as goal

pub returns-in-Some : goal.returns-in-Some
returns-in-Some c =
    let a = c.args in
    let size : length a.parameters.a ≡ 96 = search (rules, length_mapped) in
    header_stored a.table.now a.parameters size a.clock a.word c.in-Some.ensures.cases.enough c.in-Some.ensures.cases.same
    c.copy_from_slice.ensures.after
