-- What the check of `tables::put_table` does not find alone. Assumes nothing.
use mathlib.Core.Path.{◌≡◌, ◌∙◌}
use native.Mathlib.Omega.{arith}
use borrow.Author.Rules.{rules}
use lib.ListN.{length}
use Rattle.layout.proofs.Saving.{header-put, put_long}
use Rattle.deadline_layout.proofs.Saving.{header_written, entry_written, all_written}
use Rattle.deadline_layout.proofs.tables.put_table.Goals as goal

pub loop-i-init : goal.loop-i-init
loop-i-init c =
    let d = c.args.state in
    let l = c.args.table.now in
    let limits : length d.parameters.a ≡ 96 = search rules in
    let entries : length d.processes ≡ 96 = search rules in
    let long : length l ≡ 389 = search rules in
    rw c.put_header.ensures
    (header_written d _ entries (put_long l d.parameters limits d.clock d.word (omega arith) ∙ long)
    (header-put l d.parameters limits d.clock d.word (omega arith)))

pub loop-i-preserved : goal.loop-i-preserved
loop-i-preserved c =
    let v = c.loop-i in
    rw c.put_entry.ensures (entry_written _ v.table v.i v.invariant _ c.loop-i-test.true)

pub returns : goal.returns
returns c = let v = c.loop-i in all_written _ v.table v.i v.invariant c.loop-i-test.false
