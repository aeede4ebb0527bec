-- What the check of `tables::put_table` does not find alone. Assumes nothing.
use Rattle.std.proofs.Common.{◌≡◌, length, ◌∙◌, arith, rules}
use Rattle.model.proofs.Lists.{length_mapped}
use Rattle.layout.specs.Encodings.{table_length}
use Rattle.layout.proofs.Saving.{header-put, put_long, header_written, entry_written, all_written}
use Rattle.layout.proofs.tables.put_table.Goals as goal

pub loop-i-init : goal.loop-i-init
loop-i-init c =
    let s = c.args.state.now in
    let l = c.args.table.now in
    let size : length s.processes ≡ 96 = search (rules, length_mapped) in
    let limits : length s.parameters.a ≡ 96 = search (rules, length_mapped) in
    let long : length l ≡ table_length = search rules in
    rw c.put_header.ensures
    (header_written s _ size (put_long l s.parameters limits s.clock s.word (omega (arith, long)) ∙ long)
    (header-put l s.parameters limits s.clock s.word (omega (arith, long))))

pub loop-i-preserved : goal.loop-i-preserved
loop-i-preserved c =
    let v = c.loop-i in
    rw c.put_entry.ensures (entry_written _ v.table v.i v.invariant _ (omega arith))

pub returns : goal.returns
returns c = let v = c.loop-i in all_written _ v.table v.i v.invariant (omega arith)
