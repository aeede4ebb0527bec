-- `deadline_layout::to_deadlines` meets its contract: 1 before 16, and what matches over the first numbers. Assumes nothing.
use Prim.Native.Nat.{◌<◌}
use mathlib.Core.Path.{sym, ◌∙◌}
use native.Mathlib.Omega.{arith}
use Rattle.std.proofs.lemmas.Grind.{common_steps}
use lib.ListN.{length}
use Rattle.deadline_layout.proofs.Converting.{short_table, table_sound, dated_unsound, dated_short, dated_made}
use Rattle.deadline_layout.proofs.to_deadlines.Goals as goal

pub returns-in_default : goal.returns-in_default
returns-in_default c =
    let short : length c.args.table.now < 293 = grind (arith, common_steps) in
    dated_unsound c.args.table.now c.args.out.now (short_table c.args.table.now short) c.from.ensures

pub returns-then-not-is_sound : goal.returns-then-not-is_sound
returns-then-not-is_sound c =
    dated_unsound c.args.table.now c.args.out.now (sym c.is_sound.ensures ∙ c.if-not-is_sound.true) c.from-then-not-is_sound.ensures

pub returns-in_default-first_chunk_mut : goal.returns-in_default-first_chunk_mut
returns-in_default-first_chunk_mut c =
    let short : length c.args.out.now < 389 = grind (arith, common_steps) in
    dated_short c.args.table.now c.args.out.now (sym c.is_sound.ensures ∙ c.if-not-is_sound.false) short
    c.from-in_default-first_chunk_mut.ensures

pub put_dated-requires : goal.put_dated-requires
put_dated-requires c =
    rw c.in-Some.ensures.cases.same (table_sound c.args.table.now (sym c.is_sound.ensures ∙ c.if-not-is_sound.false))

pub returns : goal.returns
returns c =
    dated_made c.args.table.now c.args.out.now (sym c.is_sound.ensures ∙ c.if-not-is_sound.false) c.in-Some-first_chunk_mut.ensures.cases.enough
    c.accepted.ensures (rw c.in-Some.ensures.cases.same at c.put_dated.ensures)
