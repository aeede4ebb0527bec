-- `deadline_layout::to_arrivals` meets its contract: 1 before 16, and what matches over the first numbers. Assumes nothing.
use Prim.Native.Nat.{◌<◌}
use mathlib.Core.Path.{◌≡◌}
use mathlib.Core.Bool.{false}
use native.Mathlib.Omega.{arith}
use Rattle.std.proofs.lemmas.Grind.{common_steps}
use lib.ListN.{length}
use Rattle.deadline_layout.specs.Encodings.{is_sound_deadline_table}
use Rattle.deadline_layout.proofs.Converting.{arrived_unsound, arrived_short, arrived_made, deadlines_told}
use Rattle.deadline_layout.proofs.to_arrivals.Goals as goal

pub returns-in_default : goal.returns-in_default
returns-in_default c =
    let none : is_sound_deadline_table c.args.deadlines.now ≡ false = grind (arith, common_steps) in
    arrived_unsound c.args.deadlines.now c.args.out.now none c.from.ensures

pub returns-in_default-first_chunk_mut : goal.returns-in_default-first_chunk_mut
returns-in_default-first_chunk_mut c =
    let short : length c.args.out.now < 293 = grind (arith, common_steps) in
    arrived_short c.args.deadlines.now c.args.out.now c.in-Some.ensures.sound short c.from-in_default-first_chunk_mut.ensures

pub put_arrived-requires : goal.put_arrived-requires
put_arrived-requires c = rw c.in-Some.ensures.is (deadlines_told c.args.deadlines.now c.in-Some.ensures.sound)

pub returns : goal.returns
returns c =
    arrived_made c.args.deadlines.now c.args.out.now c.in-Some.ensures.sound c.in-Some-first_chunk_mut.ensures.cases.enough
    c.accepted.ensures (rw c.in-Some.ensures.is at c.put_arrived.ensures)
