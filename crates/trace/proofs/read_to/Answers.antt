-- `trace::read_to` meets its contract: each way out is a law of `ReadingsTo`. Assumes nothing.
use Rattle.std.proofs.Common.{◌≡◌, length, arith, rules}
use lib.ListN.{length-take}
use Rattle.model.specs.Readings.{lists}
use Rattle.trace.proofs.ReadingsTo.{to_refused, to_stored, to_full}
use Rattle.trace.proofs.read_to.Goals as goal

pub returns-then-a-lt96 : goal.returns-then-a-lt96
returns-then-a-lt96 c =
    let a = c.args in
    let l = lists a.times.now a.processes.now a.actions.now in
    rw (c.unread_to.ensures, c.answer_without_room.ensures) (to_full a.text.now a.a.now l c.if-a-lt96.true)

pub returns-in-Err : goal.returns-in-Err
returns-in-Err c =
    let a = c.args in
    let l = lists a.times.now a.processes.now a.actions.now in
    rw c.unread_to-in-Err.ensures (to_refused a.text.now a.a.now l c.read.ensures c.in-Err.answer c.in-Err.is)

pub copy_from_slice-requires : goal.copy_from_slice-requires
copy_from_slice-requires c =
    let size : length c.in-Ok.reading.parameters.a ≡ 96 = search rules in
    omega (arith, length-take 96 c.args.a.now)

-- the values of a, of which there are 96, have room
pub returns : goal.returns
returns c =
    let a = c.args in
    let l = lists a.times.now a.processes.now a.actions.now in
    let size : length c.in-Ok.reading.parameters.a ≡ 96 = search rules in
    rw (c.accepted.ensures, c.copy_from_slice.ensures.after)
    (rw size at (to_stored a.text.now a.a.now l c.read.ensures c.if-a-lt96.false c.in-Ok.reading c.in-Ok.is))
