-- What the check of `conversions::put_arrived` does not find alone. Assumes nothing.
use mathlib.Core.Path.{◌≡◌}
use borrow.Author.Rules.{rules}
use lib.ListN.{length, take}
use Rattle.layout.proofs.Saving.{all_written}
use Rattle.deadline_layout.proofs.Converting.{all_copied, arrived_start, arrived_written}
use Rattle.deadline_layout.proofs.conversions.put_arrived.Goals as goal

pub loop-i-init : goal.loop-i-init
loop-i-init c =
    let long : length c.args.deadlines.now ≡ 389 = search rules in
    arrived_start c.args.deadlines.now long c.requires (all_copied (take 293 c.args.deadlines.now) c.args.out.now (search rules) c.copy.ensures)

pub loop-i-preserved : goal.loop-i-preserved
loop-i-preserved c =
    let v = c.loop-i in
    let long : length c.args.deadlines.now ≡ 389 = search rules in
    rw c.put_entry.ensures
    (arrived_written c.args.deadlines.now long c.requires v.out v.i v.invariant c.loop-i-test.true c.arrived_in-location.ensures)

pub returns : goal.returns
returns c = let v = c.loop-i in all_written _ v.out v.i v.invariant c.loop-i-test.false
