-- What the check of `conversions::put_dated` does not find alone. Assumes nothing.
use mathlib.Core.Path.{◌≡◌}
use borrow.Author.Rules.{rules}
use lib.ListN.{length, take}
use Rattle.deadline_layout.proofs.Converting.{all_copied, dated_start, dated_written}
use Rattle.deadline_layout.proofs.Saving.{all_written}
use Rattle.deadline_layout.proofs.conversions.put_dated.Goals as goal

pub loop-i-init : goal.loop-i-init
loop-i-init c =
    let long : length c.args.table.now ≡ 293 = search rules in
    let room : length c.args.out.now ≡ 389 = search rules in
    dated_start c.args.table.now long c.requires c.args.out.now room (all_copied c.args.table.now (take 293 c.args.out.now) (search rules) c.copy.ensures)

pub loop-i-preserved : goal.loop-i-preserved
loop-i-preserved c =
    let v = c.loop-i in
    let long : length c.args.table.now ≡ 293 = search rules in
    rw c.put_entry.ensures
    (dated_written c.args.table.now long c.requires v.out v.i v.invariant c.loop-i-test.true (rw c.location_in-location.ensures at c.dated.ensures))

pub returns : goal.returns
returns c = let v = c.loop-i in all_written _ v.out v.i v.invariant c.loop-i-test.false
