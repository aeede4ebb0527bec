-- `layout::counts::fault_of` meets its contract: the part that is lent is the waits so far. Assumes nothing.
use Rattle.std.proofs.Common.{◌≡◌, length, rules}
use Rattle.layout.specs.Encodings.{summary_length}
use Rattle.layout.proofs.Counting.{waits_part}
use Rattle.layout.proofs.counts.fault_of.Goals as goal

pub returns : goal.returns
returns c =
    let long : length c.args.summary.now ≡ summary_length = search rules in
    rw (c.waits_stand-stand.ensures, waits_part _ long, c.counts_in.ensures) at c.fault_by.ensures
