-- What the check of `counts::wait_beside` does not find alone: the last numbers of a summary are the waits so far. Assumes nothing.
use Rattle.std.proofs.Common.{◌≡◌, length, drop, rules}
use Rattle.layout.specs.Encodings.{state_in, summary_length, counts_length}
use Rattle.model.specs.Summaries.{waited_on}
use Rattle.layout.proofs.counts.wait_beside.Goals as goal

pub returns-in-Some : goal.returns-in-Some
returns-in-Some c =
    let a = c.args in
    let l = a.summary.now in
    let long : length l ≡ summary_length = search rules in
    let part : c.in-Some.waited.now ≡ drop counts_length l = rw long at c.in-Some.ensures.cases.1.same in
    let grown : c.wait_on.new.waited ≡ waited_on a.unused (state_in a.table.now).processes (drop counts_length l) =
    rw part at (c.wait_on.ensures (λ i. rw part (c.requires.fits i))) in
    rw (long, grown)
