-- What the check of `counts::count_accepted` does not find alone. Assumes nothing.
use Rattle.std.proofs.Common.{◌≡◌, length, drop, sym, ap, ◌∙◌, rules}
use Rattle.layout.specs.Encodings.{state_in, counts_length, summary_length}
use Rattle.layout.specs.Countings.{waited_put, accepted_in}
use Rattle.layout.proofs.Counting.{waits_kept, counts_told, waits_rest}
use Rattle.layout.proofs.counts.count_accepted.Goals as goal
use Rattle.layout.proofs.counts.count_accepted.Goals.{then-unused-ne0, else-unused-ne0}

pub wait_beside-requires-clause-fits : goal.wait_beside-requires-clause-fits
wait_beside-requires-clause-fits c =
    let l = c.put_counts.new.summary in
    let kept : drop counts_length l ≡ drop counts_length c.args.summary.now =
    ap (drop counts_length) c.put_counts.ensures ∙ waits_kept c.args.summary.now _ in
    λ i. rw kept (c.requires.fits i)

pub returns-then-does_clear-clause-summary_after : goal.returns-then-does_clear-clause-summary_after
unfolding accepted_in
returns-then-does_clear-clause-summary_after c =
    let a = c.args in
    let l = c.put_counts.new.summary in
    let qs = (state_in a.table.now).processes in
    let long : length a.summary.now ≡ summary_length = search rules in
    let put = counts_told a.summary.now long a.action a.process a.unused c.slot_of-slot.ensures c.waited_in.ensures c.counts_in.ensures c.counts_after.ensures
    c.put_counts.ensures in
    let grown : c.if-unused-ne0.summary ≡ waited_put l qs a.unused =
    elim c.if-unused-ne0.branch [
      | then-unused-ne0 w ↦ w.summary-is ∙ w.wait_beside.ensures
      | else-unused-ne0 w ↦ w.summary-is ∙ waits_rest l qs w.if-unused-ne0.false
    ] in
    c.put_waited.ensures ∙ rw (sym c.does_clear.ensures ∙ c.if-does_clear.true, grown, put, c.slot_of-slot.ensures)

pub returns-else-does_clear-clause-summary_after : goal.returns-else-does_clear-clause-summary_after
unfolding accepted_in
returns-else-does_clear-clause-summary_after c =
    let a = c.args in
    let l = c.put_counts.new.summary in
    let qs = (state_in a.table.now).processes in
    let long : length a.summary.now ≡ summary_length = search rules in
    let put = counts_told a.summary.now long a.action a.process a.unused c.slot_of-slot.ensures c.waited_in.ensures c.counts_in.ensures c.counts_after.ensures
    c.put_counts.ensures in
    let grown : c.if-unused-ne0.summary ≡ waited_put l qs a.unused =
    elim c.if-unused-ne0.branch [
      | then-unused-ne0 w ↦ w.summary-is ∙ w.wait_beside.ensures
      | else-unused-ne0 w ↦ w.summary-is ∙ waits_rest l qs w.if-unused-ne0.false
    ] in
    rw (sym c.does_clear.ensures ∙ c.if-does_clear.false, grown, put)
