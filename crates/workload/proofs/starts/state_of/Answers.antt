-- Each call answers the entry of the case at its place.
use Rattle.std.proofs.Common.{ℕ, rules, ap, ◌∙◌}
use Rattle.model.specs.States.{entry, idle}
use Rattle.workload.specs.Work.{word_in, location_in, start_in}
use Rattle.workload.proofs.Steps.{made_filled, entries_filled}
use Rattle.workload.proofs.starts.state_of.Goals as goal

pub returns : goal.returns
unfolding start_in
returns c =
    let placed = λ (n : ℕ). entry (location_in c.args.case n) in
    let made = made_filled placed _ _ _ idle 96 (λ j y q k. search rules) c.from_fn.ensures.items ∙ entries_filled c.args.case 96 in
    λ i. record {
      parameters = c.parameters_of.ensures i;
      clock = 0;
      word = (c.word_of.ensures ∙ ap word_in c.of.ensures) i;
      processes = made i;
    }
