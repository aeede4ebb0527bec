-- What the check of `conversions::to_arrivals` does not find alone. Assumes nothing.
use Rattle.std.proofs.Common.{◌≡◌, length, get_or, sym, ◌∙◌, rules}
use Rattle.model.specs.States.{entry, idle}
use Rattle.model.proofs.Lists.{length_mapped}
use Rattle.model.specs.Answers.{fresh_of}
use Rattle.deadlines.specs.Deadlines.{idle_with}
use Rattle.deadlines.specs.Matching.{to_arrivals, arrived_at, arrived_from}
use Rattle.deadlines.proofs.Matched.{length_arrived, arrived-at}
use Rattle.theory.proofs.Conditions.{opposite}
use Rattle.conversions.proofs.Filling.{sound_iff_waits_with, placed}
use Rattle.conversions.proofs.to_arrivals.Goals as goal

pub returns-then-looked-ne0 : goal.returns-then-looked-ne0
unfolding to_arrivals fresh_of
returns-then-looked-ne0 c =
    rw (
      c.from.ensures,
      c.fresh.ensures,
      c.no_parameters.ensures,
      (opposite (sound_iff_waits_with _)).1 (rw c.step-looked.ensures at c.if-looked-ne0.true),
    )

pub returns : goal.returns
unfolding to_arrivals
returns c =
    let d = c.args.state in
    let k = d.parameters in
    let size : length d.processes ≡ 96 = search (rules, length_mapped) in
    let entries : c.from_fn.result ≡ arrived_from k d.processes =
    placed _ _ (λ i. entry (arrived_at k.b (get_or d.processes i idle_with).location)) (λ x r f g. (search rules, search rules))
    (arrived_from k d.processes) _ idle (λ i h. sym (arrived-at k d.processes i)) 96
    (length_arrived k d.processes ∙ size) c.from_fn.ensures.items in
    rw (c.accepted.ensures, entries, (sound_iff_waits_with _).1 (rw c.step-looked.ensures at c.if-looked-ne0.false))
