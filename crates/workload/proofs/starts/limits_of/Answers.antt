-- Each call answers the value of the case at its place.
use Rattle.std.proofs.Common.{rules, ◌∙◌}
use Rattle.workload.specs.Work.{limit_for}
use Rattle.workload.proofs.Steps.{made_filled, limits_filled}
use Rattle.workload.proofs.starts.limits_of.Goals as goal

pub returns : goal.returns
returns c =
    made_filled (limit_for c.args.case) _ _ _ 0 96 (λ j y q k. search rules) c.from_fn.ensures.items ∙ limits_filled c.args.case 96
