-- `statistics::waiting::critical_past` meets its contract: the first critical entry past the acting one is that of the lowest such process.
-- Assumes nothing.
use Rattle.std.specs.Prelude.{Option, unwrap_or}
use Rattle.std.proofs.Common.{ℕ, ◌+◌, ap, drop, sym, ◌∙◌, rules, tests}
use Rattle.std.proofs.lemmas.Iterator.{YieldsList-from_slice}
use Rattle.std.proofs.lemmas.Iterator.Search.{position_from_yields_List}
use Rattle.model.proofs.Lists.{part_is}
use Rattle.statistics.proofs.Waits.{is_critical, critical_found, critical_nowhere}
use Rattle.statistics.proofs.waiting.critical_past.Goals as goal

pub returns : goal.returns
returns c =
    let acting = c.args.acting in
    let processes = c.args.state.processes in
    critical_found (acting + 1) (drop acting processes) c.in_ok-place.place
    (sym c.in_ok-place.was ∙ position_from_yields_List is_critical _ _ _ c.position.ensures.ran
    (YieldsList-from_slice (drop acting processes) (c.iter.ensures.rest ∙ part_is processes acting)) (λ x b q k. search (rules, tests)))

pub returns-in_err-place : goal.returns-in_err-place
returns-in_err-place c =
    let acting = c.args.acting in
    let processes = c.args.state.processes in
    ap (λ (r : Option ℕ). unwrap_or r 0) c.from_residual.ensures ∙ critical_nowhere (acting + 1) (drop acting processes)
    (sym c.in_err-place.was ∙ position_from_yields_List is_critical _ _ _ c.position.ensures.ran
    (YieldsList-from_slice (drop acting processes) (c.iter.ensures.rest ∙ part_is processes acting)) (λ x b q k. search (rules, tests)))
