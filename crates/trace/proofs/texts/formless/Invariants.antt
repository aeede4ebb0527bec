-- The loop of `texts::formless`: a step without a form is yet to come just where there is one. Assumes nothing.
use Rattle.std.proofs.Common.{◌≡◌, ◌+◌}
use Rattle.model.specs.Readings.{lists}
use Rattle.model.specs.Writings.{events_of, formless_from}
use Rattle.model.proofs.Steps.{from}
use Rattle.trace.proofs.texts.formless.Given as goal

abbrev pub invariant-loop-i : goal.invariant-loop-i
invariant-loop-i l =
    let given = lists l.times l.processes l.actions in
    formless_from (l.first + l.i) (events_of (from l.i given)) ≡ formless_from l.first (events_of given)
