-- The loop of `texts::put_events`: the lines from step i on are left to put. Assumes nothing.
use Rattle.std.proofs.Common.{◌≤◌}
use Rattle.model.specs.Texts.{events_text}
use Rattle.model.specs.Readings.{lists}
use Rattle.model.specs.Writings.{events_of}
use Rattle.model.proofs.Steps.{from}
use Rattle.text.proofs.Putting.{Left}
use Rattle.trace.proofs.texts.put_events.Given as goal

abbrev pub invariant-loop-i : goal.invariant-loop-i
invariant-loop-i l =
    let given = lists l.times l.processes l.actions in
    (l.at ≤ 65536) × Left l.initial.out l.start (events_text (events_of given)) l.out l.at (events_text (events_of (from l.i given)))
