-- `layout::steps::survey_entries` meets its contract: what is found, and the entries that are left, give what all of them give.
-- Assumes nothing.
use Rattle.std.proofs.Common.{◌≡◌, ◌+◌, ◌*◌, drop}
use Rattle.rules.specs.Survey.{nothing}
use Rattle.layout.specs.Encodings.{stride, limits_told}
use Rattle.layout.specs.Places.{entries_in, entries_from, first_entries}
use Rattle.layout.specs.Steps.{entries_noted, entries_up_to}
use Rattle.layout.proofs.steps.survey_entries.Given as goal

abbrev pub invariant-loop-i : goal.invariant-loop-i
invariant-loop-i l =
    entries_noted (limits_told l.table) l.scene (l.i + 1) (entries_in (drop (stride * l.i) (first_entries l.count (entries_from l.table 0)))) l.found
    ≡ entries_noted (limits_told l.table) l.scene 1 (entries_up_to l.count l.table) nothing
