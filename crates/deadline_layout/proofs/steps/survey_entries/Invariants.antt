-- `deadline_layout::steps::survey_entries` meets its contract: what is found, and the entries that are left, give what all of them give.
-- Assumes nothing.
use Rattle.std.proofs.Common.{◌≡◌, ◌+◌, length, drop}
use Rattle.std.specs.List.{concat}
use Rattle.rules.specs.Survey.{nothing}
use Rattle.deadline_layout.specs.Steps.{entries_noted_with}
use Rattle.deadline_layout.proofs.Turns.{left}
use Rattle.deadline_layout.proofs.steps.survey_entries.Given as goal

abbrev pub invariant-loop-four : goal.invariant-loop-four
invariant-loop-four l = record {
  part : l.left ≡ drop l.done l.entries;
  reach : l.done + length l.left ≡ length l.entries;
  found : left l.limits l.b l.scene l.entries l.done l.found ≡ entries_noted_with l.b l.limits l.scene 1 (concat l.entries) nothing;
}

abbrev pub decreases-loop-four : goal.decreases-loop-four
decreases-loop-four l = length l.left

abbrev pub invariant-loop-j : goal.invariant-loop-j
invariant-loop-j l = left l.limits l.b l.scene l.entries (l.done + l.j) l.found ≡ entries_noted_with l.b l.limits l.scene 1 (concat l.entries) nothing

abbrev pub invariant-loop-j-2 : goal.invariant-loop-j-2
invariant-loop-j-2 l = left l.limits l.b l.scene l.entries (l.done + l.j) l.found ≡ entries_noted_with l.b l.limits l.scene 1 (concat l.entries) nothing
