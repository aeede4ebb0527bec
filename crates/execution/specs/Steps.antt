-- The steps that lists have and that are lent, as three lists and as the steps that these stand for. Assumes nothing.
use Rattle.std.specs.Prelude.{ℕ, List, drop, replicate}
use Rattle.model.specs.Texts.{Event}
use Rattle.model.specs.Readings.{Lists, lists}
use Rattle.model.specs.Writings.{events_of}
use Rattle.execution.specs.declared.recording.Lists.{Lists as Room}
use Rattle.execution.specs.declared.recording.Steps.{Steps}

-- helper: the three lists
abbrev pub lists_in : Room → Lists
lists_in r = lists r.times r.processes r.actions

-- helper: where nothing has been read
abbrev pub fresh_lists : Lists
fresh_lists = lists (replicate 8187 0) (replicate 8187 0) (replicate 8187 0)

-- helper: those of lent steps
abbrev pub lists_of : Steps → Lists
lists_of s = lists s.times.now s.processes.now s.actions.now

-- helper: from place i on
abbrev pub lists_after : ℕ → Lists → Lists
lists_after i l = lists (drop i l.times) (drop i l.processes) (drop i l.actions)

-- [6.150] the steps
abbrev pub steps_of : Steps → List Event
steps_of s = events_of (lists_of s)
