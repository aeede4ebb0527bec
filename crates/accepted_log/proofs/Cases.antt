-- The cases of accepted logs, computed. Assumes nothing.
use Prim.Native.Nat.{min}
use mathlib.Core.Path.{refl, ◌∙◌}
use native.Mathlib.Omega.{arith}
use lib.ListN.{length}
use borrow.Author.Tests.{lt-ltb}
use Rattle.model.specs.Acts.{leaves}
use Rattle.model.specs.States.{limits_in, own_stand, limits_stand, limit_at, entries_sound, sound_of, entry_of}
use Rattle.model.specs.Actions.{transition_of, effect}
use Rattle.model.specs.Answers.{first_by, first_deadline, critical_by, critical_of, step_of, fresh_of}
use Rattle.model.specs.Folds.{results_by}
use Rattle.model.specs.Readings.{starts_with, number_from, word_from, event_at, numbers_from, head_of, body_in, body_of, trace_of}
use Rattle.model.specs.Executions.{attempts_of}
use Rattle.local_log.specs.Comparisons.{entries_of}
use Rattle.accepted_log.specs.AcceptedLogs.{accepted_log, logged_in, read_accepted_of}
use Rattle.accepted_log.specs.Cases.{TwoLogs, ShortLists}

-- [13.165]
pub two_logs : TwoLogs
unfolding leaves limits_in own_stand limits_stand limit_at entries_sound sound_of entry_of transition_of effect first_by first_deadline critical_by critical_of
    step_of fresh_of results_by starts_with number_from word_from event_at numbers_from head_of body_in body_of trace_of attempts_of entries_of accepted_log
    read_accepted_of
two_logs times actions = (refl, refl, refl, refl)

-- [13.165]
pub short_lists : ShortLists
unfolding entries_of logged_in
short_lists times actions h = (two_logs times actions).0 ∙ rw (lt-ltb (min (length times) (length actions)) 8 (omega (arith, h))) refl
