-- The cases about states of deadlines, by computation. Assumes nothing.
use mathlib.Core.Path.{refl}
use Rattle.model.specs.Acts.{leaves}
use Rattle.model.specs.States.{limits_in, own_stand, limits_stand, limit_at, entries_sound, sound_of, entry_of}
use Rattle.model.specs.Actions.{transition_of, effect}
use Rattle.model.specs.Answers.{first_by, first_deadline, critical_by, critical_of, step_of}
use Rattle.model.specs.Folds.{end_by, results_by}
use Rattle.deadlines.specs.Deadlines.{entry_in, entries_sound_with, sound_with, first_last, critical_with, effect_with, step_with, fresh_with}
use Rattle.deadlines.specs.Matching.{dated_from, to_deadlines}
use Rattle.matching.specs.Cases.{DeadlineCases, EachItsOwnWith}

pub deadline_cases : DeadlineCases
unfolding leaves limits_in own_stand limits_stand limit_at first_by critical_by entry_in entries_sound_with sound_with first_last critical_with
    effect_with step_with
deadline_cases =
    record { of_arrival_0 = refl; one_later = refl; of_no_arrival = refl; first_below_b = refl; last_far_off = refl; first_that_wraps = refl }

-- [2.90] [12.20]
pub each_its_own_with : EachItsOwnWith
unfolding leaves limits_in own_stand limits_stand limit_at first_by critical_by entry_in entries_sound_with sound_with first_last critical_with
    effect_with step_with
    fresh_with end_by results_by transition_of effect entry_of entries_sound sound_of first_deadline critical_of step_of dated_from to_deadlines
each_its_own_with = record {
  quick_first = record { fresh = refl; written = refl; turned = refl; quick_late = refl; slow_late = refl };
  slow_first = record { fresh = refl; written = refl; turned = refl; quick_late = refl; slow_late = refl };
}
