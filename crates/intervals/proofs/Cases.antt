-- The cases of section 11 of the specification, computed. Assumes nothing.
use mathlib.Core.Path.{refl}
use Rattle.model.specs.Acts.{leaves}
use Rattle.model.specs.States.{limits_in, own_stand, limits_stand, limit_at, entries_sound, sound_of, entry_of}
use Rattle.model.specs.Actions.{transition_of, effect}
use Rattle.model.specs.Answers.{first_by, first_deadline, critical_by, critical_of, step_of, fresh_of}
use Rattle.model.specs.Folds.{results_by}
use Rattle.model.specs.Texts.{decimal_in, decimal, number_text}
use Rattle.model.specs.Readings.{starts_with, number_from, word_from, event_at, numbers_from, head_of, body_in, body_of, trace_of}
use Rattle.model.specs.Executions.{attempts_of}
use Rattle.intervals.specs.Intervals.{end_of, intervals_of, end_text, interval_text, interval_lines, intervals_text, write_intervals_of}
use Rattle.intervals.specs.Cases.{WholeIntervals, TwoIntervals, NoIntervals, OwnExit}

pub whole_intervals : WholeIntervals
unfolding leaves limits_in own_stand limits_stand limit_at entries_sound sound_of entry_of transition_of effect first_by first_deadline critical_by critical_of
    step_of fresh_of results_by decimal_in decimal number_text starts_with number_from word_from event_at numbers_from head_of body_in body_of trace_of
    attempts_of end_of intervals_of end_text interval_text interval_lines intervals_text write_intervals_of
whole_intervals out = refl

pub two_intervals : TwoIntervals
unfolding leaves limits_in own_stand limits_stand limit_at entries_sound sound_of entry_of transition_of effect first_by first_deadline critical_by critical_of
    step_of fresh_of results_by decimal_in decimal number_text starts_with number_from word_from event_at numbers_from head_of body_in body_of trace_of
    attempts_of end_of intervals_of end_text interval_text interval_lines intervals_text write_intervals_of
two_intervals out = refl

pub no_intervals : NoIntervals
unfolding limits_in own_stand limits_stand results_by starts_with number_from numbers_from head_of body_in body_of trace_of
    attempts_of intervals_of interval_lines intervals_text write_intervals_of
no_intervals out = (refl, refl)

pub own_exit : OwnExit
unfolding end_of intervals_of
own_exit = refl
