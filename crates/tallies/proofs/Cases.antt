-- The case of a summary, computed. Assumes nothing.
use mathlib.Core.Path.{refl}
use Rattle.model.specs.Acts.{leaves}
use Rattle.model.specs.States.{limits_in, own_stand, limits_stand, limit_at, entries_sound, sound_of, entry_of}
use Rattle.model.specs.Actions.{transition_of, effect}
use Rattle.model.specs.Answers.{first_by, first_deadline, critical_by, critical_of, step_of}
use Rattle.model.specs.Folds.{end_by, results_by, log_by}
use Rattle.model.specs.Summaries.{waited_sound, statistics_sound, waited_on, accepted_counted, answer_counted, recorded_of}
use Rattle.model.specs.Tallies.{count_of, clock_after, critical_after, unused_since, longest_wait}
use Rattle.tallies.specs.Cases.{WaitCase}

pub wait_case : WaitCase
unfolding end_by results_by log_by recorded_of statistics_sound waited_sound answer_counted accepted_counted waited_on
    step_of sound_of limits_stand own_stand limits_in entries_sound first_deadline first_by entry_of leaves transition_of effect critical_of
    critical_by limit_at
    count_of clock_after critical_after unused_since longest_wait
wait_case = record { answered = refl; waited = refl; counted = refl; told = refl }
