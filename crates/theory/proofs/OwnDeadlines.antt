-- Two processes whose values of a lie far apart: the answers, computed. Assumes nothing.
use mathlib.Core.Path.{refl}
use Rattle.model.specs.Acts.{leaves}
use Rattle.model.specs.States.{limits_in, own_stand, limits_stand, limit_at, entries_sound, sound_of, entry_of}
use Rattle.model.specs.Actions.{transition_of, effect}
use Rattle.model.specs.Answers.{first_by, first_deadline, critical_by, critical_of, step_of, fresh_of}
use Rattle.model.specs.Folds.{results_by}
use Rattle.theory.specs.OwnDeadlines.{with_own, EachItsOwn}

pub each_its_own : EachItsOwn
unfolding results_by step_of fresh_of sound_of limits_stand own_stand limits_in entries_sound first_deadline first_by entry_of leaves transition_of effect
    critical_of critical_by limit_at
each_its_own = record {
  quick_first = record {
    fresh = record { parameters = (with_own 1 1000).parameters; accepted = refl; is = refl };
    quick_late = refl;
    slow_late = refl;
  };
  slow_first = record {
    fresh = record { parameters = (with_own 1000 1).parameters; accepted = refl; is = refl };
    quick_late = refl;
    slow_late = refl;
  };
}
