-- The table passes the test, which antt computes.
use Rattle.std.proofs.Common.{refl}
use Rattle.model.specs.Acts.{leaves}
use Rattle.model.specs.States.{limits_in, limit_at, own_stand, limits_stand, entries_sound, sound_of, entry_of}
use Rattle.model.specs.Actions.{transition_of, effect}
use Rattle.model.specs.Answers.{first_by, first_deadline, critical_by, critical_of, step_of, fresh_of}
use Rattle.run_cases.specs.Cases.{limits_with, called_of, expected_of}
use Rattle.run_cases.proofs.Cases.{same_answer, same_numbers, same_parameters, same_entry, same_entries, same_state, same_outcome, passes, hold}
use Rattle.run_cases.proofs.rows.table.Goals as goal

pub returns : goal.returns
unfolding passes same_outcome same_state same_entries same_entry same_parameters same_numbers same_answer called_of expected_of limits_with fresh_of step_of
    sound_of limits_stand own_stand limits_in limit_at entries_sound first_deadline first_by entry_of leaves transition_of effect critical_of critical_by
returns c = hold _ _ refl
