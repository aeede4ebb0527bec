-- The whole traces of section 7 of the specification, computed. Assumes nothing.
use mathlib.Core.Path.{refl}
use Rattle.model.specs.Acts.{leaves}
use Rattle.model.specs.States.{limits_in, own_stand, limits_stand, limit_at, entries_sound, sound_of, entry_of}
use Rattle.model.specs.Actions.{transition_of, effect}
use Rattle.model.specs.Answers.{first_by, first_deadline, critical_by, critical_of, step_of, fresh_of}
use Rattle.model.specs.Folds.{results_by}
use Rattle.model.specs.Texts.{decimal_in, decimal, number_text, numbers_text, values_text, limits_text, head_text, word_text, event_text}
use Rattle.model.specs.Texts.{events_text, first_line}
use Rattle.model.specs.Readings.{starts_with, number_from, word_from, event_at, numbers_from, limits_from, head_of, body_in, body_of, trace_of}
use Rattle.model.specs.Reports.{rows_text, report_text}
use Rattle.grammar.specs.Wholes.{WholeCase, NewCase, RenewedCase, NamesCase, EmptyCase, FirstOfFaults}

both_cases : WholeCase × NewCase
unfolding leaves limits_in own_stand limits_stand limit_at entries_sound sound_of entry_of transition_of effect first_by first_deadline critical_by critical_of
    step_of fresh_of results_by decimal_in decimal number_text numbers_text first_line starts_with number_from word_from
    event_at numbers_from limits_from head_of body_in body_of trace_of rows_text report_text
both_cases = (refl, refl)

pub whole_case : WholeCase
whole_case = both_cases.0

pub new_case : NewCase
new_case = both_cases.1

pub renewed_case : RenewedCase
unfolding limits_in own_stand limits_stand decimal_in decimal number_text numbers_text values_text limits_text head_text event_text events_text word_text
    starts_with number_from word_from event_at numbers_from limits_from head_of body_in body_of trace_of
renewed_case = refl

pub names_case : NamesCase
unfolding limits_in own_stand limits_stand results_by starts_with number_from numbers_from limits_from head_of body_in body_of trace_of rows_text report_text
names_case = record { former = refl; new = refl }

pub empty_case : EmptyCase
unfolding decimal_in decimal number_text numbers_text starts_with head_of trace_of report_text
empty_case = refl

pub first_of_faults : FirstOfFaults
unfolding limits_in own_stand limits_stand decimal_in decimal number_text numbers_text starts_with number_from numbers_from limits_from head_of
    trace_of report_text
first_of_faults = record { limits = refl; limit-names = refl; order = refl }
