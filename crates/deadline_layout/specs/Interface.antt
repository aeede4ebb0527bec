-- Section 12 of the specification: what the calls on lent deadline tables give back, the lent numbers included. Assumes nothing.
use Rattle.std.specs.Prelude.{ℕ, cond, not, List, length, ltb, eqb}
use Rattle.model.specs.declared.Parameters.{Parameters}
use Rattle.model.specs.Answers.{answer_of}
use Rattle.model.specs.Readings.{over}
use Rattle.layout.specs.Encodings.{table_length, table_in, is_sound_table}
use Rattle.layout.specs.Interface.{Lent, lent_gave, outcome_lent}
use Rattle.deadlines.specs.Types.{DeadlineOutcome}
use Rattle.deadlines.specs.Deadlines.{step_with, fresh_with}
use Rattle.deadlines.specs.Matching.{to_deadlines, to_arrivals}
use Rattle.deadline_layout.specs.Encodings.{deadline_length, state_numbers_with, deadline_table_in, is_sound_deadline_table}

-- helper: the state of an outcome stands where a deadline table was lent, and what stood after it stays
abbrev pub outcome_lent_with : DeadlineOutcome → List ℕ → Lent
outcome_lent_with o table = lent_gave o.answer (over (state_numbers_with o.state) table)

-- [12.120] [12.145] [4.16] `funnelfawn_fresh_deadlines`: 11, 12, and then 16, as the list is only an output
unfoldable pub lent_fresh_with : Parameters → List ℕ → Lent
lent_fresh_with k table =
    cond (not (eqb (fresh_with k).answer.code 0)) (lent_gave (fresh_with k).answer table)
    (cond (ltb (length table) deadline_length) (lent_gave (answer_of 16 0 0) table)
    (outcome_lent_with (fresh_with k) table))

-- [12.115] [12.130] [12.145] `funnelfawn_step_deadlines`: 1 where the numbers are those of no sound deadline table, or too few
unfoldable pub lent_step_with : List ℕ → ℕ → ℕ → ℕ → Lent
lent_step_with table act p m =
    cond (not (is_sound_deadline_table table)) (lent_gave (answer_of 1 0 0) table)
    (outcome_lent_with (step_with (deadline_table_in table) act p m) table)

-- [12.140] [12.145] `funnelfawn_to_deadlines`: 1 where the numbers are those of no sound table, then 16; the numbers are those of the list that is written
unfoldable pub lent_to_deadlines : List ℕ → List ℕ → Lent
lent_to_deadlines table out =
    cond (not (is_sound_table table)) (lent_gave (answer_of 1 0 0) out)
    (cond (ltb (length out) deadline_length) (lent_gave (answer_of 16 0 0) out)
    (outcome_lent_with (to_deadlines (table_in table)) out))

-- [12.140] [12.145] `funnelfawn_to_arrivals`
unfoldable pub lent_to_arrivals : List ℕ → List ℕ → Lent
lent_to_arrivals deadlines out =
    cond (not (is_sound_deadline_table deadlines)) (lent_gave (answer_of 1 0 0) out)
    (cond (ltb (length out) table_length) (lent_gave (answer_of 16 0 0) out)
    (outcome_lent (to_arrivals (deadline_table_in deadlines)) out))
