-- The answer to an action on numbers, from what the looks at the entries found. The acting process has the stage `place` and may check
-- from `release` on, and its act has the row t. `proofs/Rows` relates the row to the model, and `proofs/Judged` the rest. Assumes nothing.
use Rattle.std.specs.Prelude.{ℕ, ◌+◌, ◌-◌, ◌%◌, ◌^◌, Bool, cond, not, ◌&&◌, ◌||◌, List, [], ◌∷◌, ◌==◌, nat_lt}
use Rattle.model.specs.Types.{Location}
use Rattle.model.specs.declared.Location.TheVariants.{Remainder}
use Rattle.model.specs.Types.{Process}
use Rattle.model.specs.declared.Transition.{Transition}
use Rattle.model.specs.declared.Answer.{Answer}
use Rattle.model.specs.Stages.{remainder, critical}
use Rattle.model.specs.Acts.{wait_act, check_act}
use Rattle.model.specs.States.{stage_of, since_of}
use Rattle.model.specs.Actions.{row, transition_of}
use Rattle.model.specs.Answers.{answer_of, beyond, unknown, misnamed}
use Rattle.rules.specs.declared.survey.Scene.{Scene}
use Rattle.rules.specs.declared.survey.Survey.{Survey}
use Rattle.rules.specs.Survey.{due_so_far}

-- The row of an action

-- helper: of an action that has no row: a wait, which leaves no place, or one that is unknown and refused
abbrev pub no_row : ℕ → Transition
no_row word = row remainder Remainder word

-- [3.40] of any action
unfoldable pub row_of : ℕ → ℕ → ℕ → ℕ → Transition
row_of act p m word = cond (act == wait_act || unknown act) (no_row word) (transition_of word act p m)

-- Who is critical besides the acting process

-- helper: the entry q of process k is critical, and k is not the acting process
abbrev pub other_critical : ℕ → ℕ → Process → Bool
other_critical acting k q = stage_of q.location == critical && not (k == acting)

-- helper: the lowest such process from k on
unfoldable pub others_from : ℕ → ℕ → List Process → ℕ
others_from acting k [] = 0
others_from acting k (q ∷ qs) = cond (other_critical acting k q) k (others_from acting (k + 1) qs)

-- The answer

-- helper: the lowest critical process once process p has come to a location, from the lowest of the others
unfoldable pub lowest_of : ℕ → ℕ → Location → ℕ
lowest_of others p to =
    cond (not (stage_of to == critical)) others (cond (others == 0) p (cond (nat_lt others p) others p))

-- helper: the place of a process's entry; the first where there is no such process, so that it may be read before the process is judged
abbrev pub slot_of : ℕ → ℕ
slot_of p = cond (nat_lt 96 p) 0 (p - 1)

-- helper: from when on a process in this location may check; the sum of an entry that is not sound may wrap
abbrev pub check_from : Location → ℕ → ℕ
check_from l b = (since_of l + b) % 2 ^ 64

-- helper: an action of the process p that nobody is late for
unfoldable pub turn_judged : ℕ → ℕ → ℕ → ℕ → Transition → ℕ → ℕ → Answer
turn_judged others p place release t act m =
    cond (not (place == t.from)) (answer_of 9 p 0)
    (cond (act == check_act && nat_lt m release) (answer_of 10 p release)
    (answer_of 0 (lowest_of others p t.to) m))

-- [4.8] [4.85] there is a first deadline, and a time from the clock on is past it
abbrev pub overdue : Survey → ℕ → ℕ → Bool
overdue f clock m = not (f.process == 0) && nat_lt f.left (m - clock)

-- helper: any action, from what the pass found
unfoldable pub judged : Survey → Scene → ℕ → ℕ → Transition → ℕ → ℕ → Answer
judged f x place release t act m =
    cond (not (f.faulty == 0)) (answer_of 1 0 0)
    (cond (nat_lt m x.clock) (answer_of 4 0 x.clock)
    (cond (beyond m) (answer_of 5 0 0)
    (cond (unknown act) (answer_of 6 0 0)
    (cond (misnamed x.n act x.acting) (answer_of 7 0 0)
    (cond (overdue f x.clock m) (answer_of 8 f.process (due_so_far x.clock f))
    (cond (act == wait_act) (answer_of 0 f.critical m)
    (turn_judged f.critical x.acting place release t act m)))))))
