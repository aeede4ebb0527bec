-- What a look at each of the entries finds, one after the other. `proofs/` relates these definitions, which hand over no state, to those
-- of the model, and `layout/proofs/Looks` those of an entry in numbers to those of its location. Assumes nothing.
use Rattle.std.specs.Prelude.{ℕ, ◌+◌, ◌-◌, ◌%◌, ◌^◌, Bool, cond, not, ◌&&◌, ◌==◌, nat_le, nat_lt}
use Rattle.model.specs.Types.{Location}
use Rattle.model.specs.declared.Parameters.{Parameters}
use Rattle.rules.specs.declared.survey.Scene.{Scene}
use Rattle.rules.specs.declared.survey.Survey.{Survey}
use Rattle.model.specs.Stages.{remainder, checking, critical, leaving}
use Rattle.model.specs.States.{parameters_stand, clock_stands, word_stands, stage_of, since_of, stay}

-- [2.20] [2.30] [2.40] [2.50] of the numbers of a state
unfoldable pub numbers_stand : Parameters → ℕ → ℕ → Bool
numbers_stand k clock word = parameters_stand k && clock_stands clock && word_stands k.n word

-- helper: what all looks at entries have in common, and who acts
abbrev pub scene_with : ℕ → ℕ → ℕ → ℕ → Scene
scene_with n c clock acting = record { n = n; c = c; clock = clock; acting = acting }

-- helper: with these parameters
abbrev pub scene_of : Parameters → ℕ → ℕ → Scene
scene_of k clock acting = scene_with k.n k.c clock acting

-- helper: the time left where there is no deadline: more than any stay has, and the most that 32 bits hold
abbrev pub endless : ℕ
endless = 4294967295

-- helper: before the first entry
abbrev pub nothing : Survey
nothing = record { faulty = 0; left = endless; process = 0; critical = 0 }

-- One entry more, that of process k

-- helper: it is not sound
abbrev pub faulted : Survey → Survey
faulted f = record { faulty = 1; left = f.left; process = f.process; critical = f.critical }

-- helper: the table is not sound, whatever was seen of its entries
abbrev pub unsound : Survey
unsound = faulted nothing

-- helper: it is critical, and the lowest so far
abbrev pub critical_at : ℕ → Survey → Survey
critical_at k f = record { faulty = f.faulty; left = f.left; process = f.process; critical = k }

-- [4.85] its deadline comes first so far, and so long after the clock
abbrev pub first_at : ℕ → ℕ → Survey → Survey
first_at k left f = record { faulty = f.faulty; left = left; process = k; critical = f.critical }

-- helper: it is critical; the acting process is left out
abbrev pub critical_noted : ℕ → ℕ → Survey → Survey
critical_noted acting k f = cond (k == acting) f (cond (not (f.critical == 0)) f (critical_at k f))

-- helper: the deadline of a stay; the sum of limits that do not stand may wrap
abbrev pub due_from : ℕ → ℕ → ℕ
due_from since limit = (since + limit) % 2 ^ 64

-- [4.85] the first deadline so far, or where there is none a time that no stay reaches; the sum of a clock that does not stand may wrap
abbrev pub due_so_far : ℕ → Survey → ℕ
due_so_far clock f = due_from clock f.left

-- [4.85] it has a deadline, which is held against the first so far
abbrev pub due_noted : ℕ → ℕ → ℕ → Survey → Survey
due_noted clock k due f = cond (nat_le (due_so_far clock f) due) f (cond (nat_lt due clock) unsound (first_at k (due - clock) f))

-- helper: it came at `since` and may stay for `limit`
abbrev pub timed_noted : ℕ → ℕ → ℕ → ℕ → Survey → Survey
timed_noted clock k since limit f = cond (nat_lt clock since) (faulted f) (due_noted clock k (due_from since limit) f)

-- helper: the whole of a turn; `limit` is the bound of its stay outside checking
unfoldable pub noted : Scene → ℕ → Location → ℕ → Survey → Survey
noted x k l limit f =
    cond (stage_of l == remainder) f
    (cond (nat_lt x.n k) (faulted f)
    (cond (stage_of l == critical) (critical_noted x.acting k f)
    (timed_noted x.clock k (since_of l) (stay limit x.c l) f)))

-- The same of an entry that is given as two numbers, of a process from 1 to n

-- helper: from checking on
unfoldable pub later_noted : Scene → ℕ → ℕ → ℕ → ℕ → Survey → Survey
later_noted x k stage since limit f =
    cond (nat_lt leaving stage) (faulted f)
    (cond (stage == critical) (cond (not (since == 0)) (faulted f) (critical_noted x.acting k f))
    (timed_noted x.clock k since (cond (stage == checking) x.c limit) f))

-- helper: any stage
unfoldable pub numbers_noted : Scene → ℕ → ℕ → ℕ → ℕ → Survey → Survey
numbers_noted x k stage since limit f =
    cond (stage == remainder) (cond (not (since == 0)) (faulted f) f)
    (cond (nat_lt stage checking) (timed_noted x.clock k since limit f) (later_noted x k stage since limit f))
