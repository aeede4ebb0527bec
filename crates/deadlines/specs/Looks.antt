-- What a look at an entry of the second engine finds, on numbers and on a location. `proofs/` relates these definitions, which hand over no state, to
-- those of `Deadlines` and to the looks of `rules`. Assumes nothing.
use Rattle.std.specs.Prelude.{ℕ, ◌+◌, ◌-◌, ◌%◌, ◌^◌, Bool, false, cond, not, ◌&&◌, ◌||◌, ◌==◌, nat_le, nat_lt}
use Rattle.model.specs.Types.{Location}
use Rattle.model.specs.Stages.{remainder, checking, critical}
use Rattle.model.specs.States.{stage_of, since_of}
use Rattle.rules.specs.declared.survey.Scene.{Scene}
use Rattle.rules.specs.declared.survey.Survey.{Survey}
use Rattle.rules.specs.Survey.{unsound, critical_noted, due_from, due_noted}
use Rattle.deadlines.specs.Types.{DeadlineLocation}
use Rattle.deadlines.specs.Deadlines.{stage_with, first_of, last_of, deadline_at, opens_after, closes_after}

-- A location with its times written out, by sums that may wrap

-- helper: of a process with the bound `limit`
abbrev pub dated_with : ℕ → ℕ → ℕ → Location → DeadlineLocation
dated_with b c limit l =
    deadline_at (stage_of l) (cond (stage_of l == checking) (due_from (since_of l) b) (since_of l)) (due_from (since_of l) (closes_after c limit (stage_of l)))

-- One entry more, that of process k

-- helper: its two times: first and last have to come `opens` and `closes` after one arrival
unfoldable pub bounds_noted : ℕ → ℕ → ℕ → ℕ → ℕ → ℕ → Survey → Survey
bounds_noted clock k first last opens closes f =
    cond (nat_lt first opens) unsound
    (cond (nat_lt clock (first - opens)) unsound
    (cond (not (last == due_from (first - opens) closes)) unsound
    (due_noted clock k last f)))

-- helper: a difference that may wrap
abbrev pub back_from : ℕ → ℕ → ℕ
back_from last closes = (last + (2 ^ 64 - closes)) % 2 ^ 64

-- helper: that look finds nothing new: the times are sound, and the last is not sooner than the first deadline so far, `due`
unfoldable pub settled_by : ℕ → ℕ → ℕ → ℕ → ℕ → ℕ → Bool
settled_by due clock first last opens closes =
    nat_le due last && nat_le (back_from last closes) clock && first == due_from (back_from last closes) opens

-- helper: the whole of a look at a location; `limit` is the bound of its stay outside checking
unfoldable pub location_noted : Scene → ℕ → DeadlineLocation → ℕ → ℕ → Survey → Survey
location_noted x k l b limit f =
    cond (stage_with l == remainder) f
    (cond (nat_lt x.n k) unsound
    (cond (stage_with l == critical) (critical_noted x.acting k f)
    (bounds_noted x.clock k (first_of l) (last_of l) (opens_after b (stage_with l)) (closes_after x.c limit (stage_with l)) f)))

-- helper: a timed location other than checking, in which nothing new is found
abbrev pub settled_at : ℕ → ℕ → ℕ → DeadlineLocation → Bool
settled_at due clock limit l =
    cond (stage_with l == remainder || stage_with l == checking || stage_with l == critical) false
    (settled_by due clock (first_of l) (last_of l) 0 limit)

-- helper: three numbers are 0
abbrev pub three_zeros : ℕ → ℕ → ℕ → Bool
three_zeros x y z = x == 0 && y == 0 && z == 0
