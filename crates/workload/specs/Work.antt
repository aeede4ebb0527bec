-- The work of the benchmarks: of each case how many processes it has, the state that it starts from, and its acts. It is measured and is
-- no part of the box; here stands what is measured. Assumes nothing.
use Rattle.std.specs.Prelude.{ℕ, Bool, true, false, zero, suc, ◌+◌, ◌≡◌, ◌-◌, ◌*◌, ◌/◌, ◌%◌, ◌^◌, cond, List, replicate, ◌==◌, nat_le, nat_lt, slice_set}
use Rattle.model.specs.Types.{Location}
use Rattle.model.specs.declared.Location.TheVariants.{Remainder, Testing, Critical}
use Rattle.model.specs.declared.Parameters.{Parameters}
use Rattle.model.specs.Types.{Process}
use Rattle.model.specs.Types.{State}
use Rattle.model.specs.declared.Answer.{Answer}
use Rattle.model.specs.States.{parameters_of, entry, idle, location_at}
use Rattle.model.specs.Acts.{wait_act, try_act, test_act, rem_act}
use Rattle.workload.specs.declared.acts.Act.{Act}
use Rattle.workload.specs.declared.kinds.Kind.{Kind}
use Rattle.workload.specs.declared.kinds.Kind.TheVariants.{Idle, Accepted, Late, Unsound, Busy, BusyLate, BusyUnsound, Mixed}
use Rattle.workload.specs.declared.kinds.Kind.TheVariants.{OutOfPlace, UnsoundFirst, Moving, MixedMoving, Selling, Unequal}

-- helper: the value of a digit; 0 of any other byte
abbrev pub digit_of : ℕ → ℕ
digit_of byte = cond (nat_lt byte 48) 0 (cond (nat_lt 57 byte) 0 (byte - 48))

-- A case is 10 times its kind and a digit for its processes. Case 0 makes no step. Of the kinds, OutOfPlace is refused with 9, Late and
-- BusyLate with 8, and Unsound, BusyUnsound and UnsoundFirst with 1; the others are accepted

-- helper: how many processes a case has
abbrev pub size_in : ℕ → ℕ
size_in case = cond (case % 10 == 1) 2 (cond (case % 10 == 2) 24 96)

-- helper: what a case measures; from 11 on each act moves the clock
abbrev pub kind_at : ℕ → Kind
kind_at kind =
    cond (kind == 0) Idle
    (cond (kind == 10) Idle
    (cond (kind == 1) Accepted
    (cond (kind == 2) Late
    (cond (kind == 3) Unsound
    (cond (kind == 4) Busy
    (cond (kind == 5) BusyLate
    (cond (kind == 6) BusyUnsound
    (cond (kind == 7) Mixed
    (cond (kind == 8) OutOfPlace
    (cond (kind == 9) UnsoundFirst
    (cond (kind == 12) MixedMoving
    (cond (kind == 13) Selling
    (cond (kind == 15) Unequal
    Moving)))))))))))))

-- helper: that of a case
abbrev pub kind_in : ℕ → Kind
kind_in case = kind_at (case / 10)

-- helper: whether its limits are wide, and each act moves the clock
abbrev pub is_moving : Kind → Bool
is_moving Moving = true
is_moving MixedMoving = true
is_moving Selling = true
is_moving Unequal = true
is_moving _ = false

-- The state that a case starts from

-- helper: the a of a process of a kind, by the place of its entry: in Unequal a million less the number of the process
abbrev pub limit_in : Kind → ℕ → ℕ
limit_in Moving place = 1_000_000
limit_in MixedMoving place = 1_000_000
limit_in Selling place = 1_000_000
limit_in Unequal place = 999_999 - place
limit_in _ place = 5

-- helper: the same in a case, where it is 0 past the processes
unfoldable pub limit_for : ℕ → ℕ → ℕ
limit_for case place = cond (nat_le (size_in case) place) 0 (limit_in (kind_in case) place)

-- helper: 96 values of a, of which the first are those of a case, and the others 0
unfoldable pub limits_for : ℕ → ℕ → List ℕ
limits_for case zero = replicate 96 0
limits_for case (suc k) = slice_set (limits_for case k) k (limit_for case k)

-- helper: its parameters, whose n in one case is not sound
unfoldable pub parameters_in : ℕ → Parameters
parameters_in case =
    parameters_of (cond (case == 94) 97 (size_in case)) (cond (is_moving (kind_in case)) 1_000_001 8)
    (cond (is_moving (kind_in case)) 2_000_000 12) (limits_for case 96)

-- helper: its word, which is held where all are testing or in the timed locations
abbrev pub word_in : Kind → ℕ
word_in Busy = 1
word_in BusyLate = 1
word_in BusyUnsound = 1
word_in Mixed = 1
word_in Moving = 1
word_in MixedMoving = 1
word_in Selling = 1
word_in Unequal = 1
word_in _ = 0

-- helper: at one place alone testing since a time, at the others the remainder
abbrev pub only_in : ℕ → ℕ → ℕ → Location
only_in place chosen time = cond (place == chosen) (Testing time) Remainder

-- helper: each of the six timed locations in turn
abbrev pub mixed_in : ℕ → Location
mixed_in place = location_at (place % 6 + 1 + place % 6 / 4) 0

-- helper: where one of so many processes is, by the place of its entry. The clock is 0: who came at 9 is not sound
abbrev pub placed_in : Kind → ℕ → ℕ → Location
placed_in Late size place = only_in place 0 0
placed_in Unsound size place = only_in (place + 1) size 9
placed_in Busy size place = Testing 0
placed_in BusyLate size place = Testing 0
placed_in BusyUnsound size place = Testing (cond (place + 1 == size) 9 0)
placed_in Mixed size place = mixed_in place
placed_in UnsoundFirst size place = only_in place 0 9
placed_in Moving size place = Testing 0
placed_in MixedMoving size place = mixed_in place
placed_in Selling size place = cond (place == 0) Critical (Testing 0)
placed_in Unequal size place = Testing 0
placed_in _ size place = Remainder

-- helper: the same in a case, where the others are in the remainder
unfoldable pub location_in : ℕ → ℕ → Location
location_in case place = cond (nat_le (size_in case) place) Remainder (placed_in (kind_in case) (size_in case) place)

-- helper: 96 entries, of which the first are those of a case, and the others idle
unfoldable pub entries_in : ℕ → ℕ → List Process
entries_in case zero = replicate 96 idle
entries_in case (suc k) = slice_set (entries_in case k) k (entry (location_in case k))

-- helper: the state
unfoldable pub start_in : ℕ → State
start_in case =
    record { parameters = parameters_in case; clock = 0; word = word_in (kind_in case); processes = entries_in case 96 }

-- The acts

-- helper: the process whose turn it is: each of them once in a lap
abbrev pub turn_in : ℕ → ℕ → ℕ
turn_in case i = i % size_in case + 1

-- helper: the lap
abbrev pub lap_in : ℕ → ℕ → ℕ
lap_in case i = i / size_in case

-- helper: the time of an act of a round: a round takes 20, and the check and what follows it come 8 later
abbrev pub time_in : ℕ → ℕ → ℕ
time_in round place = round * 20 + place + place / 3 * 8 - place / 6 * 8

-- helper: an act, of its numbers
abbrev pub act_with : ℕ → ℕ → ℕ → Act
act_with action process time = record { action = action; process = process; time = time }

-- helper: rounds of the eight actions of one process after the other, from anew after 16,000
abbrev pub round_act : ℕ → ℕ → Act
round_act case i =
    act_with (try_act + i % 16_000 % 8) (turn_in case (i % 16_000 / 8)) (time_in (i % 16_000 / 8) (i % 16_000 % 8))

-- helper: the i-th act of a kind
abbrev pub act_by : Kind → ℕ → ℕ → Act
act_by Accepted case i = round_act case i
act_by Busy case i = act_with test_act (turn_in case i) (lap_in case i)
act_by Mixed case i = act_with wait_act 0 0
act_by OutOfPlace case i = act_with rem_act 1 0
act_by Moving case i = act_with test_act 1 i
act_by MixedMoving case i = act_with wait_act 0 i
act_by Selling case i = act_with test_act 2 i
act_by Unequal case i = act_with test_act 1 i
act_by _ case i = act_with wait_act 0 1000

-- helper: that of a case
unfoldable pub act_in : ℕ → ℕ → Act
act_in case i = act_by (kind_in case) case i

-- The steps

-- helper: how many a case makes
abbrev pub steps_in : ℕ → ℕ
steps_in case = cond (case == 0) 0 2000

-- helper: a sum and the numbers of an answer, modulo 2 ^ 64
abbrev pub added : ℕ → Answer → ℕ
added sum answer = (((sum + answer.code) % 2 ^ 64 + answer.process) % 2 ^ 64 + answer.time) % 2 ^ 64

-- helper: steps of a machine, at so many acts of a case from the i-th on, leave the last machine and add up their answers to one sum, and that
-- is the total
abbrev pub Sums : {M : Type 0} → (M → Act → Answer → M → Type 0) → ℕ → ℕ → ℕ → M → M → ℕ → ℕ → Type 0
Sums step case i zero machine last sum total = (machine ≡ last) × (sum ≡ total)
Sums {M} step case i (suc n) machine last sum total =
    (answer : Answer) × (next : M) × step machine (act_in case i) answer next × Sums step case (i + 1) n next last (added sum answer) total
