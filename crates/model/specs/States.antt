-- Section 2 of the specification: which numbers stand, the locations and their times, the fresh state and the sound ones.
-- Assumes nothing.
use Rattle.std.specs.Prelude.{ℕ, ◌+◌, ◌-◌, max, Bool, true, false, cond, not, ◌&&◌, List, [], ◌∷◌, ◌++◌, length, get_or, take, replicate, leb, ltb, eqb}
use Rattle.model.specs.Types.{Location}
use Rattle.model.specs.declared.Location as location
use Rattle.model.specs.declared.State as state
use Rattle.model.specs.declared.Location.TheVariants.{Remainder, Testing, Setting, Checking, Entering, Critical, Resetting, Leaving}
use Rattle.model.specs.Types.{Process}
use Rattle.model.specs.declared.Parameters.{Parameters}
use Rattle.model.specs.Types.{State}
use Rattle.model.specs.Stages.{remainder, testing, setting, checking, entering, critical, resetting, leaving}

-- Parameters

-- [2.10] of the numbers, and of the values of a from process 1 on
abbrev pub parameters_of : ℕ → ℕ → ℕ → List ℕ → Parameters
parameters_of n b c a = record { n = n; b = b; c = c; a = a }

-- [9.45] the 96 values of a that a list stands for: 0 where it has fewer, and no more than 96 of it
unfoldable pub limits_in : List ℕ → List ℕ
limits_in l = take 96 l ++ replicate (96 - length l) 0

-- [6.45] the same a for each process from 1 to n
abbrev pub equal_limits : ℕ → ℕ → List ℕ
equal_limits n a = limits_in (replicate n a)

-- [4.100] [6.140] all of them 0, where there are none
abbrev pub no_parameters : Parameters
no_parameters = parameters_of 0 0 0 (replicate 96 0)

-- [2.20]
abbrev pub count_stands : ℕ → Bool
count_stands n = leb 1 n && leb n 96

-- [2.30] [2.32] the a of process i: that of a process from 1 to n is below b and not 0, and any other is 0
abbrev pub limit_stands : ℕ → ℕ → ℕ → ℕ → Bool
limit_stands n b i a = cond (leb i n) (leb 1 a && ltb a b) (eqb a 0)

-- [2.30] [2.32] the values of a from process i on
unfoldable pub own_stand : ℕ → ℕ → ℕ → List ℕ → Bool
own_stand n b i [] = true
own_stand n b i (x ∷ a) = limit_stands n b i x && own_stand n b (i + 1) a

-- [2.10] [2.30] [2.32] the values of a, of which there are 96, as the type of the code has it; and b and c
unfoldable pub limits_stand : Parameters → Bool
limits_stand k = eqb (length k.a) 96 && own_stand k.n k.b 1 k.a && leb k.b k.c && leb k.c 10_000_000

-- [2.20] [2.30] [2.32] both
abbrev pub parameters_stand : Parameters → Bool
parameters_stand k = count_stands k.n && limits_stand k

-- [2.92] the largest of a list, 0 where there is none
unfoldable pub greatest : List ℕ → ℕ
greatest [] = 0
greatest (x ∷ xs) = max x (greatest xs)

-- [2.92] the largest a, of the processes from 1 to n
abbrev pub largest_limit : Parameters → ℕ
largest_limit k = greatest (take k.n k.a)

-- Numbers

-- [2.40] the clock's end
abbrev pub last_time : ℕ
last_time = 1_000_000_000_000

-- [2.40]
abbrev pub clock_stands : ℕ → Bool
clock_stands t = leb t last_time

-- [2.50]
abbrev pub word_stands : ℕ → ℕ → Bool
word_stands n w = leb w n

-- [2.10] the entry of a process that has come to a location
abbrev pub entry : Location → Process
entry l = record { location = l }

-- [2.60] an entry in the remainder
abbrev pub idle : Process
idle = entry Remainder

-- [2.60] [12.40] a fresh state of either engine, with any entries and any parameters
abbrev pub initial_over : {E : Type 0} → E → Parameters → state.State E
initial_over entries k = record { parameters = k; clock = 0; word = 0; processes = entries }

-- [2.60] a fresh state, with any parameters
abbrev pub initial : Parameters → State
initial k = initial_over (replicate 96 idle) k

-- Locations

-- [2.70]
abbrev pub stage_of : {T : Type 0} → location.Location T → ℕ
stage_of Remainder = remainder
stage_of (Testing t) = testing
stage_of (Setting t) = setting
stage_of (Checking t) = checking
stage_of (Entering t) = entering
stage_of Critical = critical
stage_of (Resetting t) = resetting
stage_of (Leaving t) = leaving

-- [2.80] whether a location is timed
abbrev pub timed : {T : Type 0} → location.Location T → Bool
timed Remainder = false
timed (Testing t) = true
timed (Setting t) = true
timed (Checking t) = true
timed (Entering t) = true
timed Critical = false
timed (Resetting t) = true
timed (Leaving t) = true

-- [2.80] [12.10] what a timed location carries of the time; `other` where it carries nothing
abbrev pub time_of : {T : Type 0} → T → location.Location T → T
time_of other Remainder = other
time_of other (Testing t) = t
time_of other (Setting t) = t
time_of other (Checking t) = t
time_of other (Entering t) = t
time_of other Critical = other
time_of other (Resetting t) = t
time_of other (Leaving t) = t

-- [2.80] the arrival; 0 where there is none
abbrev pub since_of : Location → ℕ
since_of l = time_of 0 l

-- Times: process i has the entry q

-- [2.90] the a of process i in a list of them
unfoldable pub limit_at : List ℕ → ℕ → ℕ
limit_at a i = get_or a (i - 1) 0

-- [2.90] in parameters
abbrev pub limit_in : Parameters → ℕ → ℕ
limit_in k i = limit_at k.a i

-- [2.90] in a state
abbrev pub limit_of : State → ℕ → ℕ
limit_of s i = limit_in s.parameters i

-- [2.90] how long a process may stay in a location, with its own bound and with that of a check
abbrev pub stay : ℕ → ℕ → Location → ℕ
stay limit c l = cond (eqb (stage_of l) checking) c limit

-- [2.90] whether an entry has a deadline
abbrev pub bounded : State → Process → Bool
bounded s q = timed q.location

-- [2.90] [2.95] the deadline of a process in a location that has one
abbrev pub deadline_in : Parameters → ℕ → Location → ℕ
deadline_in k i l = since_of l + stay (limit_in k i) k.c l

-- [2.90] of an entry
abbrev pub deadline : State → ℕ → Process → ℕ
deadline s i q = deadline_in s.parameters i q.location

-- [2.100] the release in a location
abbrev pub release_in : Parameters → Location → ℕ
release_in k l = since_of l + cond (eqb (stage_of l) checking) k.b 0

-- [2.100] of an entry
abbrev pub release : State → Process → ℕ
release s q = release_in s.parameters q.location

-- [2.120] the deadline, if there is one, is before the time m
abbrev pub late : State → ℕ → ℕ → Process → Bool
late s m i q = bounded s q && ltb (deadline s i q) m

-- [2.110]
abbrev pub trying : Location → Bool
trying Remainder = false
trying (Testing t) = true
trying (Setting t) = true
trying (Checking t) = true
trying (Entering t) = true
trying Critical = false
trying (Resetting t) = false
trying (Leaving t) = false

-- Soundness

-- [2.120] of the entry q of process i
abbrev pub entry_sound : State → ℕ → Process → Bool
entry_sound s i q =
    cond (leb i s.parameters.n) (leb (since_of q.location) s.clock && not (late s s.clock i q))
    (eqb (stage_of q.location) remainder)

-- [2.120] of the entries from process i on
unfoldable pub entries_sound : State → ℕ → List Process → Bool
entries_sound s i [] = true
entries_sound s i (q ∷ qs) = entry_sound s i q && entries_sound s (i + 1) qs

-- [2.120] [2.130] parameters, clock and word in the order of their clauses, the entries, and no more
unfoldable pub sound_of : State → Bool
sound_of s =
    parameters_stand s.parameters && clock_stands s.clock && word_stands s.parameters.n s.word
    && entries_sound s 1 s.processes

-- Entries

-- [2.10] the entry of process p, from 1
unfoldable pub entry_of : State → ℕ → Process
entry_of s p = get_or s.processes (p - 1) idle

-- Locations as numbers

-- [2.70] [2.80] [12.10] back from a stage and a time, for where only numbers can stand
abbrev pub location_at : {T : Type 0} → ℕ → T → location.Location T
location_at stage t =
    cond (eqb stage remainder) Remainder
    (cond (eqb stage testing) (Testing t)
    (cond (eqb stage setting) (Setting t)
    (cond (eqb stage checking) (Checking t)
    (cond (eqb stage entering) (Entering t)
    (cond (eqb stage critical) Critical
    (cond (eqb stage resetting) (Resetting t)
    (Leaving t)))))))
