-- Section 12 of the specification, the second engine: its locations and their two times, which of its states are sound, what it answers and
-- what an accepted action changes. The rows, the judgement, the search for the first deadline and what stands are the model's. Assumes nothing.
use Rattle.std.specs.Prelude.{ℕ, ◌+◌, ◌-◌, Bool, true, false, cond, not, ◌&&◌, ◌||◌, List, [], ◌∷◌, replicate, ◌==◌, nat_le, nat_lt, slice_index_or, slice_set}
use Rattle.model.specs.Types.{Location}
use Rattle.model.specs.declared.Parameters.{Parameters}
use Rattle.model.specs.declared.Transition.{Transition}
use Rattle.model.specs.Stages.{remainder, testing, setting, checking, entering, critical, resetting, leaving}
use Rattle.model.specs.Acts.{wait_act}
use Rattle.model.specs.States.{initial_over, no_parameters, parameters_stand, clock_stands, word_stands, limit_in, stage_of, timed, time_of}
use Rattle.model.specs.States.{location_at, deadline_in, release_in}
use Rattle.model.specs.Actions.{transition_of}
use Rattle.model.specs.Answers.{answer_of, Due, none_due, first_by, critical_by, Sight, judged_by, fresh_over}
use Rattle.deadlines.specs.declared.Period.{Period}
use Rattle.deadlines.specs.Types.{DeadlineLocation}
use Rattle.model.specs.declared.Location.TheVariants.{Remainder}
use Rattle.deadlines.specs.Types.{DeadlineProcess}
use Rattle.deadlines.specs.Types.{DeadlineState}
use Rattle.deadlines.specs.Types.{DeadlineOutcome}

-- Locations

-- [12.10] the two times of a timed location
abbrev pub period : ℕ → ℕ → Period
period first last = record { first = first; last = last }

-- [2.70] [12.10]
abbrev pub stage_with : DeadlineLocation → ℕ
stage_with q = stage_of q

-- [12.10] whether a location holds two times
abbrev pub timed_with : DeadlineLocation → Bool
timed_with q = timed q

-- [12.10] the two times of a location; both 0 where there are none
abbrev pub period_of : DeadlineLocation → Period
period_of q = time_of (period 0 0) q

-- [12.10] the first time; 0 where there is none
abbrev pub first_of : DeadlineLocation → ℕ
first_of q = (period_of q).first

-- [12.10] the last time; 0 where there is none
abbrev pub last_of : DeadlineLocation → ℕ
last_of q = (period_of q).last

-- [12.10] back from a stage and two times
abbrev pub deadline_at : ℕ → ℕ → ℕ → DeadlineLocation
deadline_at stage f l = location_at stage (period f l)

-- [12.20] [12.60] a location with its times written out: the first is its release, and the last its deadline
abbrev pub dated_at : Parameters → ℕ → Location → DeadlineLocation
dated_at k i l = deadline_at (stage_of l) (release_in k l) (deadline_in k i l)

-- States

-- [12.10] the entry of a process that has come to a location
abbrev pub entry_with : DeadlineLocation → DeadlineProcess
entry_with l = record { location = l }

-- [12.40] an entry in the remainder
abbrev pub idle_with : DeadlineProcess
idle_with = entry_with Remainder

-- [12.40] a fresh state, with any parameters
abbrev pub initial_with : Parameters → DeadlineState
initial_with k = initial_over (replicate 96 idle_with) k

-- [12.10] the entry of process p, from 1
unfoldable pub entry_in : DeadlineState → ℕ → DeadlineProcess
entry_in d p = slice_index_or d.processes (p - 1) idle_with

-- Soundness

-- [2.100] [12.20] how long after the arrival the first time comes in the location of a stage
abbrev pub opens_after : ℕ → ℕ → ℕ
opens_after b stage = cond (stage == checking) b 0

-- [2.90] [12.20] and how long after it the last
abbrev pub closes_after : ℕ → ℕ → ℕ → ℕ
closes_after c limit stage = cond (stage == checking) c limit

-- [12.30] the arrival that the first time tells
abbrev pub arrival_in : ℕ → DeadlineLocation → ℕ
arrival_in b q = first_of q - opens_after b (stage_with q)

-- [12.30] the two times are those of one arrival; the sums are exact
abbrev pub of_one_arrival : Parameters → ℕ → DeadlineLocation → Bool
of_one_arrival k i q =
    (first_of q == arrival_in k.b q + opens_after k.b (stage_with q))
    && last_of q == arrival_in k.b q + closes_after k.c (limit_in k i) (stage_with q)

-- [12.30] of the times of process i at the clock: one arrival, which is not after it, and a last time that is not before it
abbrev pub times_sound : Parameters → ℕ → ℕ → DeadlineLocation → Bool
times_sound k clock i q = of_one_arrival k i q && nat_le (arrival_in k.b q) clock && not (nat_lt (last_of q) clock)

-- [12.30] of the entry q of process i
abbrev pub entry_sound_with : DeadlineState → ℕ → DeadlineProcess → Bool
entry_sound_with d i q =
    cond (nat_le i d.parameters.n) (not (timed_with q.location) || times_sound d.parameters d.clock i q.location)
    (stage_with q.location == remainder)

-- [12.30] of the entries from process i on
unfoldable pub entries_sound_with : DeadlineState → ℕ → List DeadlineProcess → Bool
entries_sound_with d i [] = true
entries_sound_with d i (q ∷ qs) = entry_sound_with d i q && entries_sound_with d (i + 1) qs

-- [12.30]
unfoldable pub sound_with : DeadlineState → Bool
sound_with d =
    parameters_stand d.parameters && clock_stands d.clock && word_stands d.parameters.n d.word
    && entries_sound_with d 1 d.processes

-- Answers

-- helper: an answer beside the state that is given back
abbrev pub answers_with : ℕ → ℕ → ℕ → DeadlineState → DeadlineOutcome
answers_with code process time d = record { answer = answer_of code process time; state = d }

-- [4.8] [12.50] the smallest last time, and of equal ones that of the lowest process
unfoldable pub first_last : DeadlineState → Due
first_last d = first_by (λ q. timed_with q.location) (λ i q. last_of q.location) 1 none_due d.processes

-- [4.60] [12.50] the lowest critical process
unfoldable pub critical_with : DeadlineState → ℕ
critical_with d = critical_by (λ q. stage_with q.location) 1 d.processes

-- [12.50] what the conditions look at when process p acts
abbrev pub sight_with : DeadlineState → ℕ → Sight
sight_with d p = record {
  sound = sound_with d;
  n = d.parameters.n;
  clock = d.clock;
  due = first_last d;
  stage = stage_with (entry_in d p).location;
  release = first_of (entry_in d p).location;
}

-- An accepted action

-- [12.60] the state at the time m, with another word and other entries
abbrev pub changed_with : DeadlineState → ℕ → ℕ → List DeadlineProcess → DeadlineState
changed_with d m w qs = record { parameters = d.parameters; clock = m; word = w; processes = qs }

-- [12.60] after the row t of process p
abbrev pub moved_with : DeadlineState → ℕ → ℕ → Transition → DeadlineState
moved_with d p m t = changed_with d m t.word (slice_set d.processes (p - 1) (entry_with (dated_at d.parameters p t.to)))

-- [12.60] the state after an accepted action
unfoldable pub effect_with : DeadlineState → ℕ → ℕ → ℕ → DeadlineState
effect_with d act p m =
    cond (act == wait_act) (changed_with d m d.word d.processes) (moved_with d p m (transition_of d.word act p m))

-- [4.60] [12.50] the answer beside the next state
abbrev pub accepts_with : DeadlineState → DeadlineOutcome
accepts_with d = answers_with 0 (critical_with d) d.clock d

-- [12.50] the judgement is the first engine's; a refusal gives the state back
unfoldable pub step_with : DeadlineState → ℕ → ℕ → ℕ → DeadlineOutcome
step_with d act p m = judged_by (sight_with d p) act p m (λ code process time. answers_with code process time d) (accepts_with (effect_with d act p m))

-- [12.40] that of a refusal
abbrev pub blank_with : DeadlineState
blank_with = initial_with no_parameters

-- [12.40]
unfoldable pub fresh_with : Parameters → DeadlineOutcome
fresh_with k = fresh_over (replicate 96 idle_with) k
