-- Section 4 of the specification: the condition of each code in the order of the codes, and the two functions that give the first that
-- holds, `step_of` for an action and `fresh_of` for a fresh state. Assumes nothing.
use Rattle.std.specs.Prelude.{ℕ, ◌+◌, Bool, cond, not, ◌&&◌, ◌||◌, List, [], ◌∷◌, replicate, ltb, eqb}
use Rattle.model.specs.Types.{Process}
use Rattle.model.specs.declared.Parameters.{Parameters}
use Rattle.model.specs.Types.{State}
use Rattle.model.specs.declared.Answer.{Answer}
use Rattle.model.specs.Types.{Outcome}
use Rattle.model.specs.declared.Outcome as outcome
use Rattle.model.specs.Stages.{critical}
use Rattle.model.specs.Acts.{wait_act, check_act, last_act, leaves}
use Rattle.model.specs.States.{no_parameters, count_stands, limits_stand, last_time, initial_over, initial, idle, stage_of}
use Rattle.model.specs.States.{bounded, deadline, release, sound_of, entry_of}
use Rattle.model.specs.Actions.{effect}

-- [4.50]
abbrev pub answer_of : ℕ → ℕ → ℕ → Answer
answer_of code process time = record { code = code; process = process; time = time }

-- [4.50] its three numbers
abbrev pub answer_numbers : Answer → List ℕ
answer_numbers r = r.code ∷ r.process ∷ r.time ∷ []

-- helper: an answer beside the state that is given back
abbrev pub answers : ℕ → ℕ → ℕ → State → Outcome
answers code process time s = record { answer = answer_of code process time; state = s }

-- The conditions. That of 1 is `sound_of`, of the second engine `sound_with`; those of 2 and 3 are the summary's.

-- [4.4]
abbrev pub backward : ℕ → ℕ → Bool
backward clock m = ltb m clock

-- [4.5]
abbrev pub beyond : ℕ → Bool
beyond m = ltb last_time m

-- [4.6] [3.40]
abbrev pub unknown : ℕ → Bool
unknown act = ltb last_act act

-- [4.7]
abbrev pub misnamed : ℕ → ℕ → ℕ → Bool
misnamed n act p = cond (eqb act wait_act) (not (eqb p 0)) (eqb p 0 || ltb n p)

-- [4.8] a deadline and the process that has it; both are 0 where there is none
pub record Due : Type 0 where
  pub process : ℕ
  pub time : ℕ

-- helper: of its parts
abbrev pub due : ℕ → ℕ → Due
due process time = record { process = process; time = time }

-- helper: there is none
abbrev pub none_due : Due
none_due = due 0 0

-- [4.8] a deadline, if there is one, comes before the first one found so far
abbrev pub sooner : Bool → ℕ → Due → Bool
sooner has time first = has && (eqb first.process 0 || ltb time first.time)

-- [4.8] [12.50] the search of both engines: which of the entries from process i on has a deadline, and which one, is told by `has` and `time`
unfoldable pub first_by : {E : Type 0} → (E → Bool) → (ℕ → E → ℕ) → ℕ → Due → List E → Due
first_by has time i first [] = first
first_by has time i first (q ∷ qs) = first_by has time (i + 1) (cond (sooner (has q) (time i q) first) (due i (time i q)) first) qs

-- [4.8] the first deadline of these and of the entries from process i on: the smallest, and of equal ones that of the lowest process
abbrev pub first_from : State → ℕ → Due → List Process → Due
first_from s i first qs = first_by (bounded s) (deadline s) i first qs

-- [4.8] the first deadline of a state
unfoldable pub first_deadline : State → Due
first_deadline s = first_from s 1 none_due s.processes

-- [4.8] it is before the time m
abbrev pub missed : Due → ℕ → Bool
missed first m = not (eqb first.process 0) && ltb first.time m

-- [4.9]
abbrev pub misplaced : ℕ → ℕ → Bool
misplaced stage act = not (eqb act wait_act) && not (eqb stage (leaves act))

-- [4.10]
abbrev pub early : ℕ → ℕ → ℕ → Bool
early release act m = eqb act check_act && ltb m release

-- An accepted action

-- [4.60] the lowest critical process from i on
unfoldable pub critical_by : {E : Type 0} → (E → ℕ) → ℕ → List E → ℕ
critical_by stage i [] = 0
critical_by stage i (q ∷ qs) = cond (eqb (stage q) critical) i (critical_by stage (i + 1) qs)

-- [4.60] of a state
abbrev pub critical_from : ℕ → List Process → ℕ
critical_from i qs = critical_by (λ q. stage_of q.location) i qs

-- [4.60] the lowest critical process of a state
unfoldable pub critical_of : State → ℕ
critical_of s = critical_from 1 s.processes

-- [4.0] [4.60] the answer beside the next state
abbrev pub accepts : State → Outcome
accepts s = answers 0 (critical_of s) s.clock s

-- The judgement

-- [4.80] what the conditions look at, in a state of either engine, when a process acts: whether it is sound, n, the clock, the first deadline, the
-- stage of the process and its release
pub record Sight : Type 0 where
  pub sound : Bool
  pub n : ℕ
  pub clock : ℕ
  pub due : Due
  pub stage : ℕ
  pub release : ℕ

-- [4.80] [4.83] [4.1] [4.4] [4.5] [4.6] [4.7] [4.8] [4.9] [4.10] one condition a line, with what the answer carries: what a refusal gives back, and
-- what an acceptance does, is the engine's
abbrev pub judged_by : {A : Type 0} → Sight → ℕ → ℕ → ℕ → (ℕ → ℕ → ℕ → A) → A → A
judged_by v act p m refuses accepted =
    cond (not v.sound) (refuses 1 0 0)
    (cond (backward v.clock m) (refuses 4 0 v.clock)
    (cond (beyond m) (refuses 5 0 0)
    (cond (unknown act) (refuses 6 0 0)
    (cond (misnamed v.n act p) (refuses 7 0 0)
    (cond (missed v.due m) (refuses 8 v.due.process v.due.time)
    (cond (misplaced v.stage act) (refuses 9 p 0)
    (cond (early v.release act m) (refuses 10 p v.release)
    accepted)))))))

-- [4.80] of a state, when process p acts
abbrev pub sight_of : State → ℕ → Sight
sight_of s p = record {
  sound = sound_of s;
  n = s.parameters.n;
  clock = s.clock;
  due = first_deadline s;
  stage = stage_of (entry_of s p).location;
  release = release s (entry_of s p);
}

-- [3.45] [4.80] [4.110] a refusal gives the state back
unfoldable pub step_of : State → ℕ → ℕ → ℕ → Outcome
step_of s act p m = judged_by (sight_of s p) act p m (λ code process time. answers code process time s) (accepts (effect s act p m))

-- [4.100]
abbrev pub blank : State
blank = initial no_parameters

-- [4.90] [4.11] [4.12] what a call for a fresh state of either engine judges
abbrev pub fresh_by : {A : Type 0} → Parameters → (ℕ → A) → A → A
fresh_by k refuses accepted = cond (not (count_stands k.n)) (refuses 11) (cond (not (limits_stand k)) (refuses 12) accepted)

-- [4.90] [4.100] [4.70] [12.40] what such a call gives back in an engine whose fresh entries are these
abbrev pub fresh_over : {E : Type 0} → E → Parameters → outcome.Outcome E
fresh_over entries k =
    fresh_by k (λ code. record { answer = answer_of code 0 0; state = initial_over entries no_parameters })
    (record { answer = answer_of 0 0 0; state = initial_over entries k })

-- [2.65] [4.90] [4.100] [4.70]
unfoldable pub fresh_of : Parameters → Outcome
fresh_of k = fresh_over (replicate 96 idle) k
