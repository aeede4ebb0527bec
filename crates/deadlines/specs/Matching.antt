-- Section 12 of the specification, the two engines side by side: the relation of a state and a state of deadlines that match, in plain facts, and
-- the two ways from one to the other. Assumes nothing.
use Rattle.std.specs.Prelude.{◌≡◌, ℕ, ◌+◌, ◌-◌, cond, List, [], ◌∷◌, slice_index}
use Rattle.model.specs.Types.{Location}
use Rattle.model.specs.declared.Location.TheVariants.{Remainder, Testing, Setting, Checking, Entering, Critical, Resetting, Leaving}
use Rattle.model.specs.Types.{Process}
use Rattle.model.specs.declared.Parameters.{Parameters}
use Rattle.model.specs.Types.{State}
use Rattle.model.specs.Types.{Outcome}
use Rattle.model.specs.States.{entry, location_at, sound_of}
use Rattle.model.specs.Answers.{answers, blank}
use Rattle.deadlines.specs.Types.{DeadlineLocation}
use Rattle.deadlines.specs.Types.{DeadlineProcess}
use Rattle.deadlines.specs.Types.{DeadlineState}
use Rattle.deadlines.specs.Types.{DeadlineOutcome}
use Rattle.deadlines.specs.Deadlines.{period, stage_with, dated_at, entry_with, arrival_in, sound_with, answers_with, blank_with}

-- Matching, in plain facts

-- [12.20] the locations of a process with the bound a
pub data LocationsMatch (a b c : ℕ) : Location → DeadlineLocation → Type 0 where
  remainder : LocationsMatch a b c Remainder Remainder
  testing : {t : ℕ} → LocationsMatch a b c (Testing t) (Testing (period t (t + a)))
  setting : {t : ℕ} → LocationsMatch a b c (Setting t) (Setting (period t (t + a)))
  checking : {t : ℕ} → LocationsMatch a b c (Checking t) (Checking (period (t + b) (t + c)))
  entering : {t : ℕ} → LocationsMatch a b c (Entering t) (Entering (period t (t + a)))
  critical : LocationsMatch a b c Critical Critical
  resetting : {t : ℕ} → LocationsMatch a b c (Resetting t) (Resetting (period t (t + a)))
  leaving : {t : ℕ} → LocationsMatch a b c (Leaving t) (Leaving (period t (t + a)))

-- [12.20] as many entries, one by one, from process i on; the a of each is named by its place, and not by what the step asks for it
pub data EntriesMatch (k : Parameters) : ℕ → List Process → List DeadlineProcess → Type 0 where
  ended : {i : ℕ} → EntriesMatch k i [] []
  both : {i : ℕ} {q : Process} {e : DeadlineProcess} {qs : List Process} {es : List DeadlineProcess}
      → LocationsMatch (slice_index k.a (i - 1)) k.b k.c q.location e.location → EntriesMatch k (i + 1) qs es
      → EntriesMatch k i (q ∷ qs) (e ∷ es)

-- [12.20]
pub record Matches (s : State) (d : DeadlineState) : Type 0 where
  pub parameters : d.parameters ≡ s.parameters
  pub clock : d.clock ≡ s.clock
  pub word : d.word ≡ s.word
  pub entries : EntriesMatch s.parameters 1 s.processes d.processes

-- To and fro

-- helper: the entries from process i on, with their times written out
unfoldable pub dated_from : Parameters → ℕ → List Process → List DeadlineProcess
dated_from k i [] = []
dated_from k i (q ∷ qs) = entry_with (dated_at k i q.location) ∷ dated_from k (i + 1) qs

-- [12.25] [12.100] the state of deadlines that matches a state
abbrev pub matched : State → DeadlineState
matched s = record { parameters = s.parameters; clock = s.clock; word = s.word; processes = dated_from s.parameters 1 s.processes }

-- [12.100] a location with the arrival that its first time tells
abbrev pub arrived_at : ℕ → DeadlineLocation → Location
arrived_at b q = location_at (stage_with q) (arrival_in b q)

-- helper: entries with their arrivals
unfoldable pub arrived_from : Parameters → List DeadlineProcess → List Process
arrived_from k [] = []
arrived_from k (q ∷ qs) = entry (arrived_at k.b q.location) ∷ arrived_from k qs

-- [12.100] the state that matches a sound state of deadlines
abbrev pub arrived : DeadlineState → State
arrived d = record { parameters = d.parameters; clock = d.clock; word = d.word; processes = arrived_from d.parameters d.processes }

-- [12.100] `to_deadlines`
unfoldable pub to_deadlines : State → DeadlineOutcome
to_deadlines s = cond (sound_of s) (answers_with 0 0 0 (matched s)) (answers_with 1 0 0 blank_with)

-- [12.100] `to_arrivals`
unfoldable pub to_arrivals : DeadlineState → Outcome
to_arrivals d = cond (sound_with d) (answers 0 0 0 (arrived d)) (answers 1 0 0 blank)
