-- Section 12 of the specification, of the code's own calls: a chain has for each call a result that the contract of the function called allows, as the
-- checker reads it off the source, each on the state that the result before it holds. Assumes nothing.
use Rattle.std.specs.Prelude.{ℕ, ◌+◌, ◌<◌, ◌↔◌, List}
use Rattle.model.specs.declared.Parameters.{Parameters}
use Rattle.model.specs.Types.{State}
use Rattle.model.specs.Types.{Outcome}
use Rattle.model.specs.Acts.{wait_act}
use Rattle.model.specs.States.{last_time}
use Rattle.model.specs.Facts.{LeadsOn}
use Rattle.model.specs.Folds as folds
use Rattle.model.specs.Texts.{Event}
use Rattle.model.specs.Executions.{state_after}
use Rattle.theory.specs.Soundness.{ParametersStand}
use Rattle.deadlines.specs.Types.{DeadlineState}
use Rattle.deadlines.specs.Types.{DeadlineOutcome}
use Rattle.deadlines.specs.Matching.{Matches}
use Rattle.matching.specs.Facts.{AcceptedWith, HasTimes}
use Rattle.matching.specs.Lists.{deadlines_after, EachMatches, Demand3With}
use Rattle.machine.proofs.step.Reads as first-step-reads
use Rattle.deadlines.proofs.fresh.Reads as fresh-reads
use Rattle.deadlines.proofs.step.Reads as step-reads

-- What the contracts allow

-- [12.95] o is an outcome that the contract of `deadlines::fresh` allows
abbrev pub StartsWith : Parameters → DeadlineOutcome → Type 0
StartsWith k o = fresh-reads.Post tt (k, tt) o (k, tt)

-- [12.95] an outcome that the contract of `deadlines::step` allows
abbrev pub AllowsWith : DeadlineState → ℕ → ℕ → ℕ → DeadlineOutcome → Type 0
AllowsWith d act p m o = step-reads.Post tt (d, (act, (p, (m, tt)))) o (d, (act, (p, (m, tt))))

-- [12.95] of the step that an action asks for, of the second engine
abbrev pub MadeWith : DeadlineState → Event → DeadlineOutcome → Type 0
MadeWith d e o = AllowsWith d e.action e.process e.time o

-- [12.95] and of the first
abbrev pub MadeByFirst : State → Event → Outcome → Type 0
MadeByFirst s e o =
    first-step-reads.Post tt (s, (e.action, (e.process, (e.time, tt)))) o (s, (e.action, (e.process, (e.time, tt))))

-- Chains

-- [12.95] each result on the state of the one before it
abbrev pub DeadlineChain : DeadlineState → List Event → List DeadlineOutcome → Type 0
DeadlineChain d es rs = folds.Chained MadeWith deadlines_after d es rs

-- [12.95] of the first engine
abbrev pub StepChain : State → List Event → List Outcome → Type 0
StepChain s es os = folds.Chained MadeByFirst state_after s es os

-- [12.85] [12.95] whoever makes the calls, on any two states that match: every list is answered alike
abbrev pub ChainsMatch : Type 0
ChainsMatch = (s : State) (d : DeadlineState) → Matches s d → (es : List Event) (os : List Outcome) (rs : List DeadlineOutcome)
    → StepChain s es os → DeadlineChain d es rs → EachMatches os rs

-- [8.110] [8.120] [12.95] at the state t, of every outcome that the contract of `deadlines::step` allows
pub record NotStuckWith (t : DeadlineState) : Type 0 where
  -- [8.110]
  pub waits : t.clock < last_time → (o : DeadlineOutcome) → AllowsWith t wait_act 0 (t.clock + 1) o
      → AcceptedWith o ↔ ((i f : ℕ) → HasTimes t i f t.clock → ⊥)
  -- [8.120]
  pub acts : (i f : ℕ) → HasTimes t i f t.clock
      → (act : ℕ) × LeadsOn act × ((o : DeadlineOutcome) → AllowsWith t act i t.clock o → AcceptedWith o)

-- [12.90] [12.95] of the calls es, which gave back the results rs and left the state t
pub record ChainHoldsWith (k : Parameters) (es : List Event) (rs : List DeadlineOutcome) (t : DeadlineState) : Type 0 where
  pub demand3 : Demand3With k es rs t
  pub not_stuck : NotStuckWith t

-- [12.90] [12.95] whoever makes the calls, from a state of deadlines that `deadlines::fresh` gave back for k with the answer 0
abbrev pub EveryChainWith : Type 0
EveryChainWith = (k : Parameters) (o : DeadlineOutcome) (es : List Event) (rs : List DeadlineOutcome)
    → StartsWith k o → AcceptedWith o → DeadlineChain o.state es rs
    → ChainHoldsWith k es rs (folds.last_of deadlines_after o.state rs)

-- [12.95] the premises are not empty ones: `deadlines::fresh` may answer 0 for whatever parameters stand, and every list has a chain
pub record SomeChainWith : Type 0 where
  pub start : (k : Parameters) → ParametersStand k → (o : DeadlineOutcome) × StartsWith k o × AcceptedWith o
  pub chain : (d : DeadlineState) (es : List Event) → (rs : List DeadlineOutcome) × DeadlineChain d es rs
