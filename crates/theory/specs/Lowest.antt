-- Section 4 of the specification, the answer to an accepted act: which process and which time it tells.
-- Assumes nothing.
use Rattle.std.specs.Prelude.{ℕ, ◌≤◌, ◌≡◌, ◌≢◌, ◌↔◌}
use Rattle.model.specs.Types.{State}
use Rattle.model.specs.Types.{Outcome}
use Rattle.model.specs.Answers.{step_of}
use Rattle.model.specs.Facts.{Accepted, IsCritical}

-- [4.60] the process p that is named
pub record LowestCritical (s : State) (p : ℕ) : Type 0 where
  pub critical : IsCritical s p
  pub lowest : (i : ℕ) → IsCritical s i → p ≤ i

-- [4.60] an outcome whose answer tells of its state
pub record Tells (o : Outcome) : Type 0 where
  pub none : (o.answer.process ≡ 0) ↔ ((i : ℕ) → IsCritical o.state i → ⊥)
  pub some : o.answer.process ≢ 0 → LowestCritical o.state o.answer.process
  pub clock : o.answer.time ≡ o.state.clock

-- [4.60]
abbrev pub AcceptedTells : Type 0
AcceptedTells = (s : State) (act p m : ℕ) → Accepted (step_of s act p m) → Tells (step_of s act p m)
