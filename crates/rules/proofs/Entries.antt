-- Which entries are sound, by the kind of their location: in the remainder all of them, elsewhere those of a process up to n that came
-- at no time after the clock and whose deadline is not past. Assumes nothing.
use Rattle.std.proofs.Common.{◌≡◌, ℕ, ◌+◌, ◌<◌, ◌≤◌, true, false, not, ◌&&◌, eqb, ltb, leb, arith, le-leb}
use borrow.Author.Tests.{lt-leb}
use Rattle.model.specs.Types.{Location}
use Rattle.model.specs.declared.Location.TheVariants.{Critical}
use Rattle.model.specs.Types.{State}
use Rattle.model.specs.Stages.{remainder}
use Rattle.model.specs.States.{entry, idle, stage_of, since_of, timed, limit_of, entry_sound, stay}
use Rattle.model.proofs.Tests.{by_test}

-- how long process k may stay at a timed location
abbrev pub stay_of : State → ℕ → Location → ℕ
stay_of s k l = stay (limit_of s k) s.parameters.c l

module _ (s : State) (k : ℕ) where
  -- in the remainder, whichever process has it
  pub idle_sound : entry_sound s k idle ≡ true
  idle_sound = by_test (leb k s.parameters.n) (λ e. simp (e, le-leb 0 s.clock (omega arith))) (λ e. simp e)

  -- past n, outside the remainder
  pub past_unsound : (l : Location) → eqb (stage_of l) remainder ≡ false → s.parameters.n < k → entry_sound s k (entry l) ≡ false
  past_unsound l away h = simp (lt-leb k s.parameters.n h, away)

  module _ (h : k ≤ s.parameters.n) where
    pub critical_sound : entry_sound s k (entry Critical) ≡ true
    critical_sound = simp (le-leb k s.parameters.n h, le-leb 0 s.clock (omega arith))

    pub timed_sound : (l : Location) → timed l ≡ true
        → entry_sound s k (entry l) ≡ leb (since_of l) s.clock && not (ltb (since_of l + stay_of s k l) s.clock)
    timed_sound l t = simp (le-leb k s.parameters.n h, t)
