-- The view of a state, and what the plain facts about a state say of it. Assumes nothing.
use Prim.Native.Nat.{ℕ, zero, suc, ◌≤◌}
use mathlib.Core.Path.{◌≡◌, refl, ap, ◌∙◌}
use mathlib.Core.Logic.{◌≢◌}
use native.Mathlib.Omega.{arith}
use Rattle.model.specs.Types.{Location}
use Rattle.model.specs.declared.Location.TheVariants.{Remainder}
use Rattle.model.specs.declared.Parameters.{Parameters}
use Rattle.model.specs.Types.{State}
use Rattle.model.specs.States.{largest_limit, since_of, entry_of}
use Rattle.model.specs.Facts.{IsCritical, IsTrying}
use Rattle.theory.specs.Soundness.{Sound, Fresh}
use Rattle.theory.specs.Lateness.{AllInTime}
use Rattle.theory.proofs.OwnLimits.{largest_bounds}
use Rattle.theory.proofs.Locations.{past_iff}
use Rattle.lists.proofs.Ranks.{at_remainder, at_testing, at_entering, at_critical, rank_of, critical-at, trying_between, InTime, in-time, later}
use Rattle.lists.proofs.View.{Lock, View, Owns, Timely}
use Rattle.lists.proofs.View.{Fresh as FreshView}

-- The view

-- the location of process j, from 1; 0 is no process, and in remainder
abbrev pub location_of : State → ℕ → Location
location_of s zero = Remainder
location_of s (suc j) = (entry_of s (suc j)).location

abbrev pub view_of : State → View
view_of s = record {
  clock = s.clock;
  word = s.word;
  rank = λ j. rank_of (location_of s j);
  since = λ j. since_of (location_of s j);
}

-- the largest a stands for each process's own; from a check that finds its own word one act, of at most a, leads to the critical place
abbrev pub lock_of : Parameters → Lock
lock_of k = record { a = largest_limit k; b = k.b; c = k.c; tail = largest_limit k }

pub location-of : (s : State) (i : ℕ) → 1 ≤ i → location_of s i ≡ (entry_of s i).location
location-of s zero h = absurd (omega arith)
location-of s (suc i) h = refl

pub fresh_view : {k : Parameters} {s : State} → Fresh k s → FreshView (view_of s)
fresh_view {s = s} f = record {
  word = f.word_is;
  all = λ j. elim j as (λ (j : ℕ). (view_of s).rank j ≡ at_remainder) [ zero ↦ refl | suc i ↦ ap rank_of (f.all (suc i)) ];
}

-- Places

module _ {s : State} {i : ℕ} where
  pub critical_owns : IsCritical s i → Owns (view_of s) i
  critical_owns h = omega (arith, ap rank_of (location-of s i h.from ∙ h.at))

  pub trying_rank : IsTrying s i → (at_testing ≤ (view_of s).rank i) × ((view_of s).rank i ≤ at_entering)
  trying_rank h = omega (arith, ap rank_of (location-of s i h.from), trying_between (entry_of s i).location h.at)

pub none_critical : {s : State} → ((i : ℕ) → IsCritical s i → ⊥) → (i : ℕ) → (view_of s).rank i ≢ at_critical
none_critical h zero e = omega arith
none_critical {s} h (suc i) e = h (suc i) (record { from = omega arith; at = critical-at (location_of s (suc i)) e })

-- Arrivals and deadlines

pub view_past : {s : State} → Sound s → (j : ℕ) → (view_of s).since j ≤ s.clock
view_past sound zero = omega arith
view_past {s} sound (suc j) = (past_iff s.clock (location_of s (suc j))).1 (sound.past (suc j))

module _ {s : State} {m : ℕ} (sound : Sound s) (h : AllInTime s m) where
  process_in_time : (j : ℕ) → InTime (largest_limit s.parameters) s.parameters.c m (location_of s j)
  process_in_time zero = omega arith
  process_in_time (suc j) = later (largest_bounds s.parameters sound.parameters (suc j) (omega arith))
      (in-time (location_of s (suc j)) (λ d k. h (suc j) d (record { from = omega arith; is = k })))

  pub view_timely : Timely (lock_of s.parameters) (view_of s) m
  view_timely = record {
    short = λ j k. (process_in_time j).short k.not_remainder k.not_checking k.not_critical;
    long = λ j k. (process_in_time j).long k.at;
  }
