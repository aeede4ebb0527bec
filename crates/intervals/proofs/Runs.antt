-- What holds of the intervals of every run from a fresh state: the attempts of the run take turns, and what that says. Assumes nothing.
use Prim.Native.Nat.{ℕ, ◌≤◌}
use mathlib.Core.Path.{◌≡◌, subst}
use mathlib.Core.Logic.{◌↔◌}
use mathlib.Core.List.{List}
use native.Mathlib.Omega.{arith}
use Rattle.model.specs.Types.{State}
use Rattle.model.specs.Texts.{Event}
use Rattle.model.specs.Answers.{critical_of}
use Rattle.model.specs.Facts.{IsFresh, IsCritical}
use Rattle.model.specs.Tallies.{critical_after}
use Rattle.model.specs.Executions.{state_from, attempts_from}
use Rattle.lists.specs.Demand3.{OneCritical}
use Rattle.theory.proofs.Lowest.{somebody_critical}
use Rattle.lists.proofs.Guarded.{fresh_guarded}
use Rattle.lists.proofs.Demand3.{one_critical}
use Rattle.tallies.proofs.States.{state_start}
use Rattle.tallies.proofs.Critical.{the_critical}
use Rattle.intervals.specs.Runs.{EveryRun}
use Rattle.intervals.proofs.Alternation.{Alternate, run_alternates, run_guarded}
use Rattle.intervals.proofs.Alternating.{one_for_each, in_turn, open_at_end}
use Rattle.intervals.proofs.Counts.{entries_counted}

-- where at most one process is critical, the one that is named is, and no other
named_critical : (s : State) → OneCritical s → (p : ℕ) → ((1 ≤ p) × (critical_of s ≡ p)) ↔ IsCritical s p
named_critical s one p = (
  λ h. subst (IsCritical s) h.1 (somebody_critical s (λ z. omega (arith, h.0, h.1, z))).critical,
  λ c. (c.from, the_critical one p c),
)

module _ {s : State} (fresh : IsFresh s) (events : List Event) where
  -- nobody is critical at the start
  pub takes_turns : Alternate 0 s.clock (attempts_from s events) (critical_of (state_from s events))
  unfolding critical_after
  takes_turns =
      subst (λ (p : ℕ). Alternate p s.clock (attempts_from s events) (critical_of (state_from s events)))
      (state_start fresh).critical (run_alternates (fresh_guarded fresh) events)

pub every_run : EveryRun
every_run s fresh events =
    let a = takes_turns fresh events in
    let one = one_critical (run_guarded (fresh_guarded fresh) events) in
    record {
      one_for_each = one_for_each a;
      in_turn = in_turn a;
      open_for = λ p.
          let told = open_at_end a p in
          let named = named_critical (state_from s events) one p in
          (λ h. named.0 (told.0 h), λ h. told.1 (named.1 h));
      counted = entries_counted fresh events;
    }
