-- The search for the lowest critical process, and that the answer to an accepted act gives what it finds.
-- Assumes nothing.
use Prim.Native.Nat.{ℕ, ◌+◌, ◌≤◌}
use mathlib.Core.Path.{◌≡◌, refl, ap, ◌∙◌}
use mathlib.Core.Logic.{◌≢◌, ◌↔◌}
use mathlib.Core.List.{List, [], ◌∷◌}
use native.Mathlib.Omega.{arith}
use lib.Dec.{eqb}
use borrow.Author.Tests.{eqb-true, eqb-false}
use Rattle.model.specs.declared.Location.TheVariants.{Critical}
use Rattle.model.specs.Types.{Process}
use Rattle.model.specs.Types.{State}
use Rattle.model.specs.Stages.{critical}
use Rattle.model.specs.States.{stage_of}
use Rattle.model.specs.Actions.{effect}
use Rattle.model.specs.Answers.{critical_from, critical_by, critical_of, accepts}
use Rattle.model.specs.Facts.{IsCritical}
use Rattle.theory.specs.Lowest.{LowestCritical, Tells, AcceptedTells}
use Rattle.model.proofs.Tests.{by_cond}
use Rattle.theory.proofs.Entries.{Among, here, there, each_cons, each_entry, among_from, among_entry}
use Rattle.model.proofs.Locations.{stage_location}
use Rattle.theory.proofs.Steps.{stepped, accepted_is}

-- The search

-- `LowestCritical` of the entries qs, from process i on
record Lowest (i : ℕ) (qs : List Process) (p : ℕ) : Type 0 where
  entry : Process
  among : Among i qs p entry
  critical : entry.location ≡ Critical
  lowest : (j : ℕ) (q : Process) → Among i qs j q → q.location ≡ Critical → p ≤ j

data Searched (i : ℕ) (qs : List Process) : ℕ → Type 0 where
  none : ((j : ℕ) (q : Process) → Among i qs j q → q.location ≢ Critical) → Searched i qs 0
  found : {p : ℕ} → Lowest i qs p → Searched i qs p

searched_cons : {i p : ℕ} {q : Process} {qs : List Process} → q.location ≢ Critical → Searched (i + 1) qs p → Searched i (q ∷ qs) p
searched_cons h (none k) = none (each_cons _ h k)
searched_cons h (found f) = found (record {
  entry = f.entry;
  among = there f.among;
  critical = f.critical;
  lowest = each_cons _ (λ e. absurd (h e)) f.lowest;
})

searched : (i : ℕ) (qs : List Process) → Searched i qs (critical_from i qs)
unfolding critical_by
searched i [] = none (λ j q a. elim a [ ])
searched i (q ∷ qs) = by_cond (Searched i (q ∷ qs)) (eqb (stage_of q.location) critical)
    (λ e. found (record {
      entry = q;
      among = here;
      critical = stage_location q.location (eqb-true _ _ e);
      lowest = λ j r a c. among_from a;
    }))
    (λ e. searched_cons (λ c. eqb-false _ _ e (ap stage_of c)) (searched (i + 1) qs))

-- The search of a state

module _ (s : State) where
  critical_searched : Searched 1 s.processes (critical_of s)
  unfolding critical_of
  critical_searched = searched 1 s.processes

  -- what follows from an entry in critical follows from a critical process
  of_critical : (Q : ℕ → Type 0) → ((j : ℕ) (q : Process) → Among 1 s.processes j q → q.location ≡ Critical → Q j)
      → (i : ℕ) → IsCritical s i → Q i
  of_critical Q k i c = each_entry (λ j q. q.location ≡ Critical → Q j) (λ j e. absurd (omega (arith, ap stage_of e))) s k
      i c.from c.at

  lowest_critical : {p : ℕ} → Lowest 1 s.processes p → LowestCritical s p
  lowest_critical {p} f = record {
    critical = record {
      from = among_from f.among;
      at = ap (λ (q : Process). q.location) (among_entry s f.among) ∙ f.critical;
    };
    lowest = of_critical (λ j. p ≤ j) f.lowest;
  }

  none_iff : {p : ℕ} → Searched 1 s.processes p → (p ≡ 0) ↔ ((i : ℕ) → IsCritical s i → ⊥)
  none_iff (none k) = (λ e. of_critical (λ j. ⊥) k, λ h. refl)
  none_iff (found f) = (λ e. absurd (omega (arith, among_from f.among)), λ h. absurd (h _ (lowest_critical f).critical))

  some_lowest : {p : ℕ} → Searched 1 s.processes p → p ≢ 0 → LowestCritical s p
  some_lowest (none k) n = absurd (n refl)
  some_lowest (found f) n = lowest_critical f

  pub nobody_critical : (critical_of s ≡ 0) ↔ ((i : ℕ) → IsCritical s i → ⊥)
  nobody_critical = none_iff critical_searched

  pub somebody_critical : critical_of s ≢ 0 → LowestCritical s (critical_of s)
  somebody_critical = some_lowest critical_searched

  accepts_tells : Tells (accepts s)
  accepts_tells = record { none = nobody_critical; some = somebody_critical; clock = refl }

-- The answer of a step

pub accepted_tells : AcceptedTells
accepted_tells s act p m a = rw (accepted_is (stepped s act p m) a).is (accepts_tells (effect s act p m))
