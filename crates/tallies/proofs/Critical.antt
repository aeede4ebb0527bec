-- Who is critical before and after an accepted act, in tables where at most one process is: nobody before a crit and its own process after
-- it, that of an exit before it and nobody after it, and after another act whoever was before. Assumes nothing.
use Prim.Native.Nat.{ℕ, ◌≤◌}
use mathlib.Core.Path.{◌≡◌, sym, ap, ◌∙◌}
use mathlib.Core.Logic.{◌≢◌, ◌↔◌}
use mathlib.Core.Bool.{cond}
use native.Mathlib.Omega.{arith}
use lib.Dec.{eqb}
use borrow.Author.Tests.{ne_eqb}
use Rattle.model.specs.Types.{Location}
use Rattle.model.specs.declared.Location.TheVariants.{Critical}
use Rattle.model.specs.Types.{Process}
use Rattle.model.specs.Types.{State}
use Rattle.model.specs.Acts.{wait_act, crit_act, exit_act}
use Rattle.model.specs.States.{entry_of, stage_of}
use Rattle.model.specs.Answers.{critical_of}
use Rattle.model.specs.Facts.{IsCritical}
use Rattle.lists.specs.Demand3.{OneCritical}
use Rattle.model.proofs.Tests.{if_eq}
use Rattle.theory.proofs.Lowest.{nobody_critical, somebody_critical}
use Rattle.tallies.proofs.CountLaws.{weight, weight_critical}
use Rattle.tallies.proofs.ActKinds.{Kind}

-- One table

pub the_critical : {s : State} → OneCritical s → (i : ℕ) → IsCritical s i → critical_of s ≡ i
the_critical {s} one i c = one (critical_of s) i (somebody_critical s (λ e. (nobody_critical s).0 e i c)).critical c

-- Two tables

-- the same processes are critical in both
abbrev Same : State → State → Type 0
Same s s' = (i : ℕ) → IsCritical s' i ↔ IsCritical s i

critical_same : {s s' : State} → OneCritical s' → Same s s' → critical_of s' ≡ critical_of s
critical_same {s} {s'} one same = if_eq (critical_of s) 0
    (λ e. (nobody_critical s').1 (λ i c. (nobody_critical s).0 e i ((same i).0 c)) ∙ sym e)
    (λ n. the_critical one (critical_of s) ((same (critical_of s)).1 (somebody_critical s n).critical))

-- An act of process p leaves the entries of the others

module _ (s s' : State) (p : ℕ) (others : (i : ℕ) → 1 ≤ i → i ≢ p → entry_of s' i ≡ entry_of s i) where
  other_stays : (i : ℕ) → 1 ≤ i → i ≢ p → (entry_of s' i).location ≡ (entry_of s i).location
  other_stays i some n = ap (λ (q : Process). q.location) (others i some n)

  other_same : (i : ℕ) → i ≢ p → IsCritical s' i ↔ IsCritical s i
  other_same i n = (
    λ c. record { from = c.from; at = sym (other_stays i c.from n) ∙ c.at },
    λ c. record { from = c.from; at = other_stays i c.from n ∙ c.at },
  )

  all_same : weight (entry_of s' p).location ≡ weight (entry_of s p).location → Same s s'
  all_same w i = if_eq i p
      (λ e. (
        λ c. record { from = c.from; at = rw e (weight_critical _ (sym w ∙ ap weight (rw e at c.at))) },
        λ c. record { from = c.from; at = rw e (weight_critical _ (w ∙ ap weight (rw e at c.at))) },
      ))
      (other_same i)

  none_critical : OneCritical s → IsCritical s p → (entry_of s' p).location ≢ Critical → (i : ℕ) → IsCritical s' i → ⊥
  none_critical one c out i h = if_eq i p (λ e. out (rw e at h.at)) (λ n. n (one i p ((other_same i n).0 h) c))

  none_before : OneCritical s' → IsCritical s' p → (entry_of s p).location ≢ Critical → (i : ℕ) → IsCritical s i → ⊥
  none_before one' c out i h = if_eq i p (λ e. out (rw e at h.at)) (λ n. n (one' i p ((other_same i n).1 h) c))

  pub critical_before : {act m : ℕ} {l l' : Location} → Kind m act l l' → (entry_of s p).location ≡ l → (entry_of s' p).location ≡ l'
      → (act ≢ wait_act → 1 ≤ p) → OneCritical s → OneCritical s'
      → (act ≡ crit_act → critical_of s ≡ 0) × (act ≡ exit_act → critical_of s ≡ p)
  critical_before Kind.try e e' some one one' = (λ q. absurd (omega arith), λ q. absurd (omega arith))
  critical_before Kind.crit e e' some one one' = (
    λ _. (nobody_critical s).1
        (none_before one' (record { from = some (omega arith); at = e' }) (λ c. omega (arith, ap stage_of (sym e ∙ c)))),
    λ q. absurd (omega arith),
  )
  critical_before Kind.exit e e' some one one' =
      (λ q. absurd (omega arith), λ _. the_critical one p (record { from = some (omega arith); at = e }))
  critical_before Kind.withdraw e e' some one one' = (λ q. absurd (omega arith), λ q. absurd (omega arith))
  critical_before (Kind.other k a) e e' some one one' = (λ q. absurd (k.not_crit q), λ q. absurd (k.not_exit q))

  pub critical-after : {act m : ℕ} {l l' : Location} → Kind m act l l' → (entry_of s p).location ≡ l → (entry_of s' p).location ≡ l'
      → (act ≢ wait_act → 1 ≤ p) → OneCritical s → OneCritical s'
      → critical_of s' ≡ cond (eqb act crit_act) p (cond (eqb act exit_act) 0 (critical_of s))
  critical-after Kind.try e e' some one one' = critical_same one' (all_same (rw (e, e')))
  critical-after Kind.crit e e' some one one' = the_critical one' p (record { from = some (omega arith); at = e' })
  critical-after Kind.exit e e' some one one' = (nobody_critical s').1
      (none_critical one (record { from = some (omega arith); at = e }) (λ c. omega (arith, ap stage_of (sym e' ∙ c))))
  critical-after Kind.withdraw e e' some one one' = critical_same one' (all_same (rw (e, e')))
  critical-after {act} (Kind.other k a) e e' some one one' =
      rw (ne_eqb act crit_act k.not_crit, ne_eqb act exit_act k.not_exit) (critical_same one' (all_same (rw (e, e') a.weighs)))
