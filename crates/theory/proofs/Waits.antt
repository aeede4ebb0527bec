-- What processes have waited so far: the unused time of an act, what `waited_on` makes of the list by adding it, and `cleared_by` by
-- clearing a place. The laws tell the list place by place, and process p has the place p - 1. Assumes nothing.
use Prim.Native.Nat.{ℕ, zero, suc, ◌+◌, ◌-◌, ◌≤◌, ◌<◌}
use mathlib.Core.Path.{◌≡◌, refl, sym, ap, ◌∙◌}
use mathlib.Core.Logic.{◌⊎◌, inl, inr, ◌≢◌, ◌↔◌}
use mathlib.Core.Bool.{Bool, true, false, cond}
use mathlib.Core.List.{List, [], ◌∷◌}
use native.Mathlib.Omega.{arith}
use lib.Dec.{eqb}
use lib.ListN.{length, get_or, set, length-set, get_or-eq_default}
use lib.Seq.{ext_get_or, get_or-set_same, get_or-set_other}
use borrow.Author.Tests.{eq-eqb, ne_eqb}
use Rattle.model.specs.Types.{Process}
use Rattle.model.specs.Types.{State}
use Rattle.model.specs.Acts.{try_act, crit_act, withdraw_act}
use Rattle.model.specs.States.{idle, trying, entry_of}
use Rattle.model.specs.Answers.{critical_of}
use Rattle.model.specs.Facts.{IsCritical}
use Rattle.model.specs.Summaries.{unused_time, waited_on, clears, cleared_by, waited_after}
use Rattle.theory.specs.Acceptance.{Waits, Acts, Allowed, Changed}
use Rattle.theory.specs.Summaries.{Clears}
use Rattle.model.proofs.Tests.{by_test, if_eq, if_lt, by_cond, clash}
use Rattle.theory.proofs.Entries.{entry_at}
use Rattle.theory.proofs.Rows.{from_ready, trying_kept}
use Rattle.theory.proofs.Lowest.{nobody_critical}

-- Unused time

module _ (s : State) (m : ℕ) where
  pub unused_free : ((i : ℕ) → IsCritical s i → ⊥) → unused_time s m ≡ m - s.clock
  unused_free none = rw (eq-eqb (critical_of s) 0 ((nobody_critical s).1 none))

  pub unused_used : {i : ℕ} → IsCritical s i → unused_time s m ≡ 0
  unused_used {i} c = rw (ne_eqb (critical_of s) 0 (λ e. (nobody_critical s).0 e i c))

  -- what is sound before the act, with its unused time, is sound after it
  pub unused_fits : s.clock ≤ m → unused_time s m + s.clock ≤ m
  unused_fits forward = by_cond (λ (d : ℕ). d + s.clock ≤ m) (eqb (critical_of s) 0) (λ _. omega arith) (λ _. omega arith)

-- Time that is added

-- whether the entry at a place is one of a process that is trying; past the end none is
abbrev pub trying_at : List Process → ℕ → Bool
trying_at qs k = trying (get_or qs k idle).location

pub length_waited_on : (d : ℕ) (qs : List Process) (ws : List ℕ) → length (waited_on d qs ws) ≡ length ws
unfolding waited_on
length_waited_on d [] ws = refl
length_waited_on d (q ∷ qs) [] = refl
length_waited_on d (q ∷ qs) (w ∷ ws) = ap suc (length_waited_on d qs ws)

pub waited_at : (d : ℕ) (qs : List Process) (ws : List ℕ) (k : ℕ) → k < length ws
    → get_or (waited_on d qs ws) k 0 ≡ cond (trying_at qs k) (get_or ws k 0 + d) (get_or ws k 0)
unfolding waited_on
waited_at d [] ws k h = refl
waited_at d (q ∷ qs) [] k h = absurd (omega arith)
waited_at d (q ∷ qs) (w ∷ ws) zero h = refl
waited_at d (q ∷ qs) (w ∷ ws) (suc k) h = waited_at d qs ws k (omega arith)

module _ (d : ℕ) (qs : List Process) (ws : List ℕ) where
  pub waited_past : (k : ℕ) → length ws ≤ k → get_or (waited_on d qs ws) k 0 ≡ 0
  waited_past k h = get_or-eq_default (waited_on d qs ws) 0 (omega (arith, length_waited_on d qs ws))

  pub waited_trying : (k : ℕ) → k < length ws → trying_at qs k ≡ true → get_or (waited_on d qs ws) k 0 ≡ get_or ws k 0 + d
  waited_trying k h e = waited_at d qs ws k h ∙ rw e

  -- past the list's end too
  pub waited_other : (k : ℕ) → trying_at qs k ≡ false → get_or (waited_on d qs ws) k 0 ≡ get_or ws k 0
  waited_other k e = if_lt k (length ws)
      (λ h. waited_at d qs ws k h ∙ rw e)
      (λ h. waited_past k h ∙ sym (get_or-eq_default ws 0 h))

  pub waited_most : (k : ℕ) → get_or (waited_on d qs ws) k 0 ≤ get_or ws k 0 + d
  waited_most k = if_lt k (length ws)
      (λ h. by_test (trying_at qs k) (λ e. omega (arith, waited_trying k h e)) (λ e. omega (arith, waited_other k e)))
      (λ h. omega (arith, waited_past k h))

pub waited_on_zero : (qs : List Process) (ws : List ℕ) → waited_on 0 qs ws ≡ ws
waited_on_zero qs ws = ext_get_or 0 _ _ (length_waited_on 0 qs ws) (λ k h. by_test (trying_at qs k)
    (λ e. waited_trying 0 qs ws k (omega (arith, length_waited_on 0 qs ws)) e ∙ omega arith)
    (waited_other 0 qs ws k))

-- lists that differ in one place alone are the same once one value stands there
same_but : (l l' : List ℕ) (p v : ℕ) → length l ≡ length l' → ((k : ℕ) → k ≢ p → get_or l k 0 ≡ get_or l' k 0) → set l p v ≡ set l' p v
same_but l l' p v size same = ext_get_or 0 _ _ (simp length-set size) (λ k h. if_eq k p
    (λ e. let h' : p < length l = omega (arith, length-set l p v) in
    rw e (get_or-set_same l p v 0 h' ∙ sym (get_or-set_same l' p v 0 (omega arith))))
    (λ n. get_or-set_other l p k v 0 n ∙ same k n ∙ sym (get_or-set_other l' p k v 0 n)))

-- of the entries only who is trying matters
module _ (d : ℕ) (qs qs' : List Process) (ws : List ℕ) where
  as_long : length (waited_on d qs ws) ≡ length (waited_on d qs' ws)
  as_long = length_waited_on d qs ws ∙ sym (length_waited_on d qs' ws)

  alike_at : (k : ℕ) → trying_at qs k ≡ trying_at qs' k → get_or (waited_on d qs ws) k 0 ≡ get_or (waited_on d qs' ws) k 0
  alike_at k e = if_lt k (length ws)
      (λ h. waited_at d qs ws k h ∙ sym (rw e (waited_at d qs' ws k h)))
      (λ h. waited_past d qs ws k h ∙ sym (waited_past d qs' ws k h))

  pub waited_alike : ((k : ℕ) → trying_at qs k ≡ trying_at qs' k) → waited_on d qs ws ≡ waited_on d qs' ws
  waited_alike same = ext_get_or 0 _ _ as_long (λ k _. alike_at k (same k))

  pub waited_alike_but : (p v : ℕ) → ((k : ℕ) → k ≢ p → trying_at qs k ≡ trying_at qs' k)
      → set (waited_on d qs ws) p v ≡ set (waited_on d qs' ws) p v
  waited_alike_but p v same = same_but (waited_on d qs ws) (waited_on d qs' ws) p v as_long (λ k n. alike_at k (same k n))

-- A place that is cleared

clears_test : {act : ℕ} → Clears act → clears act ≡ true
clears_test Clears.try = refl
clears_test Clears.crit = refl
clears_test Clears.withdraw = refl

test_clears : (act : ℕ) → clears act ≡ true → Clears act
test_clears act e = if_eq act try_act (λ t. rw t Clears.try)
    (λ t. if_eq act crit_act (λ c. rw c Clears.crit)
    (λ c. if_eq act withdraw_act (λ w. rw w Clears.withdraw)
    (λ w. clash e (simp (ne_eqb act try_act t, ne_eqb act crit_act c, ne_eqb act withdraw_act w)))))

pub clears_told : (act : ℕ) → (clears act ≡ true) ↔ Clears act
clears_told act = (test_clears act, clears_test)

zero_put : (ws : List ℕ) (i k : ℕ) → get_or (set ws i 0) k 0 ≤ get_or ws k 0
zero_put [] i k = omega arith
zero_put (w ∷ ws) zero zero = omega arith
zero_put (w ∷ ws) zero (suc k) = omega arith
zero_put (w ∷ ws) (suc i) zero = omega arith
zero_put (w ∷ ws) (suc i) (suc k) = zero_put ws i k

module _ (act p : ℕ) (ws : List ℕ) where
  pub length_cleared : length (cleared_by act p ws) ≡ length ws
  length_cleared = by_cond (λ (l : List ℕ). length l ≡ length ws) (clears act) (λ _. length-set ws (p - 1) 0) (λ _. refl)

  pub cleared_own : clears act ≡ true → p - 1 < length ws → get_or (cleared_by act p ws) (p - 1) 0 ≡ 0
  cleared_own e h = rw e (get_or-set_same ws (p - 1) 0 0 h)

  pub cleared_other : (k : ℕ) → (clears act ≡ true → k ≢ p - 1) → get_or (cleared_by act p ws) k 0 ≡ get_or ws k 0
  cleared_other k n = by_cond (λ (l : List ℕ). get_or l k 0 ≡ get_or ws k 0) (clears act)
      (λ e. get_or-set_other ws (p - 1) k 0 0 (n e)) (λ _. refl)

  pub cleared_most : (k : ℕ) → get_or (cleared_by act p ws) k 0 ≤ get_or ws k 0
  cleared_most k = by_cond (λ (l : List ℕ). get_or l k 0 ≤ get_or ws k 0) (clears act)
      (λ _. zero_put ws (p - 1) k) (λ _. omega arith)

-- who clears a place has one
pub clears_some : {s : State} {act p m : ℕ} → Waits act p ⊎ Acts s act p m → clears act ≡ true → 1 ≤ p
clears_some (inl w) e = clash e (rw w.wait)
clears_some (inr a) e = a.some

-- An accepted act

pub length_waited_after : (s : State) (ws : List ℕ) (act p m : ℕ) → length (waited_after s ws act p m) ≡ length ws
length_waited_after s ws act p m =
    let d = unused_time s m in length_cleared act p (waited_on d s.processes ws) ∙ length_waited_on d s.processes ws

module _ {s s' : State} {act p m : ℕ} (allowed : Allowed s act p m) (changed : Changed s act p m s') where
  -- process k + 1 has the place k
  alike_from : (k : ℕ) → trying (entry_of s' (k + 1)).location ≡ trying (entry_of s (k + 1)).location
      → trying_at s'.processes k ≡ trying_at s.processes k
  alike_from k e = rw (entry_at s' k, entry_at s k) at e

  others_alike : (k : ℕ) → k + 1 ≢ p → trying_at s'.processes k ≡ trying_at s.processes k
  others_alike k n = alike_from k (rw (changed.others_stay (k + 1) (omega arith) n))

  all_alike : Waits act p ⊎ Acts s act p m → clears act ≡ false → (k : ℕ) → trying_at s'.processes k ≡ trying_at s.processes k
  all_alike (inl w) e k = others_alike k (omega arith)
  all_alike (inr a) e k = if_eq (k + 1) p
      (λ f. alike_from k (rw f (trying_kept a.from (changed.effect (from_ready a.from).not_wait) e)))
      (others_alike k)

  -- time may be added over the entries after the act too: where they are not trying as before, the place is cleared
  pub waited_after_act : (d : ℕ) (ws : List ℕ)
      → cleared_by act p (waited_on d s'.processes ws) ≡ cleared_by act p (waited_on d s.processes ws)
  waited_after_act d ws = by_test (clears act)
      (λ e. rw e (waited_alike_but d s'.processes s.processes ws (p - 1) 0
      (λ k n. others_alike k (omega (arith, clears_some allowed.turn e)))))
      (λ e. rw e (waited_alike d s'.processes s.processes ws (all_alike allowed.turn e)))
