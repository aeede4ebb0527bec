-- The entries of a state as a relation, so that what a definition says of a list of entries is proved by following the list;
-- and the way between this relation and `entry_of`. Assumes nothing.
use Prim.Native.Nat.{ℕ, zero, suc, ◌+◌, ◌-◌, ◌≤◌}
use mathlib.Core.Path.{◌≡◌, refl, sym, ap, subst, ◌∙◌}
use mathlib.Core.Logic.{◌≢◌}
use mathlib.Core.List.{List, [], ◌∷◌}
use native.Mathlib.Omega.{arith}
use native.Mathlib.Nat.{sub_self}
use lib.ListN.{length, get_or, replicate}
use lib.Seq.{ext_get_or, get_or-set_same, get_or-set_other}
use Rattle.model.specs.Types.{Process}
use Rattle.model.specs.Types.{State}
use Rattle.model.specs.declared.Transition.{Transition}
use Rattle.model.specs.States.{entry, idle, entry_of}
use Rattle.model.specs.Actions.{moved}

-- A list that has one value everywhere, as those of a fresh table and of a new summary do, gives it past its end too

pub same_at : {A : Type 0} (n i : ℕ) (a : A) → get_or (replicate n a) i a ≡ a
same_at zero i a = refl
same_at (suc n) zero a = refl
same_at (suc n) (suc i) a = same_at n i a

-- A list of entries

-- of the entries qs, which begin with that of process i, process j has the entry q
pub data Among : ℕ → List Process → ℕ → Process → Type 0 where
  here : {i : ℕ} {q : Process} {qs : List Process} → Among i (q ∷ qs) i q
  there : {i j : ℕ} {q r : Process} {qs : List Process} → Among (i + 1) qs j r → Among i (q ∷ qs) j r

pub among_from : {i j : ℕ} {qs : List Process} {q : Process} → Among i qs j q → i ≤ j
among_from here = omega arith
among_from (there a) = omega (arith, among_from a)

pub each_cons : (P : ℕ → Process → Type 0) {i : ℕ} {q : Process} {qs : List Process} → P i q
    → ((j : ℕ) (r : Process) → Among (i + 1) qs j r → P j r) → (j : ℕ) (r : Process) → Among i (q ∷ qs) j r → P j r
each_cons P h k j r here = h
each_cons P h k j r (there a) = k j r a

among_at : {i j : ℕ} {qs : List Process} {q : Process} → Among i qs j q → get_or qs (j - i) idle ≡ q
among_at {i} (here {q = q} {qs = qs}) = ap (λ (k : ℕ). get_or (q ∷ qs) k idle) (sub_self i)
among_at {i} {j} (there {q = q} {qs = qs} a) =
    let e : j - i ≡ suc (j - (i + 1)) = omega (arith, among_from a) in
    ap (λ (k : ℕ). get_or (q ∷ qs) k idle) e ∙ among_at a

-- The entries of a state

-- what holds of each entry that is there, and of an idle process, holds of every process: past the end all are idle
module _ (P : ℕ → Process → Type 0) (unused : (j : ℕ) → P j idle) where
  each_at : (i : ℕ) (qs : List Process) → ((j : ℕ) (q : Process) → Among i qs j q → P j q)
      → (k : ℕ) → P (i + k) (get_or qs k idle)
  each_at i [] h k = unused (i + k)
  each_at i (q ∷ qs) h zero = subst (λ (j : ℕ). P j q) (omega arith) (h i q here)
  each_at i (q ∷ qs) h (suc k) =
      subst (λ (j : ℕ). P j (get_or qs k idle)) (omega arith) (each_at (i + 1) qs (λ j r a. h j r (there a)) k)

  pub each_entry : (s : State) → ((j : ℕ) (q : Process) → Among 1 s.processes j q → P j q)
      → (i : ℕ) → 1 ≤ i → P i (entry_of s i)
  unfolding entry_of
  each_entry s h i some =
      subst (λ (j : ℕ). P j (get_or s.processes (i - 1) idle)) (omega arith) (each_at 1 s.processes h (i - 1))

pub among_entry : (s : State) {j : ℕ} {q : Process} → Among 1 s.processes j q → entry_of s j ≡ q
unfolding entry_of
among_entry s a = among_at a

pub entry_at : (s : State) (i : ℕ) → entry_of s (i + 1) ≡ get_or s.processes i idle
unfolding entry_of
entry_at s i = ap (λ (k : ℕ). get_or s.processes k idle) (omega arith)

-- states whose processes have the same entries have the same list of them
pub entries_same : (s s' : State) → length s'.processes ≡ length s.processes
    → ((i : ℕ) → 1 ≤ i → entry_of s' i ≡ entry_of s i) → s'.processes ≡ s.processes
entries_same s s' size h =
    ext_get_or idle _ _ size (λ i _. sym (entry_at s' i) ∙ h (i + 1) (omega arith) ∙ entry_at s i)

-- The entries after a move

module _ (s : State) (p m : ℕ) (t : Transition) where
  pub moved_own : 1 ≤ p → p ≤ length s.processes → entry_of (moved s p m t) p ≡ entry t.to
  unfolding entry_of
  moved_own some most = get_or-set_same s.processes (p - 1) _ idle (omega arith)

  pub moved_other : 1 ≤ p → (i : ℕ) → 1 ≤ i → i ≢ p → entry_of (moved s p m t) i ≡ entry_of s i
  unfolding entry_of
  moved_other some i from n = get_or-set_other s.processes (p - 1) (i - 1) _ idle (omega arith)
