-- What `sound_of` tells of the numbers of a state and of its arrivals: enough for sums of them to fit. Assumes nothing.
use Prim.Native.Nat.{ℕ, zero, suc, ◌+◌, ◌≤◌}
use mathlib.Core.Path.{◌≡◌, ap}
use mathlib.Core.Bool.{true}
use mathlib.Core.List.{List, [], ◌∷◌}
use native.Mathlib.Omega.{arith}
use lib.Dec.{leb}
use lib.ListN.{get_or}
use borrow.Author.Tests.{leb-true, leb-false}
use Rattle.model.specs.Types.{Process}
use Rattle.model.specs.Types.{State}
use Rattle.model.specs.States.{last_time, idle, since_of, entry_sound, entries_sound, limits_stand, sound_of}
use Rattle.model.proofs.Tests.{by_test, and_true_iff, tests}
use Rattle.model.proofs.Locations.{stage_location}

pub record SoundNumbers (s : State) : Type 0 where
  pub count : s.parameters.n ≤ 96
  pub limit : s.parameters.b ≤ 10_000_000
  pub check : s.parameters.c ≤ 10_000_000
  pub clock : s.clock ≤ last_time

pub sound_numbers : (s : State) → sound_of s ≡ true → SoundNumbers s
unfolding sound_of limits_stand
sound_numbers s e = omega (arith, simp tests at e)

-- an entry that may stand came at no time after the clock
entry_past : (s : State) (i : ℕ) (q : Process) → entry_sound s i q ≡ true → since_of q.location ≤ s.clock
entry_past s i q e =
    let h = simp tests at e in
    by_test (leb i s.parameters.n) (λ t. (h.0 (leb-true _ _ t)).0)
    (λ t. omega (arith, ap since_of (stage_location q.location (h.1 (leb-false _ _ t)))))

entries_past : (s : State) (i : ℕ) (qs : List Process) → entries_sound s i qs ≡ true
    → (k : ℕ) → since_of (get_or qs k idle).location ≤ s.clock
unfolding entries_sound
entries_past s i [] e k = omega arith
entries_past s i (q ∷ qs) e zero = entry_past s i q ((and_true_iff _ _).0 e).0
entries_past s i (q ∷ qs) e (suc k) = entries_past s (i + 1) qs ((and_true_iff (entry_sound s i q) _).0 e).1 k

pub sound_past : (s : State) → sound_of s ≡ true → (k : ℕ) → since_of (get_or s.processes k idle).location ≤ s.clock
unfolding sound_of
sound_past s e = entries_past s 1 s.processes (simp tests at e).1
