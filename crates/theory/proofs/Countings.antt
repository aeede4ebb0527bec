-- What an act leaves of a summary that counts it, in plain facts: the counts, and what each process has waited so far.
-- Assumes nothing.
use Prim.Native.Nat.{ℕ, ◌+◌, ◌-◌, ◌≤◌, max}
use mathlib.Core.Path.{◌≡◌, refl, ◌∙◌}
use mathlib.Core.Logic.{◌⊎◌, ◌≢◌}
use mathlib.Core.Bool.{true, false}
use native.Mathlib.Omega.{arith}
use lib.Dec.{eqb}
use lib.ListN.{length}
use borrow.Author.Tests.{ne_eqb}
use Rattle.model.specs.declared.Counts.{Counts}
use Rattle.model.specs.Types.{State}
use Rattle.model.specs.declared.Statistics.{Statistics}
use Rattle.model.specs.Acts.{crit_act, exit_act}
use Rattle.model.specs.States.{trying, entry_of}
use Rattle.model.specs.Answers.{critical_of}
use Rattle.model.specs.Facts.{IsTrying}
use Rattle.model.specs.Summaries.{counts_after, unused_time, waited_on, wait_of, clears, accepted_counted, refused_counted}
use Rattle.theory.specs.Soundness.{Sound}
use Rattle.theory.specs.Acceptance.{Waits, Acts, Allowed}
use Rattle.theory.specs.Summaries.{RefusedAdded, Unused, Counting, Clears, Waiting, AcceptedAdded}
use Rattle.model.proofs.Tests.{by_test, if_eq, if_lt, by_cond, clash}
use Rattle.theory.proofs.Conditions.{turn_named}
use Rattle.theory.proofs.Lowest.{nobody_critical, somebody_critical}
use Rattle.theory.proofs.Waits.{unused_free, unused_used, length_waited_on, waited_trying, waited_other}
use Rattle.theory.proofs.Waits.{clears_told, clears_some, cleared_own, cleared_other, length_waited_after}

pub refused_added : (x : Statistics) → RefusedAdded x (refused_counted x)
refused_added x = record {
  refused_rises = refl;
  accepted_stays = refl;
  entries_stay = refl;
  exits_stay = refl;
  longest_stays = refl;
  waited_stays = refl;
}

-- The counts

module _ (k : Counts) (act w : ℕ) where
  one_counted : ((counts_after k act w).accepted ≡ k.accepted + 1) × ((counts_after k act w).refused ≡ k.refused)
  one_counted =
      let P : Counts → Type 0 = λ (j : Counts). (j.accepted ≡ k.accepted + 1) × (j.refused ≡ k.refused) in
      by_cond P (eqb act crit_act) (λ _. (refl, refl)) (λ _. by_cond P (eqb act exit_act) (λ _. (refl, refl)) (λ _. (refl, refl)))

  counting : Counting w act k.entries k.exits k.longest
      (counts_after k act w).entries (counts_after k act w).exits (counts_after k act w).longest
  counting = if_eq act crit_act
      (λ e. if_lt k.longest w
      (λ l. let more : max k.longest w ≡ w = omega arith in rw (e, more) (Counting.crit_longer l))
      (λ l. let same : max k.longest w ≡ k.longest = omega arith in rw (e, same) (Counting.crit l)))
      (λ c. if_eq act exit_act (λ e. rw e Counting.exit)
      (λ x. rw (ne_eqb act crit_act c, ne_eqb act exit_act x) (Counting.other c x)))

-- The waits so far

pub unused_is : (s : State) (m : ℕ) → s.clock ≤ m → Unused s m (unused_time s m)
unused_is s m forward = if_eq (critical_of s) 0
    (λ e. let none = (nobody_critical s).0 e in rw (unused_free s m none) (Unused.free {d = m - s.clock} none (omega arith)))
    (λ n. let c = (somebody_critical s n).critical in rw (unused_used s m c) (Unused.used (critical_of s) c))

module _ (s : State) (i : ℕ) where
  -- above n all are in the remainder
  pub trying_named : Sound s → IsTrying s i → i ≤ s.parameters.n
  trying_named sound t = if_lt s.parameters.n i (λ h. clash t.at (rw (sound.above i h))) (λ h. h)

  pub not_trying : 1 ≤ i → (IsTrying s i → ⊥) → trying (entry_of s i).location ≡ false
  not_trying from out = by_test (trying (entry_of s i).location) (λ e. absurd (out (record { from = from; at = e }))) (λ e. e)

module _ {s : State} {act p m : ℕ} (sound : Sound s) (turn : Waits act p ⊎ Acts s act p m) where
  -- the place of another process is another place
  elsewhere : (i : ℕ) → 1 ≤ i → (Clears act → i ≢ p) → clears act ≡ true → i - 1 ≢ p - 1
  elsewhere i from n e = omega (arith, n ((clears_told act).0 e), clears_some turn e)

  pub waiting : (x : Statistics) → length x.waited ≡ 96 → Waiting s act p (unused_time s m) x (accepted_counted s x act p m)
  unfolding accepted_counted entry_of
  waiting x size =
      let d = unused_time s m in
      let qs = s.processes in
      let ws = x.waited in
      let on = waited_on d qs ws in
      let most = sound.parameters.count.most in
      record {
        cleared = λ c. cleared_own act p on ((clears_told act).1 c) (omega (arith, length_waited_on d qs ws, turn_named turn));
        trying = λ i t n. cleared_other act p on (i - 1) (elsewhere i t.from n)
            ∙ waited_trying d qs ws (i - 1) (omega (arith, trying_named s i sound t)) t.at;
        others = λ i from out n. cleared_other act p on (i - 1) (elsewhere i from n) ∙ waited_other d qs ws (i - 1) (not_trying s i from out);
        size_stays = length_waited_after s ws act p m;
      }

-- All of an accepted act

pub accepted_added : {s : State} {act p m : ℕ} → Sound s → Allowed s act p m → (x : Statistics) → length x.waited ≡ 96
    → AcceptedAdded s act p m x (accepted_counted s x act p m)
unfolding accepted_counted
accepted_added {s} {act} {p} {m} sound allowed x size =
    let rise = one_counted x.counts act (wait_of s x p m) in
    record {
      accepted_rises = rise.0;
      refused_stays = rise.1;
      unused = unused_time s m;
      is_unused = unused_is s m allowed.forward;
      counting = counting x.counts act (wait_of s x p m);
      waiting = waiting sound allowed.turn x size;
    }
