-- The lowest critical process after an action, from the lowest of those besides the acting one, and the other way round. Assumes nothing.
use Rattle.std.proofs.Common.{◌≡◌, ℕ, zero, suc, ◌+◌, ◌<◌, ◌≤◌, Bool, true, false, cond, eqb, ◌≢◌, List, [], ◌∷◌, length, get_or, drop, set}
use Rattle.std.proofs.Common.{sym, refl, ap, ◌∙◌, arith, le-ltb, lt-ltb, eq-eqb, ne_eqb}
use Rattle.model.specs.Types.{Location}
use Rattle.model.specs.Types.{Process}
use Rattle.model.specs.Stages.{critical}
use Rattle.model.specs.States.{entry, idle, stage_of}
use Rattle.model.specs.Answers.{critical_from, critical_by}
use Rattle.rules.specs.Judging.{other_critical, others_from, lowest_of}
use Rattle.model.proofs.Lists.{drop_at}
use Rattle.model.proofs.Tests.{by_test, if_eq}

-- those from place i on: that at i, and those from i + 1 on
pub critical-at : (k : ℕ) (l : List Process) (i : ℕ) (d : Process) → i < length l
    → critical_from k (drop i l) ≡ cond (eqb (stage_of (get_or l i d).location) critical) k (critical_from (k + 1) (drop (i + 1) l))
unfolding critical_by
critical-at k l i d h = rw (drop_at l i d h)

-- where none from place i on is critical, there is no lowest of them
pub critical_none : (k : ℕ) (l : List Process) (i : ℕ) → ((j : ℕ) → i ≤ j → stage_of (get_or l j idle).location ≢ critical)
    → critical_from k (drop i l) ≡ 0
unfolding critical_by
critical_none k [] zero h = refl
critical_none k [] (suc i) h = refl
critical_none k (q ∷ qs) zero h = rw (ne_eqb _ _ (h 0 (omega arith))) (critical_none (k + 1) qs zero (λ j g. h (suc j) (omega arith)))
critical_none k (q ∷ qs) (suc i) h = critical_none k qs i (λ j g. h (suc j) (omega arith))

own_not_other : (acting k : ℕ) (q : Process) → k ≡ acting → other_critical acting k q ≡ false
own_not_other acting k q e =
    rw (eq-eqb k acting e) (by_test (eqb (stage_of q.location) critical) (λ c. simp c) (λ c. simp c))

other_is_critical : (acting k : ℕ) (q : Process) → k ≢ acting → other_critical acting k q ≡ eqb (stage_of q.location) critical
other_is_critical acting k q n =
    rw (ne_eqb k acting n) (by_test (eqb (stage_of q.location) critical) (λ c. simp c) (λ c. simp c))

-- without the acting process in the list they are all the critical ones: a wait is of process 0
pub others_all : (acting k : ℕ) (l : List Process) → acting < k → critical_from k l ≡ others_from acting k l
unfolding critical_by others_from
others_all acting k [] h = refl
others_all acting k (q ∷ qs) h =
    rw (other_is_critical acting k q (λ e. omega arith), others_all acting (k + 1) qs (omega arith))

-- where the acting process, which has place i in the list, is not critical, they are all the critical ones too
pub others_not_own : (acting k : ℕ) (l : List Process) (i : ℕ) → acting ≡ k + i → stage_of (get_or l i idle).location ≢ critical
    → critical_from k l ≡ others_from acting k l
unfolding critical_by others_from
others_not_own acting k [] i e n = refl
others_not_own acting k (q ∷ qs) zero e n =
    rw (own_not_other acting k q (omega arith), ne_eqb _ _ n) (others_all acting (k + 1) qs (omega arith))
others_not_own acting k (q ∷ qs) (suc i) e n =
    rw (other_is_critical acting k q (λ f. omega arith), others_not_own acting (k + 1) qs i (omega arith) n)

-- one of them that is named has a number of the list
others_low : (acting k : ℕ) (l : List Process) → others_from acting k l ≢ 0 → k ≤ others_from acting k l
unfolding others_from
others_low acting k [] n = absurd (n refl)
others_low acting k (q ∷ qs) n =
    by_test (other_critical acting k q) (λ e. rw e (omega arith))
    (λ e. rw e (omega (arith, others_low acting (k + 1) qs (rw e at n))))

module _ (acting k others : ℕ) (to : Location) where
  -- the acting process is the first of the list
  lowest_first : acting ≡ k → (others ≢ 0 → k + 1 ≤ others) → cond (eqb (stage_of to) critical) k others ≡ lowest_of others acting to
  unfolding lowest_of
  lowest_first e h =
      by_test (eqb (stage_of to) critical)
      (λ c. if_eq others 0 (λ z. simp (c, eq-eqb others 0 z) (sym e))
      (λ n. simp (c, ne_eqb others 0 n, le-ltb others acting (omega (arith, h n))) (sym e)))
      (λ c. simp c)

  -- the acting process comes after process k, which is critical or not
  lowest_later : (t : Bool) → 1 ≤ k → k < acting → cond t k (lowest_of others acting to) ≡ lowest_of (cond t k others) acting to
  unfolding lowest_of
  lowest_later false h g = refl
  lowest_later true h g =
      by_test (eqb (stage_of to) critical)
      (λ c. simp (c, ne_eqb k 0 (λ e. omega arith), lt-ltb k acting g)) (λ c. simp c)

-- the acting process, which has place i in the list, comes to a location
pub others_moved : (acting k : ℕ) (l : List Process) (i : ℕ) (to : Location) → acting ≡ k + i → i < length l → 1 ≤ k
    → critical_from k (set l i (entry to)) ≡ lowest_of (others_from acting k l) acting to
unfolding critical_by others_from
others_moved acting k [] i to e h z = absurd (omega arith)
others_moved acting k (q ∷ qs) zero to e h z =
    rw (own_not_other acting k q (omega arith), others_all acting (k + 1) qs (omega arith))
    (lowest_first acting k (others_from acting (k + 1) qs) to (omega arith) (others_low acting (k + 1) qs))
others_moved acting k (q ∷ qs) (suc i) to e h z =
    rw (other_is_critical acting k q (λ f. omega arith), others_moved acting (k + 1) qs i to (omega arith) (omega arith) (omega arith))
    (lowest_later acting k (others_from acting (k + 1) qs) to (eqb (stage_of q.location) critical) z (omega arith))

-- where none of them comes before the acting process, they are the critical ones past it, whatever stands in its place
pub others_past : (acting k : ℕ) (l : List Process) (i : ℕ) (q : Process) → acting ≡ k + i → 1 ≤ k
    → (others_from acting k l ≢ 0 → acting ≤ others_from acting k l)
    → critical_from (acting + 1) (drop (suc i) (set l i q)) ≡ others_from acting k l
unfolding critical_by others_from
others_past acting k [] i q e z h = refl
others_past acting k (r ∷ qs) zero q e z h =
    let f : acting ≡ k = omega arith in
    rw (own_not_other acting k r (omega arith)) (others_all acting (acting + 1) qs (omega arith) ∙ ap (λ (j : ℕ). others_from acting (j + 1) qs) f)
others_past acting k (r ∷ qs) (suc i) q e z h =
    by_test (other_critical acting k r)
    (λ c. let g = rw c at h in absurd (omega (arith, g (λ f. omega arith))))
    (λ c. rw c (others_past acting (k + 1) qs i q (omega arith) (omega arith) (rw c at h)))
