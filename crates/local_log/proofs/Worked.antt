-- The answer that is worked out: its tests say what they are named after, so that it is an answer, and the only one. Assumes nothing.
use Rattle.std.proofs.Common.{◌≡◌, ℕ, ◌≤◌, true, ◌↔◌, List, [], ◌∷◌, length, drop, ℤ, pos, neg_ℤ, sym, refl, ap, ◌∙◌, subst, arith}
use lib.Signed.{le_z}
use Rattle.model.proofs.Tests.{by_test, clash, tests}
use Rattle.local_log.specs.Comparisons.{Entry, times_in, most_shift, InTime, Within, actions_in, AllNear, Serves, comparison}
use Rattle.local_log.specs.Comparisons.{Compared, past_bounds, other_actions, no_shift, agree}
use Rattle.local_log.specs.Formulas.{least_shift, in_time, within, same_numbers, all_near, serves, compared_of}
use Rattle.local_log.specs.Answers.{SomeAnswer, OneAnswer, ComparedExactly}
use Rattle.local_log.proofs.Orders.{≤ℤ-antisym, le_test, le_true}
use Rattle.local_log.proofs.LeastShifts.{least_serves, least_is}

-- The tests

pub in_time_iff : (xs : List Entry) → (in_time (times_in xs) ≡ true) ↔ InTime xs
unfolding in_time
in_time_iff [] = (λ e. tt, λ t. refl)
in_time_iff (x ∷ xs) = (
  λ e. let h : (x.time ≤ _) × (in_time (times_in xs) ≡ true) = simp tests at e in (h.0, (in_time_iff xs).0 h.1),
  λ t. simp tests (t.0, (in_time_iff xs).1 t.1),
)

-- the head of a list, and what follows it
head_same : {a b : ℕ} {l m : List ℕ} → ◌≡◌ {A = List ℕ} (a ∷ l) (b ∷ m) → a ≡ b
head_same e = ap (λ (k : List ℕ). head k) e
  where
    head : List ℕ → ℕ
    head [] = 0
    head (x ∷ l) = x

tail_same : {a b : ℕ} {l m : List ℕ} → ◌≡◌ {A = List ℕ} (a ∷ l) (b ∷ m) → l ≡ m
tail_same e = ap (λ (k : List ℕ). drop 1 k) e

pub same_iff : (xs ys : List ℕ) → (same_numbers xs ys ≡ true) ↔ (xs ≡ ys)
unfolding same_numbers
same_iff [] [] = (λ e. refl, λ h. refl)
same_iff [] (y ∷ ys) = (λ e. absurd (clash refl (sym e)), λ h. absurd (omega (arith, ap length h)))
same_iff (x ∷ xs) [] = (λ e. absurd (clash refl (sym e)), λ h. absurd (omega (arith, ap length h)))
same_iff (x ∷ xs) (y ∷ ys) = (
  λ e. let h : (x ≡ y) × (same_numbers xs ys ≡ true) = simp tests at e in
      ap (λ (a : ℕ). a ∷ xs) h.0 ∙ ap (λ (l : List ℕ). y ∷ l) ((same_iff xs ys).0 h.1),
  λ h. simp tests (head_same h, (same_iff xs ys).1 (tail_same h)),
)

near_iff : (e : ℕ) (s : ℤ) (xs ys : List Entry) → (all_near e s xs ys ≡ true) ↔ AllNear e s xs ys
unfolding all_near
near_iff e s [] ys = (λ h. tt, λ n. refl)
near_iff e s (x ∷ xs) [] = (λ h. tt, λ n. refl)
near_iff e s (x ∷ xs) (y ∷ ys) = (
  λ h. let k : (_ ≤ e) × (all_near e s xs ys ≡ true) = simp tests at h in (k.0, (near_iff e s xs ys).0 k.1),
  λ n. simp tests (n.0, (near_iff e s xs ys).1 n.1),
)

module _ (d e : ℕ) (xs ys : List Entry) where
  pub within_iff : (within d e xs ys ≡ true) ↔ Within d e xs ys
  within_iff = (
    λ h. let k : (((d ≤ most_shift) × (e ≤ most_shift)) × (in_time (times_in xs) ≡ true)) × (in_time (times_in ys) ≡ true) = simp tests at h in
        record { range = k.0.0.0; tolerance = k.0.0.1; local_times = (in_time_iff xs).0 k.0.1; other_times = (in_time_iff ys).0 k.1 },
    λ w. simp tests (((w.range, w.tolerance), (in_time_iff xs).1 w.local_times), (in_time_iff ys).1 w.other_times),
  )

  serves_iff : (s : ℤ) → (serves d e xs ys s ≡ true) ↔ Serves d e xs ys s
  serves_iff s = (
    λ h. let k : ((le_z (neg_ℤ (pos d)) s ≡ true) × (le_z s (pos d) ≡ true)) × (all_near e s xs ys ≡ true) = simp tests at h in
        record { from = le_test _ _ k.0.0; to = le_test _ _ k.0.1; near = (near_iff e s xs ys).0 k.1 },
    λ v. simp tests ((le_true _ _ v.from, le_true _ _ v.to), (near_iff e s xs ys).1 v.near),
  )

  -- The answer

  pub worked-out : Compared d e xs ys (compared_of d e xs ys)
  unfolding compared_of
  worked-out = by_test (within d e xs ys)
      (λ w. by_test (same_numbers (actions_in xs) (actions_in ys))
      (λ a. by_test (serves d e xs ys (least_shift d e xs ys))
      (λ v. rw (w, a, v) (agree (within_iff.0 w) ((same_iff _ _).0 a) (least_shift d e xs ys) (least_is d e xs ys ((serves_iff _).0 v))))
      (λ v. rw (w, a, v) (no_shift (within_iff.0 w) ((same_iff _ _).0 a) (λ s k. clash ((serves_iff _).1 (least_serves d e xs ys s k)) v))))
      (λ a. rw (w, a) (other_actions (within_iff.0 w) (λ k. clash ((same_iff _ _).1 k) a))))
      (λ w. rw w (past_bounds (λ k. clash (within_iff.1 k) w)))

-- [13.65]
pub some_answer : SomeAnswer
some_answer d e xs ys = (compared_of d e xs ys, worked-out d e xs ys)

-- [13.65]
pub one_answer : OneAnswer
one_answer d e xs ys r t (past_bounds n) (past_bounds m) = refl
one_answer d e xs ys r t (past_bounds n) (other_actions w m) = absurd (n w)
one_answer d e xs ys r t (past_bounds n) (no_shift w a m) = absurd (n w)
one_answer d e xs ys r t (past_bounds n) (agree w a s l) = absurd (n w)
one_answer d e xs ys r t (other_actions w n) (past_bounds m) = absurd (m w)
one_answer d e xs ys r t (other_actions w n) (other_actions v m) = refl
one_answer d e xs ys r t (other_actions w n) (no_shift v a m) = absurd (n a)
one_answer d e xs ys r t (other_actions w n) (agree v a s l) = absurd (n a)
one_answer d e xs ys r t (no_shift w a n) (past_bounds m) = absurd (m w)
one_answer d e xs ys r t (no_shift w a n) (other_actions v m) = absurd (m a)
one_answer d e xs ys r t (no_shift w a n) (no_shift v b m) = refl
one_answer d e xs ys r t (no_shift w a n) (agree v b s l) = absurd (n s l.serves)
one_answer d e xs ys r t (agree w a s l) (past_bounds m) = absurd (m w)
one_answer d e xs ys r t (agree w a s l) (other_actions v m) = absurd (m a)
one_answer d e xs ys r t (agree w a s l) (no_shift v b m) = absurd (m s l.serves)
one_answer d e xs ys r t (agree w a s l) (agree v b u k) = ap (comparison 0) (≤ℤ-antisym (l.least u k.serves) (k.least s l.serves))

-- [13.72]
pub compared_exactly : ComparedExactly
compared_exactly d e xs ys r = (
  λ c. one_answer d e xs ys r (compared_of d e xs ys) c (worked-out d e xs ys),
  λ h. subst (Compared d e xs ys) (sym h) (worked-out d e xs ys),
)
