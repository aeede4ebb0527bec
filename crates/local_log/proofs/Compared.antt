-- The answers of a comparison, each where it is given: by what the passes over the lists tell of two logs. Assumes nothing.
use Rattle.std.proofs.Common.{◌≡◌, ℕ, ◌<◌, ◌≤◌, true, false, List, [], ◌∷◌, length, pos, Option, Some, None, sym, refl, ap, subst, ◌∙◌, arith, le-leb}
use lib.ListN.{length-map}
use borrow.Author.Tests.{lt-leb}
use Rattle.model.specs.States.{last_time}
use Rattle.model.proofs.Tests.{clash, if_lt}
use Rattle.local_log.specs.declared.passes.Differences.{Differences}
use Rattle.local_log.specs.Comparisons.{Entry, times_in, most_shift, InTime, Within, actions_in, SameActions}
use Rattle.local_log.specs.Comparisons.{comparison, Compared, past_bounds, other_actions}
use Rattle.local_log.specs.Formulas.{in_time, same_numbers}
use Rattle.local_log.specs.Passes.{twice, no_differences, noted, all_from, pass_from, pass_of, bounded_of}
use Rattle.local_log.proofs.Worked.{in_time_iff, same_iff}
use Rattle.local_log.proofs.Shifts.{bounded_compared}

-- What a pass tells

-- the smallest difference is never above the one that it starts from
pub smallest_small : (p : Differences) (ss ts : List ℕ) → (all_from p ss ts).smallest ≤ p.smallest
unfolding all_from noted
smallest_small p [] ts = omega arith
smallest_small p (s ∷ ss) [] = omega arith
smallest_small p (s ∷ ss) (t ∷ ts) = omega (arith, smallest_small (noted p s t) ss ts)

-- it goes over all places of two logs where both are in time
pass_in_time : (p : Differences) (xs ys : List Entry) → InTime xs → InTime ys
    → pass_from p (times_in xs) (times_in ys) ≡ Some (all_from p (times_in xs) (times_in ys))
unfolding pass_from all_from
pass_in_time p [] ys s t = refl
pass_in_time p (x ∷ xs) [] s t = refl
pass_in_time p (x ∷ xs) (y ∷ ys) s t = rw (le-leb _ _ s.0, le-leb _ _ t.0) (pass_in_time (noted p x.time y.time) xs ys s.1 t.1)

clash_none : {q : Differences} → ◌≡◌ {A = Option Differences} None (Some q) → ⊥
clash_none e = cc

-- and only there
pass_all : (p q : Differences) (xs ys : List Entry) → length xs ≡ length ys → pass_from p (times_in xs) (times_in ys) ≡ Some q → InTime xs × InTime ys
unfolding pass_from
pass_all p q [] [] e h = (tt, tt)
pass_all p q [] (y ∷ ys) e h = absurd (omega arith)
pass_all p q (x ∷ xs) [] e h = absurd (omega arith)
pass_all p q (x ∷ xs) (y ∷ ys) e h = if_lt last_time x.time
    (λ s. absurd (clash_none (rw (lt-leb _ _ s) at h)))
    (λ s. if_lt last_time y.time
    (λ t. absurd (clash_none (rw (le-leb _ _ s, lt-leb _ _ t) at h)))
    (λ t. let more = pass_all (noted p x.time y.time) q xs ys (omega arith) (rw (le-leb _ _ s, le-leb _ _ t) at h) in
    ((s, more.0), (t, more.1))))

module _ (d e : ℕ) (xs ys : List Entry) where
  pub past_range : most_shift < d → Compared d e xs ys (comparison 19 (pos 0))
  past_range h = past_bounds (λ b. omega (arith, b.range))

  pub past_tolerance : most_shift < e → Compared d e xs ys (comparison 19 (pos 0))
  past_tolerance h = past_bounds (λ b. omega (arith, b.tolerance))

  pub past_local : in_time (times_in xs) ≡ false → Compared d e xs ys (comparison 19 (pos 0))
  past_local t = past_bounds (λ b. clash ((in_time_iff xs).1 b.local_times) t)

  pub past_other : in_time (times_in ys) ≡ false → Compared d e xs ys (comparison 19 (pos 0))
  past_other t = past_bounds (λ b. clash ((in_time_iff ys).1 b.other_times) t)

  module _ (range : d ≤ most_shift) (tolerance : e ≤ most_shift) where
    within : InTime xs → InTime ys → Within d e xs ys
    within s t = record { range = range; tolerance = tolerance; local_times = s; other_times = t }

    pub not_same : same_numbers (actions_in xs) (actions_in ys) ≡ false → in_time (times_in xs) ≡ true → in_time (times_in ys) ≡ true
        → Compared d e xs ys (comparison 20 (pos 0))
    not_same n s t = other_actions (within ((in_time_iff xs).0 s) ((in_time_iff ys).0 t)) (λ a. clash ((same_iff _ _).1 a) n)

    -- both have the same actions
    module _ (a : SameActions xs ys) where
      same_length : length xs ≡ length ys
      same_length = sym (length-map xs (λ (x : Entry). x.action)) ∙ ap length a ∙ length-map ys (λ (x : Entry). x.action)

      pub past_place : pass_of (times_in xs) (times_in ys) ≡ None → Compared d e xs ys (comparison 19 (pos 0))
      past_place h = past_bounds (λ b.
          let all = pass_in_time no_differences xs ys b.local_times b.other_times in absurd (cc (h, all)))

      pub all_places : {p : Differences} → pass_of (times_in xs) (times_in ys) ≡ Some p
          → (p.smallest ≤ twice) × Compared d e xs ys (bounded_of p.smallest p.largest d e)
      all_places {p} h =
          let t = pass_all no_differences p xs ys same_length h in
          let all = pass_in_time no_differences xs ys t.0 t.1 in
          let same : all_from no_differences (times_in xs) (times_in ys) ≡ p = cc (h, all) in (
            omega (arith, smallest_small no_differences (times_in xs) (times_in ys), ap (λ (q : Differences). q.smallest) same),
            subst (λ (q : Differences). Compared d e xs ys (bounded_of q.smallest q.largest d e)) same
                (bounded_compared d e xs ys (within t.0 t.1) a),
          )
