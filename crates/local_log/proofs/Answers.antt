-- What holds of every comparison. Assumes nothing.
use Rattle.std.proofs.Common.{◌≡◌, ℕ, ◌+◌, ◌≤◌, ◌≢◌, List, [], ◌∷◌, length, ℤ, pos, ◌+ℤ◌, neg_ℤ, ◌≤ℤ◌, refl, ap, ◌∙◌, subst, arith}
use lib.IntN.{neg_ℤ-neg_ℤ, +ℤ_idr}
use lib.Signed.{≤ℤ_refl}
use Rattle.local_log.specs.declared.Comparison.{Comparison}
use Rattle.local_log.specs.Comparisons.{Entry, Within, SameActions, AllNear, Serves, Least}
use Rattle.local_log.specs.Comparisons.{Compared, past_bounds, other_actions, no_shift, agree}
use Rattle.local_log.specs.Answers.{AnsweredExactly, RefusedWithout, NoEntries, ClockOff, Wider, OtherWayRound}
use Rattle.local_log.proofs.Orders.{≤ℤ-antisym, ≤ℤ-trans, neg_below, near_apart, near_looser, near_round, neg_order, pos_order}

-- [13.65]
pub answered_exactly : AnsweredExactly
answered_exactly d e xs ys r (past_bounds n) = record {
  agree = (λ k. absurd (omega arith), λ k. absurd (n k.0));
  past_bounds = (λ k. n, λ k. refl);
  other_actions = (λ k. absurd (omega arith), λ k. absurd (n k.0));
  no_shift = (λ k. absurd (omega arith), λ k. absurd (n k.0));
}
answered_exactly d e xs ys r (other_actions w n) = record {
  agree = (λ k. absurd (omega arith), λ k. absurd (n k.1));
  past_bounds = (λ k. absurd (omega arith), λ k. absurd (k w));
  other_actions = (λ k. (w, n), λ k. refl);
  no_shift = (λ k. absurd (omega arith), λ k. absurd (n k.1));
}
answered_exactly d e xs ys r (no_shift w a n) = record {
  agree = (λ k. absurd (omega arith), λ k. absurd (n k.2 k.3));
  past_bounds = (λ k. absurd (omega arith), λ k. absurd (k w));
  other_actions = (λ k. absurd (omega arith), λ k. absurd (k.1 a));
  no_shift = (λ k. (w, a, n), λ k. refl);
}
answered_exactly d e xs ys r (agree w a s l) = record {
  agree = (λ k. (w, a, s, l.serves), λ k. refl);
  past_bounds = (λ k. absurd (omega arith), λ k. absurd (k w));
  other_actions = (λ k. absurd (omega arith), λ k. absurd (k.1 a));
  no_shift = (λ k. absurd (omega arith), λ k. absurd (k.2 s l.serves));
}

-- [13.60]
pub refused_without : RefusedWithout
refused_without d e xs ys r (past_bounds n) = (refl, λ k. refl)
refused_without d e xs ys r (other_actions w n) = (refl, λ k. refl)
refused_without d e xs ys r (no_shift w a n) = (refl, λ k. refl)
refused_without d e xs ys r (agree w a s l) = (refl, λ k. absurd (k refl))

-- [13.75]
pub no_entries : NoEntries
no_entries d e h g =
    agree (record { range = h; tolerance = g; local_times = tt; other_times = tt }) refl (neg_ℤ (pos d))
    (record { serves = record { from = ≤ℤ_refl (neg_ℤ (pos d)); to = neg_below d; near = tt }; least = λ t v. v.from })

-- A shift that serves, beside the one that is told

-- the shift of an answer 0
least_told : (d e : ℕ) (xs ys : List Entry) (r : Comparison) → Compared d e xs ys r → r.code ≡ 0 → Least d e xs ys r.shift
least_told d e xs ys r (past_bounds n) k = absurd (omega arith)
least_told d e xs ys r (other_actions w n) k = absurd (omega arith)
least_told d e xs ys r (no_shift w a n) k = absurd (omega arith)
least_told d e xs ys r (agree w a s l) k = l

-- two shifts that bring all entries near are not far from each other, if there is an entry
both_near : (e : ℕ) (s t : ℤ) (xs ys : List Entry) → SameActions xs ys → xs ≢ [] → AllNear e s xs ys → AllNear e t xs ys → s ≤ℤ (t +ℤ pos (e + e))
both_near e s t [] ys a some n m = absurd (some refl)
both_near e s t (x ∷ xs) [] a some n m = absurd (omega (arith, ap length a))
both_near e s t (x ∷ xs) (y ∷ ys) a some n m = near_apart e x y s t n.0 m.0

-- [13.80]
pub clock_off : ClockOff
clock_off d e xs ys s r w a v c =
    let code = (answered_exactly d e xs ys r c).agree.1 (w, a, s, v) in
    let l = least_told d e xs ys r c code in
    (code, l.least s v, apart l, λ h some. exact l h (apart l some))
  where
    apart : Least d e xs ys r.shift → xs ≢ [] → s ≤ℤ (r.shift +ℤ pos (e + e))
    apart l some = both_near e s r.shift xs ys a some v.near l.serves.near

    exact : Least d e xs ys r.shift → e ≡ 0 → s ≤ℤ (r.shift +ℤ pos (e + e)) → r.shift ≡ s
    exact l h k =
        ≤ℤ-antisym (l.least s v) (subst (λ (z : ℤ). s ≤ℤ z) (ap (λ (n : ℕ). r.shift +ℤ pos (n + n)) h ∙ +ℤ_idr r.shift) k)

-- Other bounds, other logs

all_looser : (e g : ℕ) (s : ℤ) → e ≤ g → (xs ys : List Entry) → AllNear e s xs ys → AllNear g s xs ys
all_looser e g s h [] ys n = tt
all_looser e g s h (x ∷ xs) [] n = tt
all_looser e g s h (x ∷ xs) (y ∷ ys) n = (near_looser e x y s g h n.0, all_looser e g s h xs ys n.1)

serves_wider : (d e f g : ℕ) (xs ys : List Entry) (s : ℤ) → d ≤ f → e ≤ g → Serves d e xs ys s → Serves f g xs ys s
serves_wider d e f g xs ys s h k v = record {
  from = ≤ℤ-trans (neg_order (pos d) (pos f) (pos_order d f h)) v.from;
  to = ≤ℤ-trans v.to (pos_order d f h);
  near = all_looser e g s k xs ys v.near;
}

-- [13.85]
pub wider : Wider
wider d e f g xs ys r t df fm eg gm c ok k =
    let had = (answered_exactly d e xs ys r c).agree.0 ok in
    let bounds : Within f g xs ys = record { range = fm; tolerance = gm; local_times = had.0.local_times; other_times = had.0.other_times } in
    let served = serves_wider d e f g xs ys r.shift df eg (least_told d e xs ys r c ok).serves in
    let code = (answered_exactly f g xs ys t k).agree.1 (bounds, had.1, r.shift, served) in
    (code, (least_told f g xs ys t k code).least r.shift served)

all_round : (e : ℕ) (s : ℤ) (xs ys : List Entry) → AllNear e s xs ys → AllNear e (neg_ℤ s) ys xs
all_round e s [] [] n = tt
all_round e s [] (y ∷ ys) n = tt
all_round e s (x ∷ xs) [] n = tt
all_round e s (x ∷ xs) (y ∷ ys) n = (near_round e x y s n.0, all_round e s xs ys n.1)

round : (d e : ℕ) (xs ys : List Entry) (s : ℤ) → Serves d e xs ys s → Serves d e ys xs (neg_ℤ s)
round d e xs ys s v = record {
  from = neg_order s (pos d) v.to;
  to = subst (λ (z : ℤ). neg_ℤ s ≤ℤ z) (neg_ℤ-neg_ℤ (pos d)) (neg_order (neg_ℤ (pos d)) s v.from);
  near = all_round e s xs ys v.near;
}

-- [13.87]
pub other_way_round : OtherWayRound
other_way_round d e xs ys s =
    (round d e xs ys s, λ v. subst (Serves d e xs ys) (neg_ℤ-neg_ℤ s) (round d e ys xs (neg_ℤ s) v))
