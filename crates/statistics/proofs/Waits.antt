-- What going over the waits so far comes to, and that the unused time of an accepted act is known from the state after it and from who is named
-- in the answer: laws of the recorded step, of structs and of lists. Assumes nothing.
use Rattle.std.proofs.Common.{◌≡◌, ℕ, zero, suc, ◌+◌, ◌-◌, ◌^◌, ◌<◌, ◌≤◌, false, cond, not, eqb, ltb, ◌≢◌, ◌⊎◌, List, [], ◌∷◌, length, get_or, drop}
use Rattle.std.proofs.Common.{set, sym, refl, ap, ◌∙◌, inl, inr, mod-eq_of_lt, arith, length-set, get_or-set_other, get_or-set_same}
use Rattle.std.proofs.Common.{ext_get_or, le-ltb, lt-ltb, eq-eqb, ne_eqb}
use Rattle.std.specs.Prelude.{Bool, Some, None, position}
use Rattle.std.specs.List.{position_or_len}
use Rattle.model.specs.Types.{Location}
use Rattle.model.specs.declared.Location.TheVariants.{Remainder, Testing, Setting, Checking, Entering, Critical, Resetting, Leaving}
use Rattle.model.specs.Types.{Process}
use Rattle.model.specs.Types.{State}
use Rattle.model.specs.Stages.{remainder, critical}
use Rattle.model.specs.Acts.{wait_act, crit_act, exit_act, leaves}
use Rattle.model.specs.States.{entry, idle, stage_of, trying, entry_of}
use Rattle.model.specs.Actions.{transition_of, effect}
use Rattle.model.specs.Answers.{critical_by, critical_from, critical_of, step_of}
use Rattle.model.specs.Facts.{Accepted, IsCritical}
use Rattle.model.specs.Summaries.{unused_time, waited_on}
use Rattle.rules.specs.Judging.{others_from, lowest_of}
use Rattle.theory.specs.Acceptance.{From, Effect, Waits, Acts, Allowed}
use Rattle.statistics.specs.Waitings.{critical_past, others_before, may_wait, unused_beside, gains_of, longer_by, stage_at, waited_from}
use Rattle.model.proofs.Tests.{by_test, if_eq, if_lt, by_cond, clash}
use Rattle.model.proofs.Locations.{stage_location}
use Rattle.rules.proofs.Critical.{others_all, others_not_own, others_moved, others_past}
use Rattle.theory.proofs.Rows.{from_ready, row_effect}
use Rattle.theory.proofs.Steps.{Taken, stepped, accepted_is}
use Rattle.theory.proofs.Waits.{trying_at, length_waited_on, waited_at, waited_other, unused_used}

-- What stages gain

pub gains_at : (d : ℕ) (l : Location) → get_or (gains_of d) (stage_of l) 0 ≡ cond (trying l) d 0
gains_at d Remainder = refl
gains_at d (Testing t) = refl
gains_at d (Setting t) = refl
gains_at d (Checking t) = refl
gains_at d (Entering t) = refl
gains_at d Critical = refl
gains_at d (Resetting t) = refl
gains_at d (Leaving t) = refl

remainder_waits_not : (l : Location) → stage_of l ≡ remainder → trying l ≡ false
remainder_waits_not l e = rw (stage_location l e)

-- Who is critical past the acting process, by the place of the first critical entry

abbrev pub is_critical : Process → Bool
is_critical q = eqb (stage_of q.location) critical

critical_placed : (i : ℕ) (qs : List Process)
    → critical_from i qs ≡ cond (ltb (position_or_len is_critical qs) (length qs)) (i + position_or_len is_critical qs) 0
unfolding critical_by
critical_placed i [] = refl
critical_placed i (q ∷ qs) = by_test (is_critical q)
    (λ e. simp (e, lt-ltb 0 (length (q ∷ qs)) (omega arith)) (omega arith))
    (λ e. if_lt (position_or_len is_critical qs) (length qs)
    (λ h. simp (e, critical_placed (i + 1) qs, lt-ltb _ _ h, lt-ltb (1 + position_or_len is_critical qs) (length (q ∷ qs)) (omega arith)) (omega arith))
    (λ h. simp (e, critical_placed (i + 1) qs, le-ltb _ _ h, le-ltb (1 + position_or_len is_critical qs) (length (q ∷ qs)) (omega arith))))

pub critical_found : (i : ℕ) (qs : List Process) (k : ℕ) → Some k ≡ position is_critical qs → i + k ≡ critical_from i qs
critical_found i qs k h = by_test (ltb (position_or_len is_critical qs) (length qs))
    (λ e. let z : k ≡ position_or_len is_critical qs = let g = simp e at h in cc in rw (critical_placed i qs, e, z))
    (λ e. let z = simp e at h in absurd (cc))

pub critical_nowhere : (i : ℕ) (qs : List Process) → None ≡ position is_critical qs → 0 ≡ critical_from i qs
critical_nowhere i qs h = by_test (ltb (position_or_len is_critical qs) (length qs))
    (λ e. let z = simp e at h in absurd (cc))
    (λ e. rw (critical_placed i qs, e))

-- Places in a row

module _ (g : List ℕ) (st : ℕ → ℕ) where
  pub length_waited_from : (i k : ℕ) (ws : List ℕ) → length (waited_from g st i k ws) ≡ length ws
  unfolding waited_from
  length_waited_from i zero ws = refl
  length_waited_from i (suc k) ws = length_waited_from (i + 1) k _ ∙ length-set ws i _

  -- some of them, and then those behind
  pub waited_from_more : (i k j : ℕ) (ws : List ℕ) → waited_from g st i (k + j) ws ≡ waited_from g st (i + k) j (waited_from g st i k ws)
  unfolding waited_from
  waited_from_more i zero j ws = let e : 0 + j ≡ j = omega arith in let f : i + 0 ≡ i = omega arith in rw (e, f)
  waited_from_more i (suc k) j ws =
      let e : suc k + j ≡ suc (k + j) = omega arith in
      let f : i + suc k ≡ (i + 1) + k = omega arith in
      rw (e, f) (waited_from_more (i + 1) k j (set ws i (longer_by (get_or g (st i) 0) (get_or ws i 0))))

  -- the one behind
  pub waited_from_next : (i k : ℕ) (ws : List ℕ) → (let l = waited_from g st i k ws in
      waited_from g st i (k + 1) ws ≡ set l (i + k) (longer_by (get_or g (st (i + k)) 0) (get_or l (i + k) 0)))
  unfolding waited_from
  waited_from_next i k ws = waited_from_more i k 1 ws

  -- the place i comes after those before it
  pub one_more_gone : (i w : ℕ) (ws₀ ws : List ℕ) → ws ≡ waited_from g st 0 i ws₀
      → w ≡ longer_by (get_or g (st i) 0) (get_or ws i 0) → set ws i w ≡ waited_from g st 0 (i + 1) ws₀
  one_more_gone i w ws₀ ws inv e =
      let f : 0 + i ≡ i = omega arith in
      rw e (sym (rw (f, ← inv) at (waited_from_next 0 i ws₀)))

  before_kept : (i k : ℕ) (ws : List ℕ) (x : ℕ) → x < i → get_or (waited_from g st i k ws) x 0 ≡ get_or ws x 0
  unfolding waited_from
  before_kept i zero ws x h = refl
  before_kept i (suc k) ws x h = before_kept (i + 1) k _ x (omega arith) ∙ get_or-set_other ws i x _ 0 (λ e. omega arith)

  past_kept : (i k : ℕ) (ws : List ℕ) (x : ℕ) → i + k ≤ x → get_or (waited_from g st i k ws) x 0 ≡ get_or ws x 0
  unfolding waited_from
  past_kept i zero ws x h = refl
  past_kept i (suc k) ws x h = past_kept (i + 1) k _ x (omega arith) ∙ get_or-set_other ws i x _ 0 (λ e. omega arith)

  gone_over : (i k : ℕ) (ws : List ℕ) (x : ℕ) → i ≤ x → x < i + k → x < length ws
      → get_or (waited_from g st i k ws) x 0 ≡ longer_by (get_or g (st x) 0) (get_or ws x 0)
  unfolding waited_from
  gone_over i zero ws x f h z = absurd (omega arith)
  gone_over i (suc k) ws x f h z =
      let w = longer_by (get_or g (st i) 0) (get_or ws i 0) in
      if_eq x i
      (λ e. rw e (before_kept (i + 1) k (set ws i w) i (omega arith) ∙ get_or-set_same ws i w 0 (omega arith)))
      (λ n. gone_over (i + 1) k (set ws i w) x (omega arith) (omega arith) (omega (arith, length-set ws i w))
      ∙ ap (longer_by (get_or g (st x) 0)) (get_or-set_other ws i x w 0 n))

-- All places, where those left out are of nobody who is trying

module _ (d : ℕ) (qs : List Process) (ws : List ℕ) (fits : (i : ℕ) → get_or ws i 0 + d < 2 ^ 64) where
  longer_at : (x : ℕ) → longer_by (get_or (gains_of d) (stage_at qs x) 0) (get_or ws x 0) ≡ cond (trying_at qs x) (get_or ws x 0 + d) (get_or ws x 0)
  longer_at x = by_test (trying_at qs x)
      (λ e. rw (gains_at d (get_or qs x idle).location, e) (mod-eq_of_lt (fits x)))
      (λ e. rw (gains_at d (get_or qs x idle).location, e) (mod-eq_of_lt (omega (arith, fits x)) ∙ omega arith))

  pub waited_from_all : (st : ℕ → ℕ) → ((i : ℕ) → st i ≡ stage_at qs i) → (n k : ℕ) → n ≤ k
      → ((i : ℕ) → n ≤ i → stage_at qs i ≡ remainder) → waited_from (gains_of d) st 0 k ws ≡ waited_on d qs ws
  waited_from_all st is n k few rest =
      let long = length_waited_from (gains_of d) st 0 k ws in
      ext_get_or 0 _ _ (long ∙ sym (length_waited_on d qs ws)) (λ x h. if_lt x k
      (λ f. let z : x < length ws = omega (arith, long) in
      gone_over (gains_of d) st 0 k ws x (omega arith) (omega arith) z
      ∙ ap (λ j. longer_by (get_or (gains_of d) j 0) (get_or ws x 0)) (is x) ∙ longer_at x ∙ sym (waited_at d qs ws x z))
      (λ f. past_kept (gains_of d) st 0 k ws x (omega arith)
      ∙ sym (waited_other d qs ws x (remainder_waits_not (get_or qs x idle).location (rest x (omega arith))))))

-- Unused time, from who is critical besides the acting process

-- an exit alone is of a critical process
from_exit : {b m act : ℕ} {l : Location} → From b m act l → act ≡ exit_act → l ≡ Critical
unfolding leaves
from_exit {l = l} h e = stage_location l {k = critical} ((from_ready h).placed ∙ ap leaves e)

not_critical : {b m act : ℕ} {l : Location} → From b m act l → act ≢ exit_act → stage_of l ≢ critical
not_critical From.try n e = omega arith
not_critical From.test n e = omega arith
not_critical From.set n e = omega arith
not_critical (From.check _) n e = omega arith
not_critical From.crit n e = omega arith
not_critical From.exit n e = n refl
not_critical From.reset n e = omega arith
not_critical From.rem n e = omega arith
not_critical From.withdraw n e = omega arith

module _ (s : State) {act p m : ℕ} where
  others_critical : Waits act p ⊎ Acts s act p m → act ≢ exit_act → others_from p 1 s.processes ≡ critical_of s
  unfolding critical_of entry_of
  others_critical (inl w) n = sym (others_all p 1 s.processes (omega (arith, w.nobody)))
  others_critical (inr a) n =
      sym (others_not_own p 1 s.processes (p - 1) (omega (arith, a.some)) (not_critical a.from n))

  exit_critical : Waits act p ⊎ Acts s act p m → act ≡ exit_act → IsCritical s p
  exit_critical (inl w) e = absurd (omega (arith, w.wait))
  exit_critical (inr a) e = record { from = a.some; at = from_exit a.from e }

  pub unused-beside : Allowed s act p m → unused_beside (others_from p 1 s.processes) act s.clock m ≡ unused_time s m
  unused-beside h = if_eq act exit_act
      (λ e. by_cond (λ (d : ℕ). d ≡ unused_time s m) (not (eqb (others_from p 1 s.processes) 0))
      (λ _. sym (unused_used s m (exit_critical h.turn e)))
      (λ _. rw (eq-eqb act exit_act e) (sym (unused_used s m (exit_critical h.turn e)))))
      (λ n. rw (ne_eqb act exit_act n, others_critical h.turn n)
      (by_test (eqb (critical_of s) 0) (λ z. rw z) (λ z. rw z)))

-- Who was critical besides the acting process, from the answer and the state after the act

-- who comes to be critical comes by a crit
crit_critical : {p m act w w' : ℕ} {l : Location} → Effect p m act w l w' → act ≡ crit_act → stage_of l ≡ critical
crit_critical Effect.try e = absurd (omega arith)
crit_critical Effect.test_free e = absurd (omega arith)
crit_critical (Effect.test_taken _) e = absurd (omega arith)
crit_critical Effect.set e = absurd (omega arith)
crit_critical Effect.check_own e = absurd (omega arith)
crit_critical (Effect.check_other _) e = absurd (omega arith)
crit_critical Effect.crit e = refl
crit_critical Effect.exit e = absurd (omega arith)
crit_critical Effect.reset e = absurd (omega arith)
crit_critical Effect.rem e = absurd (omega arith)
crit_critical Effect.withdraw e = absurd (omega arith)

comes_not : {p m act w w' : ℕ} {l : Location} → Effect p m act w l w' → act ≢ crit_act → stage_of l ≢ critical
comes_not Effect.try n e = omega arith
comes_not Effect.test_free n e = omega arith
comes_not (Effect.test_taken _) n e = omega arith
comes_not Effect.set n e = omega arith
comes_not Effect.check_own n e = omega arith
comes_not (Effect.check_other _) n e = omega arith
comes_not Effect.crit n e = n refl
comes_not Effect.exit n e = omega arith
comes_not Effect.reset n e = omega arith
comes_not Effect.rem n e = omega arith
comes_not Effect.withdraw n e = omega arith

-- the process named is the acting one only if none of the others comes before it
module _ (others p : ℕ) (to : Location) where
  lowest_not : stage_of to ≢ critical → lowest_of others p to ≡ others
  unfolding lowest_of
  lowest_not n = simp (ne_eqb _ _ n)

  lowest_own : stage_of to ≡ critical → lowest_of others p to ≡ p → others ≢ 0 → p ≤ others
  unfolding lowest_of
  lowest_own c e n = if_lt others p
      (λ h. absurd (omega (arith, simp (eq-eqb _ _ c, ne_eqb _ _ n, lt-ltb _ _ h) at e)))
      (λ h. h)

  lowest_other : lowest_of others p to ≢ p → lowest_of others p to ≡ others
  unfolding lowest_of
  lowest_other n = by_test (eqb (stage_of to) critical)
      (λ c. by_test (eqb others 0) (λ z. absurd (n (simp (c, z))))
      (λ z. by_test (ltb others p) (λ f. simp (c, z, f)) (λ f. absurd (n (simp (c, z, f))))))
      (λ c. simp c)

module _ (l : List Process) (p act : ℕ) (to : Location) (some : 1 ≤ p) (most : p ≤ length l) where
  abbrev moved_to : List Process
  moved_to = set l (p - 1) (entry to)

  past_own : (others_from p 1 l ≢ 0 → p ≤ others_from p 1 l) → critical_past p moved_to ≡ others_from p 1 l
  past_own h =
      let e : p ≡ suc (p - 1) = omega arith in
      ap (λ (k : ℕ). critical_from (p + 1) (drop k moved_to)) e ∙ others_past p 1 l (p - 1) (entry to) (omega arith) (omega arith) h

  before_moved : (act ≡ crit_act → stage_of to ≡ critical) → (act ≢ crit_act → stage_of to ≢ critical)
      → others_before (critical_from 1 moved_to) moved_to act p ≡ others_from p 1 l
  before_moved to-critical to-other =
      rw (others_moved p 1 l (p - 1) to (omega arith) (omega arith) (omega arith))
      (if_eq act crit_act
      (λ c. if_eq (lowest_of (others_from p 1 l) p to) p
      (λ e. simp (eq-eqb act crit_act c, eq-eqb _ _ e) (past_own (lowest_own (others_from p 1 l) p to (to-critical c) e)))
      (λ n. simp (eq-eqb act crit_act c, ne_eqb _ _ n) (lowest_other (others_from p 1 l) p to n)))
      (λ c. simp (ne_eqb act crit_act c) (lowest_not (others_from p 1 l) p to (to-other c))))

module _ (s : State) (size : length s.processes ≡ 96) (act p m : ℕ) where
  before_by : Waits act p ⊎ Acts s act p m → s.parameters.n ≤ 96
      → others_before (critical_of (effect s act p m)) (effect s act p m).processes act p ≡ others_from p 1 s.processes
  unfolding effect critical_of
  before_by (inl w) few =
      simp (eq-eqb act wait_act w.wait, ne_eqb act crit_act (λ e. omega (arith, w.wait)))
      (others_all p 1 s.processes (omega (arith, w.nobody)))
  before_by (inr a) few =
      let to = row_effect s p a.from in
      simp (ne_eqb act wait_act (from_ready a.from).not_wait)
      (before_moved s.processes p act (transition_of s.word act p m).to a.some (omega (arith, a.most)) (crit_critical to) (comes_not to))

  module _ (a : Accepted (step_of s act p m)) where
    taken : Taken s act p m (step_of s act p m)
    taken = accepted_is (stepped s act p m) a

    -- before an exit too
    pub others-before :
        others_before (step_of s act p m).answer.process (step_of s act p m).state.processes act p ≡ others_from p 1 s.processes
    others-before = rw taken.is (before_by taken.allowed.turn taken.sound.parameters.count.most)

    -- after any other act than a crit the answer names who was critical besides its process
    named_unused : act ≢ crit_act → (step_of s act p m).answer.process ≢ 0 → unused_time s m ≡ 0
    named_unused c n =
        let e = simp (ne_eqb act crit_act c) at others-before in
        sym (unused-beside s taken.allowed) ∙ simp (ne_eqb (others_from p 1 s.processes) 0 (λ z. n (e ∙ z)))

    pub may_wait_not : may_wait (step_of s act p m).answer.process act s.clock m ≡ false → unused_time s m ≡ 0
    may_wait_not h = if_lt s.clock m
        (λ f. if_eq act exit_act (λ e. unused_used s m (exit_critical s taken.allowed.turn e))
        (λ e. if_eq act crit_act (λ c. clash (simp (lt-ltb _ _ f, ne_eqb _ _ e, eq-eqb _ _ c)) h)
        (λ c. named_unused c (λ z. clash (simp (lt-ltb _ _ f, ne_eqb _ _ e, ne_eqb _ _ c, eq-eqb _ _ z)) h))))
        (λ f. by_cond (λ (d : ℕ). d ≡ 0) (eqb (critical_of s) 0) (λ _. omega arith) (λ _. refl))
