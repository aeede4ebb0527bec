-- What a summary has of each process beside what the log tells of it: who is trying has waited for the unused time since its try, and
-- another for nothing; and that an attempt more keeps this. Assumes nothing.
use Prim.Native.Nat.{ℕ, ◌+◌, ◌-◌, ◌≤◌}
use mathlib.Core.Path.{◌≡◌, refl, sym, ap, subst, ◌∙◌}
use mathlib.Core.Logic.{◌⊎◌, inl, inr, ◌≢◌}
use mathlib.Core.Bool.{Bool, true, false, false≢true}
use mathlib.Core.List.{List, [], ◌∷◌}
use native.Mathlib.Omega.{arith}
use lib.ListN.{length}
use borrow.Author.Tests.{eq-eqb}
use Rattle.model.specs.Types.{Location}
use Rattle.model.specs.Types.{State}
use Rattle.model.specs.declared.Statistics.{Statistics}
use Rattle.model.specs.Acts.{crit_act}
use Rattle.model.specs.States.{trying, entry_of}
use Rattle.model.specs.Facts.{IsFresh, IsTrying}
use Rattle.model.specs.Summaries.{new_statistics, waited_by, wait_of, accepted_counted}
use Rattle.model.specs.Tallies.{Attempt, attempt, is_accepted, is_try, is_tried_out, trying_after, unused_after, unused_since}
use Rattle.model.specs.Tallies.{wait_after, last_try}
use Rattle.theory.specs.Acceptance.{Allowed, Changed}
use Rattle.theory.specs.Summaries.{Clears, Waiting}
use Rattle.model.proofs.Tests.{if_eq, clash, tests}
use Rattle.theory.proofs.Entries.{same_at}
use Rattle.theory.proofs.Waits.{unused_fits}
use Rattle.theory.proofs.Countings.{waiting}
use Rattle.lists.proofs.Reached.{fresh_plain}
use Rattle.tallies.proofs.ActKinds.{plain_tests, plain_clears, Kind, crit_tries, turn_some, turn_kind}
use Rattle.tallies.proofs.States.{StateAlong, unused_told}
use Rattle.tallies.proofs.Logs.{unheard, try_tells, out_tells, other_tells}

-- One process

-- process i is trying, and has waited for the unused time since its try, which is no more than all time since then
pub record Waited (log : List Attempt) (s : State) (x : Statistics) (i : ℕ) : Type 0 where
  pub now : IsTrying s i
  pub tells : trying_after i log ≡ true
  pub is : waited_by x i ≡ unused_since i log
  pub within : last_try i log + waited_by x i ≤ s.clock

-- it is not, and has waited for nothing
pub record Rested (log : List Attempt) (s : State) (x : Statistics) (i : ℕ) : Type 0 where
  pub not_now : IsTrying s i → ⊥
  pub tells : trying_after i log ≡ false
  pub is : waited_by x i ≡ 0

abbrev pub WaitTold : List Attempt → State → Statistics → ℕ → Type 0
WaitTold log s x i = Waited log s x i ⊎ Rested log s x i

module _ {log : List Attempt} {s : State} {x : Statistics} {i : ℕ} where
  pub told_waited : WaitTold log s x i → trying_after i log ≡ true → Waited log s x i
  told_waited (inl w) e = w
  told_waited (inr r) e = clash e r.tells

  pub told_rested : WaitTold log s x i → trying_after i log ≡ false → Rested log s x i
  told_rested (inl w) e = clash w.tells e
  told_rested (inr r) e = r

  pub now_told : WaitTold log s x i → IsTrying s i → trying_after i log ≡ true
  now_told (inl w) t = w.tells
  now_told (inr r) t = absurd (r.not_now t)

-- at an entry at the time m its wait is no more than all time since the try either
pub at_entry : {log : List Attempt} {s : State} {x : Statistics} {i : ℕ} → StateAlong log s → Waited log s x i
    → (m : ℕ) → s.clock ≤ m → last_try i log + wait_after log i m ≤ m
at_entry {s = s} h w m forward = omega (arith, unused_told h m, unused_fits s m forward, w.is, w.within)

-- An attempt that was not accepted

-- the summary may count it, and keeps what processes have waited
wait_refused : (e : Attempt) {log : List Attempt} {s : State} {x : Statistics} (y : Statistics) (i : ℕ) → is_accepted e ≡ false
    → y.waited ≡ x.waited → WaitTold log s x i → WaitTold (e ∷ log) s y i
wait_refused e {log} y i f same (inl w) =
    let u = unheard e log f in
    inl (record {
      now = w.now;
      tells = u.trying i ∙ w.tells;
      is = rw (same, u.since i) w.is;
      within = rw (same, u.tries i) w.within;
    })
wait_refused e {log} y i f same (inr r) =
    inr (record { not_now = r.not_now; tells = (unheard e log f).trying i ∙ r.tells; is = rw same r.is })

-- An accepted act

-- what an act of process p at the time m is to process i, which is trying or not before and after it
data Part (act p m i : ℕ) (before after : Bool) : Type 0 where
  starts : is_try i (attempt act p m 0) ≡ true → Clears act → i ≡ p → after ≡ true → Part act p m i before after
  ends : is_try i (attempt act p m 0) ≡ false → is_tried_out i (attempt act p m 0) ≡ true → Clears act → i ≡ p → after ≡ false
      → Part act p m i before after
  keeps : is_try i (attempt act p m 0) ≡ false → is_tried_out i (attempt act p m 0) ≡ false → (Clears act → i ≢ p) → after ≡ before
      → Part act p m i before after

own_part : (p : ℕ) {act m : ℕ} {l l' : Location} → Kind m act l l' → Part act p m p (trying l) (trying l')
own_part p Kind.try = Part.starts (rw (eq-eqb p p refl)) Clears.try refl refl
own_part p Kind.crit = Part.ends refl (rw (eq-eqb p p refl)) Clears.crit refl refl
own_part p Kind.exit = Part.keeps refl refl (λ c. elim c [ ]) refl
own_part p Kind.withdraw = Part.ends refl (rw (eq-eqb p p refl)) Clears.withdraw refl refl
own_part p (Kind.other k a) =
    let t = plain_tests k in
    Part.keeps (rw t.no_try) (rw (t.no_crit, t.no_withdraw)) (λ c. absurd (plain_clears k c)) a.tries

other_part : (act p m i : ℕ) (b : Bool) → i ≢ p → Part act p m i b b
other_part act p m i b n = Part.keeps (simp tests (λ _. omega arith)) (simp tests (λ _. omega arith)) (λ _. n) refl

module _ (log : List Attempt) {s : State} (s' : State) {x y : Statistics} {act p m : ℕ} (i : ℕ) (some : 1 ≤ i) (clock : s'.clock ≡ m)
    (fits : unused_after log m + s.clock ≤ m) (waiting : Waiting s act p (unused_after log m) x y) where
  wait_accepted : Part act p m i (trying (entry_of s i).location) (trying (entry_of s' i).location) → WaitTold log s x i
      → WaitTold (attempt act p m 0 ∷ log) s' y i
  wait_accepted (Part.starts t c own e) w =
      let tell = try_tells act p m log i t in
      let zero : waited_by y i ≡ 0 = rw own (waiting.cleared c) in
      inl (record {
        now = record { from = some; at = e };
        tells = tell.trying_is;
        is = zero ∙ sym tell.since_is;
        within = omega (arith, tell.last_is);
      })
  wait_accepted (Part.ends t o c own e) w = inr (record {
    not_now = λ h. clash h.at e;
    tells = (out_tells act p m log i t o).trying_is;
    is = rw own (waiting.cleared c);
  })
  wait_accepted (Part.keeps t o n e) (inl w) =
      let tell = other_tells act p m log i t o in
      let more = waiting.trying i w.now n in
      inl (record {
        now = record { from = some; at = e ∙ w.now.at };
        tells = tell.trying_is ∙ w.tells;
        is = omega (arith, tell.since_is, w.is);
        within = omega (arith, tell.last_is, w.within);
      })
  wait_accepted (Part.keeps t o n e) (inr r) = inr (record {
    not_now = λ h. r.not_now (record { from = some; at = sym e ∙ h.at });
    tells = (other_tells act p m log i t o).trying_is ∙ r.tells;
    is = waiting.others i some r.not_now n ∙ r.is;
  })

-- All processes

-- after the steps of a log, with the table s and the summary x
pub record WaitsAlong (log : List Attempt) (s : State) (x : Statistics) : Type 0 where
  pub size : length x.waited ≡ 96
  pub each : (i : ℕ) → 1 ≤ i → WaitTold log s x i

pub waits_start : {s : State} → IsFresh s → WaitsAlong [] s new_statistics
unfolding trying_after
waits_start f = record {
  size = refl;
  each = λ i some. inr (record {
    not_now = λ t. false≢true (sym (ap trying ((fresh_plain f).all i)) ∙ t.at);
    tells = refl;
    is = same_at {A = ℕ} 96 (i - 1) 0;
  });
}

module _ {log : List Attempt} {s : State} {x : Statistics} (h : WaitsAlong log s x) where
  -- y may count the attempt
  pub waits_refused : (e : Attempt) → is_accepted e ≡ false → (y : Statistics) → y.waited ≡ x.waited → WaitsAlong (e ∷ log) s y
  waits_refused e f y same = record {
    size = rw same h.size;
    each = λ i some. wait_refused e y i f same (h.each i some);
  }

  module _ (state : StateAlong log s) {act p m : ℕ} (allowed : Allowed s act p m) {s' : State} (changed : Changed s act p m s') where
    kind : Kind m act (entry_of s p).location (entry_of s' p).location
    kind = turn_kind changed allowed.turn

    part : (i : ℕ) → 1 ≤ i → Part act p m i (trying (entry_of s i).location) (trying (entry_of s' i).location)
    part i some = if_eq i p
        (λ e. rw e (own_part p kind))
        (λ n. rw (changed.others_stay i some n) (other_part act p m i _ n))

    pub waits_accepted : WaitsAlong (attempt act p m 0 ∷ log) s' (accepted_counted s x act p m)
    waits_accepted =
        let y = accepted_counted s x act p m in
        let w = waiting state.guarded.reached.sound allowed.turn x h.size in
        let told = subst (λ (d : ℕ). Waiting s act p d x y) (unused_told state m) w in
        let fits : unused_after log m + s.clock ≤ m = omega (arith, unused_told state m, unused_fits s m allowed.forward) in
        record {
          size = w.size_stays ∙ h.size;
          each = λ i some. wait_accepted log s' i some changed.clock_is fits told (part i some) (h.each i some);
        }

    -- the wait that an accepted crit ends, told by the summary and by the log, is no more than all time since the try
    pub wait_before : act ≡ crit_act → (wait_of s x p m ≡ wait_after log p m) × (last_try p log + wait_after log p m ≤ m)
    wait_before e =
        let some = turn_some allowed.turn (omega arith) in
        let told = h.each p some in
        let w = told_waited told (now_told told (record { from = some; at = crit_tries kind e })) in
        (rw (w.is, unused_told state m), at_entry state w m allowed.forward)
