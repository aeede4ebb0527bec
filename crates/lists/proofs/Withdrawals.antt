-- Calls that withdraw: a try that is taken back; past the bound all have withdrawn, and where nobody does a span stays within it; and the
-- examples. Assumes nothing.
use Prim.Native.Nat.{ℕ, zero, suc, ◌+◌}
use mathlib.Core.Path.{◌≡◌, refl, sym, ap, subst, ◌∙◌}
use mathlib.Core.Logic.{◌⊎◌, inl, inr, ⊎_elim}
use mathlib.Core.List.{List, [], ◌∷◌, ◌++◌, append-nil}
use native.Mathlib.Omega.{arith}
use Rattle.model.specs.Types.{State}
use Rattle.model.specs.Types.{Outcome}
use Rattle.model.specs.Acts.{withdraw_act, try_act, leaves}
use Rattle.model.specs.States.{limits_in, own_stand, limits_stand, greatest, limit_at, entries_sound, sound_of, entry_of}
use Rattle.model.specs.Actions.{transition_of, effect}
use Rattle.model.specs.Answers.{first_by, first_deadline, critical_by, critical_of, step_of, fresh_of}
use Rattle.model.specs.Facts.{Accepted, IsFresh, IsCritical}
use Rattle.model.specs.Folds.{end_by, results_by}
use Rattle.model.specs.Calls.{Call, call_of, outcome_of, table_of, run_of}
use Rattle.lists.specs.Demand3.{InSpan, Withdraws, NotWithdrawn}
use Rattle.lists.specs.Withdrawals.{CallsTakenBack, HasWithdrawn, PastBoundAllWithdrew, OwedIfNobodyWithdraws}
use Rattle.lists.specs.Withdrawals.{example_step, example_table, both_try, both_withdraw, comes_back, AllWithdraw, OneStays, ComingBack}
use Rattle.model.proofs.Tests.{if_eq}
use Rattle.theory.specs.Acceptance.{ClockOnly}
use Rattle.theory.proofs.Lowest.{accepted_tells}
use Rattle.theory.proofs.TakenBack.{withdraw_undoes_try}
use Rattle.lists.proofs.Calls.{accepted_call}
use Rattle.lists.proofs.Demand3.{every_list}

-- A try that is taken back

pub calls_taken_back : CallsTakenBack
calls_taken_back s size d e try withdraw same now a b =
    let t = accepted_call s d a in
    let u = accepted_call (table_of s d) e b in
    let p = d.process in
    let m = d.time in
    let steps : table_of (table_of s d) e ≡ (step_of (step_of s try_act p m).state withdraw_act p m).state =
    ap (λ (o : Outcome). o.state) u.1
    ∙ (λ i. (step_of (t.1 i).state (withdraw i) (same i) (now i)).state)
    ∙ (λ i. (step_of (step_of s (try i) p m).state withdraw_act p m).state) in
    let tried = subst (λ (act : ℕ). Accepted (step_of s act p m)) try t.0 in
    subst (ClockOnly s m) (sym steps) (withdraw_undoes_try s size p m tried).state

-- Past the bound

-- a call either takes w out of the line or does not
withdraws_or_not : (s : State) (w : ℕ) (d : Call) → Withdraws s w d ⊎ (Withdraws s w d → ⊥)
withdraws_or_not s w d =
    if_eq d.action withdraw_act
    (λ e. if_eq d.process w
    (λ f. if_eq (outcome_of s d).answer.code 0
    (λ a. inl (record { withdraw = e; own = f; accepted = a }))
    (λ n. inr (λ h. n h.accepted)))
    (λ n. inr (λ h. n h.own)))
    (λ n. inr (λ h. n h.withdraw))

has_or_not : (s : State) (w : ℕ) (ds : List Call) → HasWithdrawn s w ds ⊎ NotWithdrawn s w ds
has_or_not s w [] = inr tt
has_or_not s w (d ∷ ds) = ⊎_elim (λ h. inl (inl h))
    (λ n. ⊎_elim (λ h. inl (inr h)) (λ h. inr (n, h)) (has_or_not (table_of s d) w ds))
    (withdraws_or_not s w d)

pub past_bound_all_withdrew : PastBoundAllWithdrew
past_bound_all_withdrew s fresh before during w span past = ⊎_elim (λ h. h)
    (λ n. absurd (omega (
      arith,
      (every_list s fresh (before ++ during)).owed before during [] w (sym (append-nil (before ++ during))) span n,
    )))
    (has_or_not (run_of s before) w during)

-- Where nobody withdraws

-- who does not withdraw in a list does not in a part of it
stays_before : (s : State) (w : ℕ) (ds es : List Call) → NotWithdrawn s w (ds ++ es) → NotWithdrawn s w ds
stays_before s w [] es h = tt
stays_before s w (d ∷ ds) es h = (h.0, stays_before (table_of s d) w ds es h.1)

stays_after : (s : State) (w : ℕ) (ds es : List Call) → NotWithdrawn s w (ds ++ es) → NotWithdrawn (run_of s ds) w es
unfolding end_by
stays_after s w [] es h = h
stays_after s w (d ∷ ds) es h = stays_after (table_of s d) w ds es h.1

pub owed_if_nobody_withdraws : OwedIfNobodyWithdraws
owed_if_nobody_withdraws s fresh ds nobody before during after w e span _ =
    let until = stays_before s w (before ++ during) after (subst (NotWithdrawn s w) e (nobody w)) in
    (every_list s fresh ds).owed before during after w e span (stays_after s w before during until)

-- The examples

example_fresh : IsFresh example_table
unfolding fresh_of limits_stand own_stand limits_in
example_fresh = record { parameters = example_table.parameters; accepted = refl; is = refl }

-- neither process is critical after the two tries, nor after the first
none_after_both : (i : ℕ) → IsCritical (run_of example_table both_try) i → ⊥
unfolding end_by call_of step_of sound_of limits_stand own_stand limits_in entries_sound first_deadline first_by entry_of leaves transition_of effect
    critical_of critical_by limit_at
none_after_both = (accepted_tells (step_of example_table try_act 1 0).state try_act 2 0 refl).none.0 refl

none_after_one : (i : ℕ) → IsCritical (run_of example_table (example_step try_act 1 0 ∷ [])) i → ⊥
unfolding end_by call_of step_of sound_of limits_stand own_stand limits_in entries_sound first_deadline first_by entry_of leaves transition_of effect
    critical_of critical_by limit_at
none_after_one = (accepted_tells example_table try_act 1 0 refl).none.0 refl

pub all_withdraw : AllWithdraw
unfolding end_by results_by call_of step_of sound_of limits_stand own_stand limits_in entries_sound first_deadline first_by entry_of leaves transition_of effect
    critical_of critical_by limit_at greatest
all_withdraw = record {
  fresh = example_fresh;
  accepted = refl;
  clock = refl;
  runs_on = λ owed. omega (
    arith,
    owed both_try both_withdraw [] 1 refl (record {
      trying = record { from = omega arith; at = refl };
      none = none_after_both;
      calls = inr (λ e. omega (arith, e.crit), inr (λ e. omega (arith, e.crit), inl refl));
    }) tt,
  );
}

pub one_stays : OneStays
unfolding end_by results_by call_of step_of sound_of limits_stand own_stand limits_in entries_sound first_deadline first_by entry_of leaves transition_of effect
    critical_of critical_by limit_at
one_stays = record {
  answers = refl;
  span = record {
    trying = record { from = omega arith; at = refl };
    none = none_after_both;
    calls = inr (λ e. omega (arith, e.crit), inl refl);
  };
  stays = (λ h. omega (arith, h.own), (λ h. omega (arith, h.accepted), tt));
  gone = inl (record { withdraw = refl; own = refl; accepted = refl });
}

-- nobody is let in while process 1 comes and goes
no_entry : (k m : ℕ) (s : State) → InSpan s (comes_back k m)
unfolding comes_back
no_entry zero m s = tt
no_entry (suc k) m s = inr (λ e. omega (arith, e.crit), inr (λ e. omega (arith, e.crit), no_entry k (m + 5) _))

pub coming_back : ComingBack
unfolding comes_back end_by call_of step_of sound_of limits_stand own_stand limits_in entries_sound first_deadline first_by entry_of leaves transition_of effect
    critical_of critical_by limit_at greatest
coming_back = record {
  fresh = example_fresh;
  clock = omega arith;
  still = record { from = omega arith; at = refl };
  gone = inl (record { withdraw = refl; own = refl; accepted = refl });
  runs_on = λ owed. omega (
    arith,
    owed (example_step try_act 1 0 ∷ []) (comes_back 10 0) [] 1 refl
        (record { trying = record { from = omega arith; at = refl }; none = none_after_one; calls = no_entry 10 0 _ })
        (record { from = omega arith; at = refl }),
  );
}
