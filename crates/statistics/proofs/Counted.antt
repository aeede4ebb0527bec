-- An accepted act as `record` counts it: what going over the waits so far asks for holds of the state after it, and the summary then is
-- the model's. Assumes nothing.
use Rattle.std.proofs.Common.{◌≡◌, ℕ, ◌+◌, ◌-◌, ◌^◌, ◌<◌, ◌≤◌, true, false, List, length, get_or, set, sym, ap, ◌∙◌, mod-eq_of_lt, arith}
use Rattle.model.specs.Types.{State}
use Rattle.model.specs.declared.Counts.{Counts}
use Rattle.model.specs.declared.Statistics.{Statistics}
use Rattle.model.specs.Stages.{remainder}
use Rattle.model.specs.States.{stage_of, sound_of}
use Rattle.model.specs.Answers.{step_of}
use Rattle.model.specs.Summaries.{statistics_of, counts_after, unused_time, waited_on, clears, cleared_by, waited_by, accepted_counted}
use Rattle.model.specs.Facts.{Accepted}
use Rattle.theory.specs.Acceptance.{Allowed, Changed}
use Rattle.theory.specs.Soundness.{Sound}
use Rattle.theory.specs.Summaries.{HasRoom}
use Rattle.theory.proofs.Acceptance.{accepted_iff_allowed, next_is_changed}
use Rattle.theory.proofs.Entries.{entry_at}
use Rattle.theory.proofs.Soundness.{sound_iff_plain}
use Rattle.theory.proofs.StaysSound.{sound_kept}
use Rattle.theory.proofs.Waits.{waited_on_zero, unused_fits, waited_after_act}
use Rattle.statistics.specs.Waitings.{unused_beside, others_before, may_wait, longer_by, stage_at}
use Rattle.statistics.proofs.Laws.{not_one_sound}
use Rattle.statistics.proofs.Waits.{unused-beside, others-before, may_wait_not}

-- past n a sound state has nobody but in the remainder
pub past_rests : (s : State) → Sound s → (i : ℕ) → s.parameters.n ≤ i → stage_at s.processes i ≡ remainder
past_rests s sound i h = ap stage_of (ap (λ q. q.location) (sym (entry_at s i)) ∙ sound.above (i + 1) (omega arith))

module _ (s : State) (size : length s.processes ≡ 96) (x : Statistics) (room : HasRoom s.clock x)
    (act p m : ℕ) (accepted : Accepted (step_of s act p m)) where
  abbrev s' : State
  s' = (step_of s act p m).state

  sound : sound_of s ≡ true
  sound = not_one_sound s act p m (omega arith)

  allowed : Allowed s act p m
  allowed = (accepted_iff_allowed s sound act p m).0 accepted

  changed : Changed s act p m s'
  changed = next_is_changed s size act p m accepted

  -- What going over the waits so far asks for

  pub sound_after : Sound s'
  sound_after = (sound_iff_plain s').0 (sound_kept s size act p m sound accepted)

  pub few_after : s'.parameters.n ≤ 96
  few_after = sound_after.parameters.count.most

  pub waits_fit : (i : ℕ) → get_or x.waited i 0 + (s'.clock - s.clock) < 2 ^ 64
  waits_fit i = omega (arith, room.sound.waited i, changed.clock_is, allowed.forward, allowed.within)

  wait_fits : waited_by x p + unused_time s m < 2 ^ 64
  wait_fits = omega (arith, room.sound.waited (p - 1), unused_fits s m allowed.forward, allowed.within)

  -- The unused time by what the step gives back

  pub unused_told : {u : ℕ} → u ≡ unused_beside (others_before (step_of s act p m).answer.process s'.processes act p) act s.clock s'.clock
      → u ≡ unused_time s m
  unused_told e =
      e
      ∙ (λ i. unused_beside (others-before s size act p m accepted i) act s.clock (changed.clock_is i))
      ∙ unused-beside s allowed

  -- The summary

  -- the waits so far gone over, over the entries after the act
  pub counted_after : {u : ℕ} {ws : List ℕ} → u ≡ unused_time s m → ws ≡ waited_on u s'.processes x.waited
      → statistics_of (counts_after x.counts act (waited_by x p + u)) (cleared_by act p ws) ≡ accepted_counted s x act p m
  unfolding accepted_counted
  counted_after u-is ws-is =
      let waits = ap (cleared_by act p) (ws-is ∙ ap (λ (d : ℕ). waited_on d s'.processes x.waited) u-is)
      ∙ waited_after_act allowed changed (unused_time s m) x.waited in
      λ i. statistics_of (counts_after x.counts act (waited_by x p + u-is i)) (waits i)

  -- as `record` has it
  module _ {u wait slot : ℕ} {k : Counts} {ws : List ℕ} (u-is : u ≡ unused_time s m) (slot_is : slot ≡ p - 1)
      (wait_is : wait ≡ longer_by u (get_or x.waited slot 0)) (k-is : k ≡ counts_after x.counts act wait)
      (ws-is : ws ≡ waited_on u s'.processes x.waited) where
    wait_exact : wait ≡ waited_by x p + u
    wait_exact =
        wait_is ∙ ap (λ (i : ℕ). longer_by u (get_or x.waited i 0)) slot_is ∙ mod-eq_of_lt (omega (arith, wait_fits, u-is))

    both_are : statistics_of k (cleared_by act p ws) ≡ accepted_counted s x act p m
    both_are =
        ap (λ (c : Counts). statistics_of c (cleared_by act p ws)) (k-is ∙ ap (counts_after x.counts act) wait_exact) ∙ counted_after u-is ws-is

    pub counted_cleared : clears act ≡ true → statistics_of k (set ws slot 0) ≡ accepted_counted s x act p m
    counted_cleared e = ap (λ (i : ℕ). statistics_of k (set ws i 0)) slot_is ∙ sym (rw e) ∙ both_are

    pub counted_kept : clears act ≡ false → statistics_of k ws ≡ accepted_counted s x act p m
    counted_kept e = sym (rw e) ∙ both_are

  -- no time is unused
  pub rest_wait : {slot : ℕ} → slot ≡ p - 1 → get_or x.waited slot 0 ≡ longer_by 0 (get_or x.waited slot 0)
  rest_wait {slot} e =
      let w = get_or x.waited slot 0 in
      let fits : w + 0 < 2 ^ 64 = omega (arith, room.sound.waited slot, allowed.forward, allowed.within) in
      let same : w ≡ w + 0 = omega arith in
      same ∙ sym (mod-eq_of_lt fits)

  pub rest_waits : x.waited ≡ waited_on 0 s'.processes x.waited
  rest_waits = sym (waited_on_zero s'.processes x.waited)

-- once the waits so far are gone over, in y, and `wait` is the one that a crit ends
pub record Grown (s s' : State) (x : Statistics) (m slot : ℕ) (y : Statistics) (wait : ℕ) : Type 0 where
  pub unused : ℕ
  pub unused_is : unused ≡ unused_time s m
  pub wait_is : wait ≡ longer_by unused (get_or x.waited slot 0)
  pub waits : y.waited ≡ waited_on unused s'.processes x.waited

module _ (s : State) (size : length s.processes ≡ 96) (x : Statistics) (room : HasRoom s.clock x)
    (act p m : ℕ) (accepted : Accepted (step_of s act p m)) where
  pub grown_by : {u slot wait : ℕ} {ws : List ℕ} {y : Statistics}
      → u ≡ unused_beside (others_before (step_of s act p m).answer.process (step_of s act p m).state.processes act p) act s.clock
      (step_of s act p m).state.clock
      → ws ≡ waited_on u (step_of s act p m).state.processes x.waited → wait ≡ longer_by u (get_or x.waited slot 0) → y ≡ statistics_of x.counts ws
      → Grown s (step_of s act p m).state x m slot y wait
  grown_by {u} told on wait-is y-is = record {
    unused = u;
    unused_is = unused_told s size x room act p m accepted told;
    wait_is = wait-is;
    waits = ap (λ (y : Statistics). y.waited) y-is ∙ on;
  }

  pub grown_not : {slot wait : ℕ} {y : Statistics} → may_wait (step_of s act p m).answer.process act s.clock m ≡ false → slot ≡ p - 1
      → wait ≡ get_or x.waited slot 0 → y ≡ x → Grown s (step_of s act p m).state x m slot y wait
  grown_not not slot-is wait-is y-is = record {
    unused = 0;
    unused_is = sym (may_wait_not s size act p m accepted not);
    wait_is = wait-is ∙ rest_wait s size x room act p m accepted slot-is;
    waits = ap (λ (y : Statistics). y.waited) y-is ∙ rest_waits s size x room act p m accepted;
  }
