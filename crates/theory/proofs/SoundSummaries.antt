-- A recorded step leaves a sound summary sound, beside the state that it gives back. Assumes nothing.
use Prim.Native.Nat.{ℕ, ◌-◌, ◌≤◌}
use mathlib.Core.Path.{◌≡◌, refl}
use native.Mathlib.Omega.{arith}
use lib.Dec.{eqb}
use Rattle.model.specs.Types.{State}
use Rattle.model.specs.declared.Statistics.{Statistics}
use Rattle.model.specs.declared.Recorded.{Recorded}
use Rattle.model.specs.Acts.{wait_act, crit_act, exit_act}
use Rattle.model.specs.States.{last_time}
use Rattle.model.specs.Actions.{effect}
use Rattle.model.specs.Answers.{step_of}
use Rattle.model.specs.Summaries.{counts_after, unused_time, waited_on, wait_of, accepted_counted, refused_counted}
use Rattle.theory.specs.Acceptance.{Allowed}
use Rattle.theory.specs.Summaries.{CountsSound, SummarySound, NotFull, SummaryStaysSound}
use Rattle.model.proofs.Tests.{if_eq, by_cond}
use Rattle.theory.proofs.Steps.{stepped, accepted_is}
use Rattle.theory.proofs.Acceptance.{refused_stays}
use Rattle.theory.proofs.RecordedSteps.{Judged, judged, answer_accepted, answer_refused}
use Rattle.theory.proofs.Waits.{unused_fits, waited_most, cleared_most}

module _ (s : State) (x : Statistics) (act p m : ℕ) where
  pub refused_sound : NotFull x → SummarySound s.clock x → SummarySound s.clock (refused_counted x)
  refused_sound room h = record { counts = omega (arith, h.counts); waited = h.waited }

  accepted_counts : (w : ℕ) → w ≤ last_time → NotFull x → CountsSound x.counts → CountsSound (counts_after x.counts act w)
  accepted_counts w within room h = by_cond CountsSound (eqb act crit_act) (λ _. omega arith)
      (λ _. by_cond CountsSound (eqb act exit_act) (λ _. omega arith) (λ _. omega arith))

  -- no wait so far is more than the clock, and the unused time is no more than the clock's advance
  pub accepted_sound : Allowed s act p m → NotFull x → SummarySound s.clock x → SummarySound m (accepted_counted s x act p m)
  unfolding accepted_counted
  accepted_sound allowed room h =
      let qs = s.processes in
      let ws = x.waited in
      let d = unused_time s m in
      let fits = unused_fits s m allowed.forward in
      record {
        counts = accepted_counts (wait_of s x p m) (omega (arith, allowed.within, h.waited (p - 1))) room h.counts;
        waited = λ k. omega (arith, cleared_most act p (waited_on d qs ws) k, waited_most d qs ws k, h.waited k);
      }

  effect_clock : (effect s act p m).clock ≡ m
  unfolding effect
  effect_clock = by_cond (λ (t : State). t.clock ≡ m) (eqb act wait_act) (λ _. refl) (λ _. refl)

  judged_sound : {r : Recorded} → Judged s x act p m r → SummarySound s.clock x
      → SummarySound r.outcome.state.clock r.statistics
  judged_sound (Judged.no_table _) h = h
  judged_sound (Judged.no-summary _ _) h = h
  judged_sound (Judged.filled _ _ _) h = h
  judged_sound (Judged.counted o) h = if_eq (step_of s act p m).answer.code 0
      (λ e. let t = accepted_is (stepped s act p m) e in
      rw (answer_accepted s x act p m e, t.is, effect_clock) (accepted_sound t.allowed o.not_full h))
      (λ n. rw (answer_refused s x act p m n, refused_stays s act p m n) (refused_sound o.not_full h))

pub summary_stays_sound : SummaryStaysSound
summary_stays_sound s x h act p m = judged_sound s x act p m (judged s x act p m) h
