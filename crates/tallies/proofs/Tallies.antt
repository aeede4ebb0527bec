-- The tally: what holds of the table and the summary along a list of recorded steps, beside the log of the acts and their answers.
-- Assumes nothing.
use Prim.Native.Nat.{ℕ, ◌+◌, ◌-◌, ◌≤◌, ◌<◌}
use mathlib.Core.Path.{◌≡◌, refl, sym, ap, subst, ◌∙◌}
use mathlib.Core.Bool.{true}
use mathlib.Core.List.{List, [], ◌∷◌, map}
use native.Mathlib.Omega.{arith}
use lib.ListN.{length}
use borrow.Author.Tests.{ne_eqb}
use Rattle.model.specs.Types.{Process}
use Rattle.model.specs.Types.{State}
use Rattle.model.specs.Types.{Outcome}
use Rattle.model.specs.declared.Statistics.{Statistics}
use Rattle.model.specs.declared.Recorded.{Recorded}
use Rattle.model.specs.Texts.{Event}
use Rattle.model.specs.Acts.{crit_act}
use Rattle.model.specs.States.{sound_of}
use Rattle.model.specs.Answers.{step_of}
use Rattle.model.specs.Facts.{IsFresh}
use Rattle.model.specs.Folds.{end_by, results_by, log_by}
use Rattle.model.specs.Summaries.{new_statistics, code_of, wait_of, accepted_counted, refused_counted, answer_counted}
use Rattle.model.specs.Tallies.{Attempt, attempt, attempted, count_of, wait_after, longest_wait, last_try, longest_passage, critical_count}
use Rattle.theory.specs.Acceptance.{Allowed, Changed}
use Rattle.theory.specs.Summaries.{SummarySound, NotFull}
use Rattle.tallies.specs.Tallies.{record_next, record_all, records_of, StateTold, WaitsTold, Tallied, start_of, EveryTally}
use Rattle.model.proofs.Tests.{if_eq, clash}
use Rattle.theory.proofs.Soundness.{sound_iff_plain}
use Rattle.theory.proofs.StaysSound.{sound_kept}
use Rattle.theory.proofs.Acceptance.{accepted_iff_allowed, next_is_changed, refused_stays}
use Rattle.theory.proofs.Entries.{same_at, entry_at}
use Rattle.theory.proofs.Conditions.{turn_named}
use Rattle.theory.proofs.Steps.{Refuses, step_refuses}
use Rattle.theory.proofs.RecordedSteps.{Judged, judged, answer_accepted, answer_refused}
use Rattle.theory.proofs.Summaries.{summary_sound_iff_plain}
use Rattle.theory.proofs.SoundSummaries.{refused_sound, accepted_sound}
use Rattle.lists.proofs.Reached.{fresh_plain}
use Rattle.tallies.proofs.CountLaws.{count_idle}
use Rattle.tallies.proofs.ActKinds.{turn_kind, next_count}
use Rattle.tallies.proofs.States.{StateAlong, state_start, state_refused, state_accepted}
use Rattle.tallies.proofs.Waits.{told_waited, told_rested, now_told, at_entry}
use Rattle.tallies.proofs.Waits.{WaitsAlong, waits_start, waits_refused, waits_accepted, wait_before}
use Rattle.tallies.proofs.Countings.{Counted, filled_counted, refused-counted, accepted_balance, accepted-counted}

-- The invariant

-- after the steps of a log, with the table s and the summary x; the first two facts keep the answers 1 and 2 away
pub record Along (log : List Attempt) (s : State) (x : Statistics) : Type 0 where
  pub sound : sound_of s ≡ true
  pub summary : SummarySound s.clock x
  pub state : StateAlong log s
  pub waits : WaitsAlong log s x
  pub counted : Counted log x
  pub balance : x.counts.entries ≡ x.counts.exits + critical_count s.processes

-- A step of the list

module _ {log : List Attempt} {s : State} {x : Statistics} (along : Along log s x) (act p m : ℕ) where
  along_filled : Along (attempt act p m 3 ∷ log) s x
  along_filled = record {
    sound = along.sound;
    summary = along.summary;
    state = state_refused along.state (attempt act p m 3) refl;
    waits = waits_refused along.waits (attempt act p m 3) refl x refl;
    counted = filled_counted act p m along.counted;
    balance = along.balance;
  }

  along_refused : (code : ℕ) → NotFull x → Refuses code → Along (attempt act p m code ∷ log) s (refused_counted x)
  along_refused code room h =
      let f = ne_eqb code 0 (omega arith) in
      record {
        sound = along.sound;
        summary = refused_sound s x act p m room along.summary;
        state = state_refused along.state (attempt act p m code) f;
        waits = waits_refused along.waits (attempt act p m code) f (refused_counted x) refl;
        counted = refused-counted act p m h along.counted;
        balance = along.balance;
      }

  module _ {s' : State} (allowed : Allowed s act p m) (changed : Changed s act p m s') where
    -- the process has an entry
    has_place : p - 1 < length s.processes
    has_place =
        let r = along.state.guarded.reached in
        omega (arith, r.size, r.sound.parameters.count.most, turn_named allowed.turn)

    crit_wait : act ≡ crit_act → (wait_of s x p m ≡ wait_after log p m) × (last_try p log + wait_after log p m ≤ m)
    crit_wait = wait_before along.waits along.state allowed changed

    along_accepted : NotFull x → sound_of s' ≡ true → Along (attempt act p m 0 ∷ log) s' (accepted_counted s x act p m)
    along_accepted room sound =
        let kind = turn_kind changed allowed.turn in
        record {
          sound = sound;
          summary = rw changed.clock_is (accepted_sound s x act p m allowed room along.summary);
          state = state_accepted along.state allowed changed;
          waits = waits_accepted along.waits along.state allowed changed;
          counted = accepted-counted s x p m log kind crit_wait along.counted;
          balance = accepted_balance s x p m _ _ kind (next_count changed has_place) along.balance;
        }

  -- after a step with the outcome o and the summary y
  abbrev pub Step : Statistics → Outcome → Type 0
  Step y o = Along (attempt act p m o.answer.code ∷ log) o.state y

  along_step : NotFull x → Step (answer_counted s x (step_of s act p m).answer.code act p m) (step_of s act p m)
  along_step room = if_eq (step_of s act p m).answer.code 0
      (λ e. let size = along.state.guarded.reached.size in
      rw (answer_accepted s x act p m e)
      (subst (λ (code : ℕ). Along (attempt act p m code ∷ log) (step_of s act p m).state (accepted_counted s x act p m)) (sym e)
      (along_accepted ((accepted_iff_allowed s along.sound act p m).0 e) (next_is_changed s size act p m e)
      room (sound_kept s size act p m along.sound e))))
      (λ n. rw (answer_refused s x act p m n, refused_stays s act p m n)
      (along_refused _ room (step_refuses s act p m along.sound n)))

  pub along_judged : {r : Recorded} → Judged s x act p m r → Step r.statistics r.outcome
  along_judged (Judged.no_table e) = clash along.sound e
  along_judged (Judged.no-summary _ e) = clash ((summary_sound_iff_plain s.clock x).1 along.summary) e
  along_judged (Judged.filled _ _ _) = along_filled
  along_judged (Judged.counted o) = along_step o.not_full

  -- What a recorded step that is accepted was

  pub recorded_allowed : {r : Recorded} → Judged s x act p m r → r.outcome.answer.code ≡ 0 → Allowed s act p m
  recorded_allowed (Judged.no_table _) e = absurd (omega arith)
  recorded_allowed (Judged.no-summary _ _) e = absurd (omega arith)
  recorded_allowed (Judged.filled _ _ _) e = absurd (omega arith)
  recorded_allowed (Judged.counted _) e = (accepted_iff_allowed s along.sound act p m).0 e

  pub recorded_wait : {r : Recorded} → Judged s x act p m r → r.outcome.answer.code ≡ 0 → act ≡ crit_act
      → wait_of s x p m ≡ wait_after log p m
  recorded_wait (Judged.no_table _) e crit = absurd (omega arith)
  recorded_wait (Judged.no-summary _ _) e crit = absurd (omega arith)
  recorded_wait (Judged.filled _ _ _) e crit = absurd (omega arith)
  recorded_wait (Judged.counted _) e crit =
      (crit_wait ((accepted_iff_allowed s along.sound act p m).0 e) (next_is_changed s along.state.guarded.reached.size act p m e) crit).0

  -- Its clock

  pub recorded_clock : {r : Recorded} → Judged s x act p m r → r.outcome.answer.code ≡ 0 → r.outcome.state.clock ≡ m
  recorded_clock (Judged.no_table _) e = absurd (omega arith)
  recorded_clock (Judged.no-summary _ _) e = absurd (omega arith)
  recorded_clock (Judged.filled _ _ _) e = absurd (omega arith)
  recorded_clock (Judged.counted _) e = (next_is_changed s along.state.guarded.reached.size act p m e).clock_is

  pub recorded_later : {r : Recorded} → Judged s x act p m r → s.clock ≤ r.outcome.state.clock
  recorded_later (Judged.no_table _) = omega arith
  recorded_later (Judged.no-summary _ _) = omega arith
  recorded_later (Judged.filled _ _ _) = omega arith
  recorded_later (Judged.counted o) = if_eq (step_of s act p m).answer.code 0
      (λ e. rw (recorded_clock (Judged.counted o) e) (recorded_allowed (Judged.counted o) e).forward)
      (λ n. rw (refused_stays s act p m n) (omega arith))

-- The list

along_all : (log : List Attempt) (r : Recorded) (es : List Event) → Along log r.outcome.state r.statistics
    → Along (log_by attempted log es (map code_of (records_of r es))) (record_all r es).outcome.state (record_all r es).statistics
unfolding log_by results_by end_by
along_all log r [] h = h
along_all log r (e ∷ es) h = along_all (attempted e (code_of (record_next r e)) ∷ log) (record_next r e) es
    (along_judged h e.action e.process e.time
    (judged r.outcome.state r.statistics e.action e.process e.time))

pub along_start : {s : State} → IsFresh s → Along [] s new_statistics
unfolding count_of longest_wait longest_passage
along_start {s} f =
    let state = state_start f in
    record {
      sound = (sound_iff_plain s).1 state.guarded.reached.sound;
      summary = record { counts = omega arith; waited = λ i. omega (arith, same_at {A = ℕ} 96 i 0) };
      state = state;
      waits = waits_start f;
      counted = omega arith;
      balance = omega (
        arith,
        count_idle s.processes (λ i. ap (λ (q : Process). q.location) (sym (entry_at s i)) ∙ (fresh_plain f).all (i + 1)),
      );
    }

-- What it tells

module _ {log : List Attempt} {s : State} {x : Statistics} (h : Along log s x) where
  along_state : StateTold log s
  along_state = record {
    clock = h.state.clock;
    critical = h.state.critical;
    trying = λ i some. let told = h.waits.each i some in (now_told told, λ e. (told_waited told e).now);
  }

  along_waits : WaitsTold log x
  along_waits = record {
    trying = λ i some e. (told_waited (h.waits.each i some) e).is;
    others = λ i some e. (told_rested (h.waits.each i some) e).is;
    so_far = λ i some e. rw (← h.state.clock) (told_waited (h.waits.each i some) e).within;
    at_entry = λ i m some e forward. at_entry h.state (told_waited (h.waits.each i some) e) m (rw h.state.clock forward);
    longest = h.counted.within;
  }

along_tallied : {log : List Attempt} {r : Recorded} → Along log r.outcome.state r.statistics → Tallied log r
along_tallied h = record {
  counts = λ i. record {
    accepted = h.counted.accepted i;
    refused = h.counted.refused i;
    entries = h.counted.entries i;
    exits = h.counted.exits i;
    longest = h.counted.longest i;
  };
  state = along_state h;
  waits = along_waits h;
  sound = h.summary;
  balance = h.balance;
}

pub every_tally : EveryTally
every_tally s f es = along_tallied (along_all [] (start_of s) es (along_start f))
