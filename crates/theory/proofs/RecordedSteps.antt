-- What a recorded step gives, and why: 1, 2 or 3 with the summary as it was, or what the step gives, counted. `recorded_of` is taken
-- apart here for all of the theory. Assumes nothing.
use Prim.Native.Nat.{ℕ, ◌+◌, ◌≤◌}
use mathlib.Core.Path.{◌≡◌}
use mathlib.Core.Logic.{◌≢◌}
use mathlib.Core.Bool.{true, false, not}
use native.Mathlib.Omega.{arith}
use borrow.Author.Tests.{eqb-true, eqb-false, ne_eqb, not-true, not-false}
use Rattle.model.specs.Types.{State}
use Rattle.model.specs.declared.Statistics.{Statistics}
use Rattle.model.specs.declared.Recorded.{Recorded}
use Rattle.model.specs.States.{sound_of}
use Rattle.model.specs.Answers.{answers, step_of}
use Rattle.model.specs.Summaries.{most_acts, statistics_sound, full, accepted_counted, refused_counted, answer_counted, beside, counting, recorded_of}
use Rattle.theory.specs.Summaries.{NotFull}
use Rattle.model.proofs.Tests.{by_cond}

module _ (s : State) (x : Statistics) (act p m : ℕ) where
  -- none of 1, 2 and 3 applies
  pub record Open : Type 0 where
    pub sound : sound_of s ≡ true
    pub summary : statistics_sound s.clock x ≡ true
    pub not_full : NotFull x

  pub data Judged : Recorded → Type 0 where
    no_table : sound_of s ≡ false → Judged (beside x (answers 1 0 0 s))
    no-summary : sound_of s ≡ true → statistics_sound s.clock x ≡ false → Judged (beside x (answers 2 0 0 s))
    filled : sound_of s ≡ true → statistics_sound s.clock x ≡ true → x.counts.accepted + x.counts.refused ≡ most_acts
        → Judged (beside x (answers 3 0 0 s))
    counted : Open → Judged (counting s x act p m (step_of s act p m))

  pub judged : Judged (recorded_of s x act p m)
  unfolding recorded_of
  judged =
      by_cond Judged (not (sound_of s)) (λ e. no_table (not-true _ e))
      (λ g₁. by_cond Judged (not (statistics_sound s.clock x)) (λ e. no-summary (not-false _ g₁) (not-true _ e))
      (λ g₂. by_cond Judged (full x.counts) (λ e. filled (not-false _ g₁) (not-false _ g₂) (eqb-true _ _ e))
      (λ g₃. counted (record { sound = not-false _ g₁; summary = not-false _ g₂; not_full = eqb-false _ _ g₃ }))))

  pub unsound_recorded : sound_of s ≡ false → recorded_of s x act p m ≡ beside x (answers 1 0 0 s)
  unfolding recorded_of
  unsound_recorded e = simp e

  pub summary_refused : sound_of s ≡ true → statistics_sound s.clock x ≡ false
      → recorded_of s x act p m ≡ beside x (answers 2 0 0 s)
  unfolding recorded_of
  summary_refused e f = simp (e, f)

  -- What is counted, by the number of the answer

  pub answer_accepted : {code : ℕ} → code ≡ 0 → answer_counted s x code act p m ≡ accepted_counted s x act p m
  unfolding answer_counted
  answer_accepted e = rw e

  pub answer_refused : {code : ℕ} → code ≢ 0 → answer_counted s x code act p m ≡ refused_counted x
  unfolding answer_counted
  answer_refused {code} n = rw (ne_eqb code 0 n)

  -- 0 and the codes from 4 on are those of a step, so it was counted

  pub accepted-counted : {r : Recorded} → Judged r → r.outcome.answer.code ≡ 0 → r.statistics ≡ accepted_counted s x act p m
  accepted-counted (no_table _) e = absurd (omega arith)
  accepted-counted (no-summary _ _) e = absurd (omega arith)
  accepted-counted (filled _ _ _) e = absurd (omega arith)
  accepted-counted (counted _) e = answer_accepted e

  pub refused-counted : {r : Recorded} → Judged r → 4 ≤ r.outcome.answer.code → r.statistics ≡ refused_counted x
  refused-counted (no_table _) h = absurd (omega arith)
  refused-counted (no-summary _ _) h = absurd (omega arith)
  refused-counted (filled _ _ _) h = absurd (omega arith)
  refused-counted (counted _) h = answer_refused (omega arith)
