-- What the calls that are lent only an output give back, from what the functions that they call ensure. Assumes nothing.
use Rattle.std.proofs.Common.{◌≡◌, ℕ, ◌<◌, ◌≤◌, ◌≢◌, List, ◌++◌, length, drop, refl, ap, ◌∙◌, le-ltb, lt-ltb, eq-eqb, ne_eqb}
use Rattle.model.specs.declared.Parameters.{Parameters}
use Rattle.model.specs.declared.Answer.{Answer}
use Rattle.model.specs.Types.{Outcome}
use Rattle.model.specs.Answers.{answer_of, fresh_of}
use Rattle.model.specs.Facts.{Accepted}
use Rattle.model.specs.Summaries.{new_statistics}
use Rattle.layout.specs.Encodings.{table_length, state_numbers, summary_length, statistics_numbers}
use Rattle.layout.specs.Numbers.{IsWhole}
use Rattle.layout.specs.Interface.{lent_gave, lent_fresh, summary_gave, lent_summary}
use Rattle.theory.proofs.Soundness.{fresh_is_plain}
use Rattle.layout.proofs.Lists.{front_over}
use Rattle.layout.proofs.Acts.{lent-gave}
use Rattle.layout.proofs.Encodings.{table-length, summary-length}

-- All that a call gives back is equal where its parts are

summary-gave : {r s : Answer} {t u : List ℕ} → r ≡ s → t ≡ u → summary_gave r t ≡ summary_gave s u
summary-gave r t = λ i. summary_gave (r i) (t i)

-- `fresh`

-- a fresh table has its 96 values of a and its 96 entries
pub fresh_whole : (k : Parameters) → Accepted (fresh_of k) → IsWhole (fresh_of k).state
fresh_whole k h =
    let plain = fresh_is_plain k in
    record {
      limits = ap (λ (q : Parameters). length q.a) (plain.fresh h).parameters_are ∙ (plain.accepted.0 h).limits.size;
      entries = (plain.fresh h).size;
    }

module _ (k : Parameters) (table : List ℕ) {o : Outcome} (e : o ≡ fresh_of k) where
  pub fresh_refused : o.answer.code ≢ 0 → lent_gave o.answer table ≡ lent_fresh k table
  unfolding lent_fresh
  fresh_refused h = rw e (simp (ne_eqb (fresh_of k).answer.code 0 (rw e at h)))

  module _ (h : Accepted o) where
    pub fresh_short : length table < table_length → {r : Answer} → r ≡ answer_of 16 0 0
        → lent_gave r table ≡ lent_fresh k table
    unfolding lent_fresh
    fresh_short short f = rw f (simp (eq-eqb (fresh_of k).answer.code 0 (rw e at h), lt-ltb _ _ short))

    pub fresh_saved : table_length ≤ length table → {new : List ℕ} → new ≡ state_numbers o.state
        → lent_gave o.answer (new ++ drop table_length table) ≡ lent_fresh k table
    unfolding lent_fresh
    fresh_saved fits f =
        let whole = table-length o.state (rw e (fresh_whole k (rw e at h))) in
        lent-gave refl (front_over table_length table f (ap length f ∙ whole))
        ∙ rw e (simp (eq-eqb (fresh_of k).answer.code 0 (rw e at h), le-ltb _ _ fits))

-- `new_summary`

pub summary_short : (summary : List ℕ) → length summary < summary_length → {r : Answer} → r ≡ answer_of 16 0 0
    → summary_gave r summary ≡ lent_summary summary
unfolding lent_summary
summary_short summary k f = rw f (simp (lt-ltb _ _ k))

pub summary_cleared : (summary : List ℕ) → summary_length ≤ length summary → {r : Answer} → r ≡ answer_of 0 0 0
    → {new : List ℕ} → new ≡ statistics_numbers new_statistics
    → summary_gave r (new ++ drop summary_length summary) ≡ lent_summary summary
unfolding lent_summary
summary_cleared summary k f g =
    summary-gave f (front_over summary_length summary g (ap length g ∙ summary-length new_statistics refl)) ∙ simp (le-ltb _ _ k)
