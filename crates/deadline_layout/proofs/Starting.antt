-- What the call for a fresh deadline table gives back, which is lent only an output, from what the functions that it calls ensure. Assumes nothing.
use Prim.Native.Nat.{ℕ, ◌≤◌, ◌<◌}
use mathlib.Core.Path.{◌≡◌, refl, ap, ◌∙◌}
use mathlib.Core.Logic.{◌≢◌}
use mathlib.Core.Bool.{not}
use mathlib.Core.List.{List, ◌++◌}
use lib.ListN.{length, drop}
use borrow.Author.Tests.{eq-eqb, ne_eqb, lt-ltb, le-ltb, not-false}
use Rattle.model.specs.declared.Parameters.{Parameters}
use Rattle.model.specs.declared.Answer.{Answer}
use Rattle.model.specs.States.{count_stands, limits_stand}
use Rattle.model.specs.Answers.{answer_of}
use Rattle.model.proofs.OwnLimits.{limits_parts}
use Rattle.model.proofs.Tests.{by_cond}
use Rattle.layout.specs.Interface.{lent_gave}
use Rattle.layout.proofs.Lists.{front_over}
use Rattle.layout.proofs.Acts.{lent-gave}
use Rattle.deadlines.specs.Types.{DeadlineOutcome}
use Rattle.deadlines.specs.Deadlines.{fresh_with}
use Rattle.deadline_layout.specs.Encodings.{deadline_length, state_numbers_with}
use Rattle.deadline_layout.specs.Interface.{lent_fresh_with}
use Rattle.deadline_layout.specs.Numbers.{IsWholeWith}
use Rattle.deadline_layout.proofs.Encodings.{table-length}

-- a fresh state of deadlines has 96 values of a and 96 entries, and so has that of a refusal
pub fresh_whole : (k : Parameters) → IsWholeWith (fresh_with k).state
unfolding fresh_with
fresh_whole k =
    let P : DeadlineOutcome → Type 0 = λ o. IsWholeWith o.state in
    by_cond P (not (count_stands k.n)) (λ _. record { limits = refl; entries = refl })
    (λ _. by_cond P (not (limits_stand k)) (λ _. record { limits = refl; entries = refl })
    (λ e. record { limits = (limits_parts k (not-false _ e)).size; entries = refl }))

module _ (k : Parameters) (table : List ℕ) {o : DeadlineOutcome} (e : o ≡ fresh_with k) where
  pub fresh_refused : o.answer.code ≢ 0 → lent_gave o.answer table ≡ lent_fresh_with k table
  unfolding lent_fresh_with
  fresh_refused h = rw e (simp (ne_eqb (fresh_with k).answer.code 0 (rw e at h)))

  module _ (h : o.answer.code ≡ 0) where
    pub fresh_short : length table < deadline_length → {r : Answer} → r ≡ answer_of 16 0 0 → lent_gave r table ≡ lent_fresh_with k table
    unfolding lent_fresh_with
    fresh_short short f = rw f (simp (eq-eqb (fresh_with k).answer.code 0 (rw e at h), lt-ltb _ _ short))

    pub fresh_saved : deadline_length ≤ length table → {new : List ℕ} → new ≡ state_numbers_with o.state
        → lent_gave o.answer (new ++ drop deadline_length table) ≡ lent_fresh_with k table
    unfolding lent_fresh_with
    fresh_saved fits f =
        lent-gave refl (front_over deadline_length table f (ap length f ∙ table-length o.state (rw e (fresh_whole k))))
        ∙ rw e (simp (eq-eqb (fresh_with k).answer.code 0 (rw e at h), le-ltb _ _ fits))
