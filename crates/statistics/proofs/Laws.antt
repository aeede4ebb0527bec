-- What soundness of a summary tells, what the recorded step comes to by the answer of the step, and that an act which it counts can
-- be counted and is counted as in the model. Assumes nothing.
use Rattle.std.proofs.Common.{◌≡◌, ℕ, suc, ◌+◌, ◌<◌, ◌≤◌, true, cond, ◌&&◌, leb, ◌≢◌, List, [], ◌∷◌, get_or, sym, refl, ap}
use Rattle.std.proofs.Common.{◌∙◌, mod-eq_of_lt, arith, le-leb}
use borrow.Author.Tests.{eqb-false}
use Rattle.std.specs.Prelude.{Option, Some, None}
use Rattle.std.specs.List.{list_all}
use Rattle.model.specs.declared.Refusal.{Refusal}
use Rattle.model.specs.declared.Refusal.TheVariants.{NoSummary, SummaryFull}
use Rattle.model.specs.Types.{State}
use Rattle.model.specs.Refusals.{code_of}
use Rattle.model.specs.Types.{Outcome}
use Rattle.model.specs.declared.Counts.{Counts}
use Rattle.model.specs.declared.Statistics.{Statistics}
use Rattle.model.specs.States.{sound_of}
use Rattle.model.specs.Answers.{answers, step_of}
use Rattle.model.specs.Summaries.{counts_sound, waited_sound, statistics_sound, full, one_refused, counts_after}
use Rattle.model.specs.Summaries.{most_acts, accepted_counted, refused_counted, beside, recorded_of}
use Rattle.model.specs.Facts.{Accepted}
use Rattle.theory.specs.Summaries.{HasRoom, RecordedTells}
use Rattle.statistics.specs.Countings.{fault_by, Room, one_more, refused_after, accepted_after}
use Rattle.model.proofs.Soundness.{sound_numbers}
use Rattle.model.proofs.Tests.{by_test}
use Rattle.theory.proofs.Conditions.{turn_named}
use Rattle.theory.proofs.Acceptance.{accepted_iff_allowed}
use Rattle.theory.proofs.Steps.{unsound_iff_one, step_refuses}
use Rattle.theory.proofs.RecordedSteps.{judged, accepted-counted, refused-counted}
use Rattle.theory.proofs.Summaries.{summary_sound_iff_plain, recorded_is_plain}

-- Waits so far

-- all stand just where each does
pub waited_all : (clock : ℕ) (l : List ℕ) → list_all (λ w. leb w clock) l ≡ waited_sound clock l
unfolding waited_sound
waited_all clock [] = refl
waited_all clock (w ∷ ws) = ap (λ b. leb w clock && b) (waited_all clock ws)

-- none is past the clock
pub all_few : (clock : ℕ) (l : List ℕ) → ((k : ℕ) → get_or l k 0 ≤ clock) → waited_sound clock l ≡ true
unfolding waited_sound
all_few clock [] h = refl
all_few clock (w ∷ ws) h = rw (le-leb w clock (h 0)) (all_few clock ws (λ k. h (suc k)))

-- The refusals 2 and 3

abbrev pub fault_of : ℕ → Statistics → Option Refusal
fault_of clock x = fault_by x.counts (waited_sound clock x.waited)

module _ (clock : ℕ) (x : Statistics) where
  pub no_fault_room : fault_of clock x ≡ None → HasRoom clock x
  unfolding statistics_sound
  no_fault_room h =
      by_test (counts_sound x.counts && waited_sound clock x.waited)
      (λ e. by_test (full x.counts)
      (λ f. let z = simp (e, f) at h in absurd (cc))
      (λ f. record { sound = (summary_sound_iff_plain clock x).0 e; not_full = eqb-false _ _ f }))
      (λ e. let z = simp e at h in absurd (cc))

  pub counts_room : HasRoom clock x → Room x.counts
  counts_room h = omega (arith, h.sound.counts, h.not_full)

-- Where there is room no count wraps

one-more : (k : ℕ) → k < most_acts → one_more k ≡ k + 1
one-more k h = mod-eq_of_lt (omega arith)

module _ (k : Counts) where
  pub refused-after : Room k → refused_after k ≡ one_refused k
  refused-after room = rw (one-more k.refused room.refused)

  pub accepted-after : (act wait : ℕ) → Room k → accepted_after k act wait ≡ counts_after k act wait
  accepted-after act wait room =
      rw (one-more k.accepted room.accepted, one-more k.entries room.entries, one-more k.exits room.exits)

-- The recorded step

pub not_one_sound : (s : State) (act p m : ℕ) → (step_of s act p m).answer.code ≢ 1 → sound_of s ≡ true
not_one_sound s act p m n = by_test (sound_of s) (λ e. e) (λ e. absurd (n ((unsound_iff_one s act p m).1 e)))

-- the waits so far have a place for the process of an accepted act
pub accepted_named : (s : State) (act p m : ℕ) → Accepted (step_of s act p m) → p ≤ 96
accepted_named s act p m a =
    let sound = not_one_sound s act p m (omega arith) in
    omega (arith, turn_named ((accepted_iff_allowed s sound act p m).0 a).turn, (sound_numbers s sound).count)

module _ (s : State) (x : Statistics) (act p m : ℕ) where
  -- where 2 or 3 applies, unless 1 does
  pub recorded_fault : (r : Refusal) → fault_of s.clock x ≡ Some r
      → recorded_of s x act p m ≡ beside x (cond (sound_of s) (answers (code_of r) 0 0 s) (answers 1 0 0 s))
  unfolding recorded_of statistics_sound
  recorded_fault r h = by_test (sound_of s)
      (λ e. by_test (counts_sound x.counts && waited_sound s.clock x.waited)
      (λ f. by_test (full x.counts)
      (λ g. let z : r ≡ SummaryFull = let k = simp (f, g) at h in cc in simp (e, f, g, z))
      (λ g. let z = simp (f, g) at h in absurd (cc)))
      (λ f. let z : r ≡ NoSummary = let k = simp f at h in cc in simp (e, f, z)))
      (λ e. simp e)

  module _ (room : HasRoom s.clock x) where
    -- what is given back, by the answer: a summary y beside the outcome o of the step
    module _ {o : Outcome} (e : o ≡ step_of s act p m) where
      tells : RecordedTells s x act p m (recorded_of s x act p m)
      tells = recorded_is_plain s x act p m

      same : o ≡ (recorded_of s x act p m).outcome
      same = e ∙ sym (tells.step room)

      gives : {y : Statistics} → (recorded_of s x act p m).statistics ≡ y → beside y o ≡ recorded_of s x act p m
      gives f = λ i. beside (sym f i) (same i)

      pub gives_unsound : o.answer.code ≡ 1 → beside x o ≡ recorded_of s x act p m
      gives_unsound k = gives (tells.unchanged (omega (arith, rw same at k)) (omega (arith, rw same at k))).2

      pub gives_accepted : Accepted o → {y : Statistics} → y ≡ accepted_counted s x act p m → beside y o ≡ recorded_of s x act p m
      gives_accepted k f = gives (accepted-counted s x act p m (judged s x act p m) (rw same at k) ∙ sym f)

      pub gives_refused : o.answer.code ≢ 0 → o.answer.code ≢ 1 → {y : Statistics} → y ≡ refused_counted x
          → beside y o ≡ recorded_of s x act p m
      gives_refused n k f =
          let h = step_refuses s act p m (not_one_sound s act p m (rw e at k)) (rw e at n) in
          gives (refused-counted s x act p m (judged s x act p m) (rw (tells.step room) h.some) ∙ sym f)
