-- Counting an act in the numbers of a summary is counting it in the summary that they tell. Assumes nothing.
use Rattle.std.proofs.Common.{◌≡◌, ℕ, ◌+◌, ◌-◌, ◌^◌, ◌<◌, ◌≤◌, List, [], ◌∷◌, length, get_or, take, drop, set, sym, refl, ap, ◌∙◌}
use Rattle.std.proofs.Common.{mod-eq_of_lt, arith, length-drop, length-set, take-append-drop}
use Rattle.std.proofs.Common.{get_or-drop, take_all}
use Rattle.model.specs.declared.Counts.{Counts}
use Rattle.model.specs.Types.{Process}
use Rattle.model.specs.declared.Statistics.{Statistics}
use Rattle.model.specs.Summaries.{statistics_of, one_refused, counts_after, waited_on, clears, cleared_by, waited_by, refused_counted}
use Rattle.statistics.specs.Countings.{Room, accepted_after}
use Rattle.statistics.specs.Waitings.{longer_by}
use Rattle.statistics.proofs.Laws.{refused-after, accepted-after}
use Rattle.layout.specs.Encodings.{summary_counts, counts_length, refused_place, waited_place, summary_length, statistics_numbers, statistics_in}
use Rattle.layout.specs.Places.{counts_put}
use Rattle.layout.proofs.Numbers.{summary_numbers_told}
use Rattle.layout.proofs.Storing.{counts_stored, waits_stored, wait_stored, refused_stored}
use Rattle.model.proofs.Tests.{by_test}
use Rattle.theory.proofs.Waits.{waited_on_zero}
use Rattle.rules.specs.Judging.{slot_of}
use Rattle.rules.proofs.Slots.{slot_in}
use Rattle.layout.specs.Countings.{wait_in, counts_counted, waited_put, cleared_in, accepted_in, refused_in}

module _ (l : List ℕ) (long : length l ≡ summary_length) where
  abbrev x : Statistics
  x = statistics_in l

  are_numbers : statistics_numbers x ≡ l
  are_numbers = summary_numbers_told l (omega arith)

  pub refused_numbers : Room x.counts → refused_in l ≡ statistics_numbers (refused_counted x)
  unfolding refused_in statistics_in
  refused_numbers room =
      ap (λ (k : Counts). set l refused_place k.refused) (refused-after x.counts room)
      ∙ sym (refused_stored x ∙ ap (λ (k : List ℕ). set k refused_place (one_refused x.counts).refused) are_numbers)

  pub refused_length : length (refused_in l) ≡ summary_length
  unfolding refused_in
  refused_length = simp length-set long

  -- an accepted act of process p with the unused time d
  module _ (act p d : ℕ) (few : p ≤ 96) (fits : waited_by x p + d < 2 ^ 64) where
    own_is : get_or l (waited_place (slot_of p)) 0 ≡ waited_by x p
    unfolding statistics_in
    own_is = ap (λ (i : ℕ). get_or l (waited_place i) 0) (slot_in p few) ∙ sym (get_or-drop counts_length l (p - 1) 0)

    pub wait_is : wait_in l p d ≡ waited_by x p + d
    wait_is = ap (longer_by d) own_is ∙ mod-eq_of_lt fits

    module _ (room : Room x.counts) where
      abbrev counts : Counts
      counts = counts_after x.counts act (waited_by x p + d)

      counts_are : counts_counted l act p d ≡ statistics_numbers (statistics_of counts x.waited)
      unfolding statistics_in
      counts_are =
          let counted = ap (accepted_after x.counts act) wait_is ∙ accepted-after x.counts act (waited_by x p + d) room in
          (λ i. counts_put (sym are_numbers i) (counted i)) ∙ sym (counts_stored x counts)

      pub accepted_numbers : (qs : List Process)
          → accepted_in l qs act p d ≡ statistics_numbers (statistics_of counts (cleared_by act p (waited_on d qs x.waited)))
      unfolding accepted_in
      accepted_numbers qs =
          let y = statistics_of counts (waited_on d qs x.waited) in
          ap (λ (k : List ℕ). cleared_in (waited_put k qs d) act p) counts_are
          ∙ ap (λ (k : List ℕ). cleared_in k act p) (sym (waits_stored (statistics_of counts x.waited) qs d))
          ∙ by_test (clears act)
          (λ e. rw e (ap (λ (i : ℕ). set (statistics_numbers y) (waited_place i) 0) (slot_in p few) ∙ sym (wait_stored y (p - 1) 0)))
          (λ e. rw e)

-- behind the counts stand the waits so far, and no more
pub waits_part : (l : List ℕ) → length l ≡ summary_length → take (summary_length - counts_length) (drop counts_length l) ≡ drop counts_length l
waits_part l long = take_all (summary_length - counts_length) (drop counts_length l) (omega (arith, length-drop counts_length l))

-- other counts leave them
pub waits_kept : (l : List ℕ) (k : Counts) → drop counts_length (counts_put l k) ≡ drop counts_length l
waits_kept [] k = refl
waits_kept (_ ∷ []) k = refl
waits_kept (_ ∷ _ ∷ []) k = refl
waits_kept (_ ∷ _ ∷ _ ∷ []) k = refl
waits_kept (_ ∷ _ ∷ _ ∷ _ ∷ []) k = refl
waits_kept (_ ∷ _ ∷ _ ∷ _ ∷ _ ∷ rest) k = refl

-- the counts that are stored, by what was read and counted
pub counts_told : (l : List ℕ) → length l ≡ summary_length → (act p d : ℕ) {slot waited : ℕ} {k k' : Counts} {new : List ℕ}
    → slot ≡ slot_of p → waited ≡ get_or l (waited_place slot) 0 → k ≡ summary_counts l → k' ≡ accepted_after k act (longer_by d waited)
    → new ≡ counts_put l k' → new ≡ counts_counted l act p d
counts_told l long act p d slot-is waited-is k-is counted put = put ∙ rw (counted, k-is, waited-is, slot-is)

-- where no time is unused they stand
pub waits_rest : (l : List ℕ) (qs : List Process) {d : ℕ} → d ≡ 0 → l ≡ waited_put l qs d
waits_rest l qs e = sym (rw (e, waited_on_zero qs (drop counts_length l)) (take-append-drop counts_length l))
