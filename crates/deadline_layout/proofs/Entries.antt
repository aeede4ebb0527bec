-- The numbers of the entries of a deadline table, one entry after the other: which entry of the state each tells. Above n, entries tell sound ones
-- just where all their numbers are 0. Assumes nothing.
use Prim.Native.Nat.{ℕ, zero, suc, ◌+◌, ◌*◌, ◌-◌, ◌≤◌, ◌<◌}
use mathlib.Core.Path.{◌≡◌, refl, sym, ap, ◌∙◌}
use mathlib.Core.Logic.{◌≢◌}
use mathlib.Core.Bool.{Bool, true, false, ◌&&◌, and-false, and-true, and_assoc}
use mathlib.Core.List.{List, [], ◌∷◌}
use native.Mathlib.Omega.{arith}
use lib.ListN.{length, get_or, drop, length-drop}
use lib.Seq.{get_or-take, get_or-drop, drop-drop}
use lib.Dec.{eqb}
use borrow.Author.Tests.{lt-leb, ne_eqb}
use Rattle.model.specs.Stages.{remainder, testing, setting, checking, entering, critical, resetting}
use Rattle.model.proofs.Tests.{by_cond, if_eq, and_true_iff}
use Rattle.model.specs.States.{limit_at}
use Rattle.values.specs.Bits.{are_zero}
use Rattle.layout.specs.Encodings.{limits_place, limit_place, header_length, limits_told}
use Rattle.layout.proofs.Entries.{regroup}
use Rattle.deadlines.specs.Types.{DeadlineLocation}
use Rattle.deadlines.specs.Types.{DeadlineProcess}
use Rattle.deadlines.specs.Types.{DeadlineState}
use Rattle.deadlines.specs.Deadlines.{stage_with, deadline_at, entry_with, entry_sound_with, entries_sound_with}
use Rattle.deadline_layout.specs.Encodings.{deadline_stride, deadline_length, stage_place_with, first_place, last_place, tells_times, are_deadlines}
use Rattle.deadline_layout.specs.Encodings.{deadlines_in, state_with_in}
use Rattle.deadline_layout.specs.Places.{tells_at, location_in, entries_from, entries_told, first_entries}
use Rattle.deadline_layout.proofs.Numbers.{Told, entry_told, length_told, told_at}
use Rattle.deadline_layout.proofs.Looks.{still}
use Rattle.deadline_layout.proofs.Turns.{three_at}

-- the a of entry i, which is that of process k
pub limit-at : (l : List ℕ) (k i : ℕ) → i ≡ k - 1 → i < 96 → get_or l (limit_place i) 0 ≡ limit_at (limits_told l) k
unfolding limit_at
limit-at l k i e h =
    sym (get_or-take 96 (drop limits_place l) i 0 h ∙ get_or-drop limits_place l i 0) ∙ ap (λ (j : ℕ). get_or (limits_told l) j 0) e

-- the entries that are left after i
three_more : (i : ℕ) → deadline_stride * suc i ≡ suc (suc (suc (deadline_stride * i)))
three_more i = omega arith

told_drop : (i : ℕ) (l : List ℕ) → drop i (deadlines_in l) ≡ deadlines_in (drop (deadline_stride * i) l)
unfolding deadlines_in
told_drop zero l = refl
told_drop (suc i) [] = rw (three_more i)
told_drop (suc i) (x ∷ []) = rw (three_more i)
told_drop (suc i) (x ∷ y ∷ []) = rw (three_more i)
told_drop (suc i) (x ∷ y ∷ z ∷ l) = rw (three_more i) (told_drop i l)

module _ (l : List ℕ) (long : length l ≡ deadline_length) where
  -- the numbers of entry i, and those of the entries after it
  three_in : (i : ℕ) → i < 96
      → entries_from l i ≡ get_or l (stage_place_with i) 0 ∷ get_or l (first_place i) 0 ∷ get_or l (last_place i) 0 ∷ entries_from l (i + 1)
  three_in i more =
      let e : stage_place_with (i + 1) ≡ stage_place_with i + 3 = omega arith in
      rw e (three_at l (stage_place_with i) 0 (omega arith))

  -- which entry they tell
  pub entry_at : (i : ℕ) → i < 96 → (d : DeadlineProcess) → get_or (state_with_in l).processes i d ≡ entry_with (location_in l i)
  unfolding state_with_in
  entry_at i more d =
      told_at i (drop header_length l) d (omega (arith, length-drop header_length l))
      ∙ (λ j. entry_with (deadline_at (get_or-drop header_length l (deadline_stride * i) 0 j) (behind 1 (first_place i) (omega arith) j)
      (behind 2 (last_place i) (omega arith) j)))
    where
      behind : (k place : ℕ) → header_length + (deadline_stride * i + k) ≡ place
          → get_or (drop header_length l) (deadline_stride * i + k) 0 ≡ get_or l place 0
      behind k place e = get_or-drop header_length l (deadline_stride * i + k) 0 ∙ ap (λ (j : ℕ). get_or l j 0) e

  pub entries_size : length (state_with_in l).processes ≡ 96
  unfolding state_with_in
  entries_size = length_told 96 (drop header_length l) (length-drop header_length l ∙ omega arith)

  pub next_told : (i : ℕ) → i < 96 → are_deadlines (entries_from l i) ≡ tells_at l i && are_deadlines (entries_from l (i + 1))
  unfolding are_deadlines
  next_told i more = rw (three_in i more)

  -- where all of them tell, each does
  left_told : (i : ℕ) → i ≤ 96 → entries_told l ≡ true → are_deadlines (entries_from l i) ≡ true
  left_told zero h e = e
  left_told (suc i) h e =
      let f : suc i ≡ i + 1 = omega arith in
      rw f ((and_true_iff (tells_at l i) _).0 (sym (next_told i (omega arith)) ∙ left_told i (omega arith) e)).1

  pub each_told : (i : ℕ) → i < 96 → entries_told l ≡ true → Told (get_or l (stage_place_with i) 0) (get_or l (first_place i) 0) (get_or l (last_place i) 0)
  each_told i more e = entry_told _ _ _ ((and_true_iff (tells_at l i) _).0 (sym (next_told i more) ∙ left_told i (omega arith) e)).0

  -- the next of the first entries
  pub first_next : (j i : ℕ) → i < 96
      → first_entries (suc j) (entries_from l i)
      ≡ get_or l (stage_place_with i) 0 ∷ get_or l (first_place i) 0 ∷ get_or l (last_place i) 0 ∷ first_entries j (entries_from l (i + 1))
  first_next j i more = rw (three_in i more, three_more j)

-- Above n

-- no other stage than the remainder's tells the remainder
not_remainder : (stage f l : ℕ) → stage ≢ remainder → eqb (stage_with (deadline_at stage f l)) remainder ≡ false
not_remainder stage f l n =
    let P : DeadlineLocation → Type 0 = λ q. eqb (stage_with q) remainder ≡ false in
    simp (ne_eqb stage remainder n)
    (by_cond P (eqb stage testing) (λ _. refl)
    (λ _. by_cond P (eqb stage setting) (λ _. refl)
    (λ _. by_cond P (eqb stage checking) (λ _. refl)
    (λ _. by_cond P (eqb stage entering) (λ _. refl)
    (λ _. by_cond P (eqb stage critical) (λ _. refl)
    (λ _. by_cond P (eqb stage resetting) (λ _. refl) (λ _. refl)))))))

module _ (d : DeadlineState) where
  -- there an entry is sound just where it is in the remainder
  above_is_zero : (k stage f l : ℕ) → d.parameters.n < k
      → (tells_times stage f l && entry_sound_with d k (entry_with (deadline_at stage f l))) ≡ eqb stage 0 && eqb f 0 && eqb l 0
  above_is_zero k stage f l h =
      if_eq stage 0
      (λ e. rw e (ap (λ (u : Bool). u && entry_sound_with d k (entry_with (deadline_at 0 f l))) (still f l) ∙ rw (lt-leb k d.parameters.n h)
      (and-true _)))
      (λ e. ap (λ (u : Bool). tells_times stage f l && u) (above_sound ∙ not_remainder stage f l e) ∙ and-false (tells_times stage f l)
      ∙ sym (rw (ne_eqb stage 0 e)))
    where
      above_sound : entry_sound_with d k (entry_with (deadline_at stage f l)) ≡ eqb (stage_with (deadline_at stage f l)) remainder
      above_sound = rw (lt-leb k d.parameters.n h)

  pub above_are_zero : (m k : ℕ) (l : List ℕ) → length l ≡ deadline_stride * m → d.parameters.n < k
      → (are_deadlines l && entries_sound_with d k (deadlines_in l)) ≡ are_zero l
  unfolding are_deadlines entries_sound_with deadlines_in are_zero
  above_are_zero zero k [] e h = refl
  above_are_zero zero k (x ∷ l) e h = absurd (omega arith)
  above_are_zero (suc m) k [] e h = absurd (omega arith)
  above_are_zero (suc m) k (x ∷ []) e h = absurd (omega arith)
  above_are_zero (suc m) k (x ∷ (y ∷ [])) e h = absurd (omega arith)
  above_are_zero (suc m) k (x ∷ (y ∷ (z ∷ l))) e h =
      regroup (tells_times x y z) (are_deadlines l) (entry_sound_with d k (entry_with (deadline_at x y z))) (entries_sound_with d (k + 1) (deadlines_in l))
      ∙ (λ i. above_is_zero k x y z h i && above_are_zero m (k + 1) l (omega arith) (omega arith) i)
      ∙ and_assoc (eqb x 0 && eqb y 0) (eqb z 0) (are_zero l) ∙ and_assoc (eqb x 0) (eqb y 0) (eqb z 0 && are_zero l)

-- what is left above n: it tells sound entries just where it is all 0
pub left_zero : (l : List ℕ) → length l ≡ deadline_length → (n : ℕ) → n ≤ 96 → n ≡ (state_with_in l).parameters.n
    → are_deadlines (entries_from l n) && entries_sound_with (state_with_in l) (n + 1) (drop n (state_with_in l).processes) ≡ are_zero (entries_from l n)
unfolding state_with_in
left_zero l long n few is =
    let left : drop n (deadlines_in (drop header_length l)) ≡ deadlines_in (entries_from l n) =
    told_drop n (drop header_length l) ∙ ap deadlines_in (drop-drop (deadline_stride * n) header_length l) in
    rw left (above_are_zero (state_with_in l) (96 - n) (n + 1) (entries_from l n) (length-drop (stage_place_with n) l ∙ omega arith) (omega arith))
