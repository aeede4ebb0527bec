-- The numbers of the entries of a table, one entry after the other: which entry of the state each tells, and whether those that are left
-- are sound. Above n, entries are sound just where all their numbers are 0. Assumes nothing.
use Rattle.std.proofs.Common.{◌≡◌, ℕ, zero, suc, ◌+◌, ◌*◌, ◌<◌, ◌≤◌, Bool, true, false, ◌&&◌, eqb, ◌≢◌, List, [], ◌∷◌, length, get_or, drop}
use Rattle.std.proofs.Common.{sym, refl, ap, ◌∙◌, arith, length-drop, get_or-drop, ne_eqb}
use mathlib.Core.Bool.{and-false, and_assoc}
use borrow.Author.Tests.{lt-leb}
use Rattle.model.specs.Types.{Location}
use Rattle.model.specs.Types.{Process}
use Rattle.model.specs.Types.{State}
use Rattle.model.specs.Stages.{remainder, testing, setting, checking, entering, critical, resetting}
use Rattle.model.specs.States.{entry, stage_of, entry_sound, entries_sound, location_at}
use Rattle.layout.specs.Encodings.{header_length, stride, table_length, stage_place, since_place, processes_in, state_in, tells_entry, are_entries}
use Rattle.layout.specs.Places.{numbers_at, entries_in, tells_location, entry_in, location_in, entries_from, first_entries}
use Rattle.values.specs.Bits.{are_zero}
use Rattle.model.proofs.Lists.{drop_at, drop_end}
use Rattle.model.proofs.Tests.{tests, if_eq, by_cond, and_true_iff}
use Rattle.rules.proofs.Entries.{idle_sound}
use Rattle.layout.proofs.Numbers.{length_told, told_at}

-- whether the entries from i on tell sound ones
abbrev pub left_sound : List ℕ → ℕ → Bool
left_sound l i = are_entries (entries_from l i) && entries_sound (state_in l) (i + 1) (processes_in (entries_from l i))

-- four tests in another order
pub regroup : (s t u v : Bool) → (s && t) && (u && v) ≡ (s && u) && (t && v)
regroup true true u v = refl
regroup true false u v = sym (and-false u)
regroup false t u v = refl

module _ (l : List ℕ) (long : length l ≡ table_length) where
  pair_at : (i : ℕ) → i < 96 → entries_from l i ≡ (entry_in l i).stage ∷ (entry_in l i).since ∷ entries_from l (i + 1)
  pair_at i more =
      let e : since_place i + 1 ≡ stage_place (i + 1) = omega arith in
      drop_at l (stage_place i) 0 (omega arith)
      ∙ ap (λ (t : List ℕ). (entry_in l i).stage ∷ t) (drop_at l (since_place i) 0 (omega arith) ∙ ap (λ (k : ℕ). (entry_in l i).since ∷ drop k l) e)

  -- which entry they tell
  pub entry-in : (i : ℕ) → i < 96 → (d : Process) → get_or (state_in l).processes i d ≡ entry (location_in l i)
  unfolding state_in
  entry-in i more d =
      told_at i (drop header_length l) d (omega (arith, length-drop header_length l))
      ∙ (λ j. entry (location_at (get_or-drop header_length l (stride * i) 0 j) (since-in j)))
    where
      since-in : get_or (drop header_length l) (stride * i + 1) 0 ≡ get_or l (since_place i) 0
      since-in =
          let e : header_length + (stride * i + 1) ≡ since_place i = omega arith in
          get_or-drop header_length l (stride * i + 1) 0 ∙ ap (λ (k : ℕ). get_or l k 0) e

  pub entries_size : length (state_in l).processes ≡ 96
  unfolding state_in
  entries_size = length_told 96 (drop header_length l) (length-drop header_length l ∙ omega arith)

  -- What is left of the soundness after some of them

  pub next_told : (i : ℕ) → i < 96 → are_entries (entries_from l i) ≡ tells_location (entry_in l i) && are_entries (entries_from l (i + 1))
  unfolding are_entries
  next_told i more = rw (pair_at i more)

  next_sound : (i : ℕ) → i < 96
      → left_sound l i ≡ (tells_location (entry_in l i) && entry_sound (state_in l) (i + 1) (entry (location_in l i))) && left_sound l (i + 1)
  unfolding are_entries entries_sound processes_in
  next_sound i more =
      rw (pair_at i more)
      (regroup (tells_location (entry_in l i)) (are_entries (entries_from l (i + 1)))
      (entry_sound (state_in l) (i + 1) (entry (location_in l i))) (entries_sound (state_in l) (i + 1 + 1) (processes_in (entries_from l (i + 1)))))

  -- of a sound table all that is left is sound
  pub left-sound : (i : ℕ) → i ≤ 96 → left_sound l 0 ≡ true → left_sound l i ≡ true
  left-sound zero h e = e
  left-sound (suc i) h e =
      let f : suc i ≡ i + 1 = omega arith in
      let own = tells_location (entry_in l i) && entry_sound (state_in l) (i + 1) (entry (location_in l i)) in
      rw f ((and_true_iff own (left_sound l (i + 1))).0 (sym (next_sound i (omega arith)) ∙ left-sound i (omega arith) e)).1

-- Above n

-- no other stage than the remainder's tells the remainder
not_remainder : (stage since : ℕ) → stage ≢ remainder → eqb (stage_of (location_at stage since)) remainder ≡ false
not_remainder stage since n =
    let P : Location → Type 0 = λ l. eqb (stage_of l) remainder ≡ false in
    simp (ne_eqb stage remainder n)
    (by_cond P (eqb stage testing) (λ _. refl)
    (λ _. by_cond P (eqb stage setting) (λ _. refl)
    (λ _. by_cond P (eqb stage checking) (λ _. refl)
    (λ _. by_cond P (eqb stage entering) (λ _. refl)
    (λ _. by_cond P (eqb stage critical) (λ _. refl)
    (λ _. by_cond P (eqb stage resetting) (λ _. refl) (λ _. refl)))))))

module _ (s : State) where
  -- there an entry is sound just where it is in the remainder
  above_is_zero : (k stage since : ℕ) → s.parameters.n < k
      → (tells_entry stage since && entry_sound s k (entry (location_at stage since))) ≡ (eqb stage 0 && eqb since 0)
  above_is_zero k stage since h =
      if_eq stage 0
      (λ e. rw e (if_eq since 0 (λ f. rw f (idle_sound s k)) (λ f. simp (ne_eqb since 0 f, ne_eqb 0 since (λ g. f (sym g))))))
      (λ e. ap (λ (u : Bool). tells_entry stage since && u) (above_sound ∙ not_remainder stage since e) ∙ and-false (tells_entry stage since)
      ∙ sym (rw (ne_eqb stage 0 e)))
    where
      above_sound : entry_sound s k (entry (location_at stage since)) ≡ eqb (stage_of (location_at stage since)) remainder
      above_sound = rw (lt-leb k s.parameters.n h)

  pub above_are_zero : (m k : ℕ) (l : List ℕ) → length l ≡ stride * m → s.parameters.n < k
      → (are_entries l && entries_sound s k (processes_in l)) ≡ are_zero l
  unfolding are_entries entries_sound processes_in are_zero
  above_are_zero zero k [] e h = refl
  above_are_zero zero k (x ∷ l) e h = absurd (omega arith)
  above_are_zero (suc m) k [] e h = absurd (omega arith)
  above_are_zero (suc m) k (x ∷ []) e h = absurd (omega arith)
  above_are_zero (suc m) k (x ∷ (y ∷ l)) e h =
      regroup (tells_entry x y) (are_entries l) (entry_sound s k (entry (location_at x y))) (entries_sound s (k + 1) (processes_in l))
      ∙ (λ i. above_is_zero k x y h i && above_are_zero m (k + 1) l (omega arith) (omega arith) i)
      ∙ and_assoc (eqb x 0) (eqb y 0) (are_zero l)

-- A list of entries, as a pass goes over it

-- the next one, whose numbers start at i, and none at the end
pub entries_next : (l : List ℕ) (i : ℕ) → i + 1 < length l → entries_in (drop i l) ≡ numbers_at l i ∷ entries_in (drop (i + stride) l)
unfolding entries_in
entries_next l i h =
    let two : i + 1 + 1 ≡ i + stride = omega arith in
    rw (drop_at l i 0 (omega arith), drop_at l (i + 1) 0 h, two)

pub entries_end : (l : List ℕ) (i : ℕ) → length l ≡ i → entries_in (drop i l) ≡ []
unfolding entries_in
entries_end l i e = rw (drop_end l i (omega arith) (omega arith))

-- the next of the first entries of a table
pub first_next : (l : List ℕ) → length l ≡ table_length → (j i : ℕ) → i < 96
    → entries_in (first_entries (suc j) (entries_from l i)) ≡ entry_in l i ∷ entries_in (first_entries j (entries_from l (i + 1)))
unfolding entries_in
first_next l long j i more =
    let two : stride * suc j ≡ suc (suc (stride * j)) = omega arith in
    rw (pair_at l long i more, two)

-- Zeros

-- of zeros each one is 0
pub zero_at : (l : List ℕ) (i : ℕ) → are_zero l ≡ true → get_or l i 0 ≡ 0
unfolding are_zero
zero_at [] i e = refl
zero_at (x ∷ l) zero e = (simp tests at e).0
zero_at (x ∷ l) (suc i) e = zero_at l i (simp tests at e).1

-- and as pairs they tell entries, all in the remainder
pub zeros_tell : (m : ℕ) (l : List ℕ) → length l ≡ stride * m → are_zero l ≡ true → are_entries l ≡ true
unfolding are_entries are_zero
zeros_tell zero [] e f = refl
zeros_tell zero (x ∷ l) e f = absurd (omega arith)
zeros_tell (suc m) [] e f = absurd (omega arith)
zeros_tell (suc m) (x ∷ []) e f = absurd (omega arith)
zeros_tell (suc m) (x ∷ (y ∷ l)) e f =
    let g = simp tests at f in
    rw (g.0, g.1.0) (zeros_tell m l (omega arith) g.1.1)
