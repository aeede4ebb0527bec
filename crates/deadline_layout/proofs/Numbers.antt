-- Numbers and what they tell: a deadline table comes back from its numbers, the numbers of an entry or a table from what they tell, and how many
-- they are. Assumes nothing.
use Prim.Native.Nat.{ℕ, zero, suc, ◌+◌, ◌*◌, ◌≤◌, ◌<◌}
use mathlib.Core.Path.{◌≡◌, refl, ap, ◌∙◌}
use mathlib.Core.Bool.{true, false≢true}
use mathlib.Core.List.{List, [], ◌∷◌, ◌++◌}
use native.Mathlib.Omega.{arith}
use lib.ListN.{length, get_or, drop, length-append}
use borrow.Author.Tests.{eq-eqb}
use Rattle.model.specs.Stages.{leaving}
use Rattle.layout.specs.Encodings.{limit_place, header_length, header_numbers, table_parameters, clock_in, word_in}
use Rattle.deadlines.specs.Types.{DeadlineLocation}
use Rattle.model.specs.declared.Location.TheVariants.{Remainder, Testing, Setting, Checking, Entering, Critical, Resetting, Leaving}
use Rattle.deadlines.specs.Types.{DeadlineProcess}
use Rattle.deadlines.specs.Types.{DeadlineState}
use Rattle.deadlines.specs.Deadlines.{stage_with, first_of, last_of, deadline_at, entry_with}
use Rattle.deadline_layout.specs.Encodings.{deadline_stride, deadline_numbers, state_numbers_with, deadlines_in, state_with_in}
use Rattle.deadline_layout.specs.Encodings.{tells_times, are_deadlines}
use Rattle.model.proofs.Tests.{and_true_iff, tests}
use Rattle.layout.proofs.Numbers.{behind_header, parameters-told, header_told}

-- One entry

-- the numbers of a location tell one
both_same : (f l : ℕ) → tells_times 1 f l ≡ true
both_same f l = (and_true_iff _ _).1 (eq-eqb f f refl, eq-eqb l l refl)

pub location_tells : (q : DeadlineLocation) → tells_times (stage_with q) (first_of q) (last_of q) ≡ true
location_tells Remainder = refl
location_tells (Testing t) = both_same t.first t.last
location_tells (Setting t) = both_same t.first t.last
location_tells (Checking t) = both_same t.first t.last
location_tells (Entering t) = both_same t.first t.last
location_tells Critical = refl
location_tells (Resetting t) = both_same t.first t.last
location_tells (Leaving t) = both_same t.first t.last

-- and it is the one that they tell
pub location_is : (q : DeadlineLocation) → deadline_at (stage_with q) (first_of q) (last_of q) ≡ q
location_is Remainder = refl
location_is (Testing t) = refl
location_is (Setting t) = refl
location_is (Checking t) = refl
location_is (Entering t) = refl
location_is Critical = refl
location_is (Resetting t) = refl
location_is (Leaving t) = refl

-- a stage up to leaving is that of its location
stage_told : (stage f l : ℕ) → stage ≤ leaving → stage_with (deadline_at stage f l) ≡ stage
stage_told zero f l h = refl
stage_told (suc zero) f l h = refl
stage_told (suc (suc zero)) f l h = refl
stage_told (suc (suc (suc zero))) f l h = refl
stage_told (suc (suc (suc (suc zero)))) f l h = refl
stage_told (suc (suc (suc (suc (suc zero))))) f l h = refl
stage_told (suc (suc (suc (suc (suc (suc zero)))))) f l h = refl
stage_told (suc (suc (suc (suc (suc (suc (suc zero))))))) f l h = refl
stage_told (suc (suc (suc (suc (suc (suc (suc (suc k)))))))) f l h = absurd (omega arith)

-- a stage and two times that tell an entry are its numbers
pub record Told (stage f l : ℕ) : Type 0 where
  pub stage_is : stage_with (deadline_at stage f l) ≡ stage
  pub first_is : first_of (deadline_at stage f l) ≡ f
  pub last_is : last_of (deadline_at stage f l) ≡ l

pub entry_told : (stage f l : ℕ) → tells_times stage f l ≡ true → Told stage f l
entry_told stage f l e =
    let h = simp tests at e in
    record { stage_is = stage_told stage f l h.0.0; first_is = h.0.1; last_is = h.1 }

-- Entries

pub entries_back : (qs : List DeadlineProcess) → deadlines_in (deadline_numbers qs) ≡ qs
unfolding deadlines_in deadline_numbers
entries_back [] = refl
entries_back (q ∷ qs) = λ i. entry_with (location_is q.location i) ∷ entries_back qs i

pub entries_tell : (qs : List DeadlineProcess) → are_deadlines (deadline_numbers qs) ≡ true
unfolding are_deadlines deadline_numbers
entries_tell [] = refl
entries_tell (q ∷ qs) = (and_true_iff _ _).1 (location_tells q.location, entries_tell qs)

pub entries-told : (l : List ℕ) → are_deadlines l ≡ true → deadline_numbers (deadlines_in l) ≡ l
unfolding are_deadlines deadlines_in deadline_numbers
entries-told [] e = refl
entries-told (stage ∷ []) e = absurd (false≢true e)
entries-told (stage ∷ f ∷ []) e = absurd (false≢true e)
entries-told (stage ∷ f ∷ l ∷ rest) e =
    let h = (and_true_iff (tells_times stage f l) (are_deadlines rest)).0 e in
    let t = entry_told stage f l h.0 in
    λ i. t.stage_is i ∷ t.first_is i ∷ t.last_is i ∷ entries-told rest h.1 i

pub length_entries : (qs : List DeadlineProcess) → length (deadline_numbers qs) ≡ deadline_stride * length qs
unfolding deadline_numbers
length_entries [] = refl
length_entries (q ∷ qs) = omega (arith, length_entries qs)

-- as many entries are told as there are threes
pub length_told : (m : ℕ) (l : List ℕ) → length l ≡ deadline_stride * m → length (deadlines_in l) ≡ m
unfolding deadlines_in
length_told zero [] e = refl
length_told zero (x ∷ l) e = absurd (omega arith)
length_told (suc m) [] e = absurd (omega arith)
length_told (suc m) (x ∷ []) e = absurd (omega arith)
length_told (suc m) (x ∷ y ∷ []) e = absurd (omega arith)
length_told (suc m) (x ∷ y ∷ z ∷ l) e = ap suc (length_told m l (omega arith))

-- entry i is told by the numbers from 3i on
pub told_at : (i : ℕ) (l : List ℕ) (d : DeadlineProcess) → deadline_stride * i + 2 < length l
    → get_or (deadlines_in l) i d
    ≡ entry_with (deadline_at (get_or l (deadline_stride * i) 0) (get_or l (deadline_stride * i + 1) 0) (get_or l (deadline_stride * i + 2) 0))
unfolding deadlines_in
told_at i [] d h = absurd (omega arith)
told_at i (x ∷ []) d h = absurd (omega arith)
told_at i (x ∷ y ∷ []) d h = absurd (omega arith)
told_at zero (x ∷ y ∷ z ∷ l) d h = refl
told_at (suc i) (x ∷ y ∷ z ∷ l) d h =
    let e : deadline_stride * suc i ≡ suc (suc (suc (deadline_stride * i))) = omega arith in
    let f : deadline_stride * suc i + 1 ≡ suc (suc (suc (deadline_stride * i + 1))) = omega arith in
    let g : deadline_stride * suc i + 2 ≡ suc (suc (suc (deadline_stride * i + 2))) = omega arith in
    rw (g, f, e) (told_at i l d (omega arith))

-- A deadline table

pub length_state : (d : DeadlineState)
    → length (state_numbers_with d) ≡ limit_place (length d.parameters.a) + deadline_stride * length d.processes
unfolding state_numbers_with
length_state d =
    let ns = deadline_numbers d.processes in
    omega (arith, length-append (header_numbers d.parameters d.clock d.word) ns, length_entries d.processes)

module _ (d : DeadlineState) (size : length d.parameters.a ≡ 96) where
  behind : drop header_length (state_numbers_with d) ≡ deadline_numbers d.processes
  unfolding state_numbers_with
  behind = behind_header d.parameters size d.clock d.word (deadline_numbers d.processes)

  pub state_tells : are_deadlines (drop header_length (state_numbers_with d)) ≡ true
  state_tells = rw behind (entries_tell d.processes)

  pub state-told : state_with_in (state_numbers_with d) ≡ d
  unfolding state_with_in state_numbers_with
  state-told = λ i. record {
    parameters = parameters-told d.parameters size d.clock d.word (deadline_numbers d.processes) i;
    clock = d.clock;
    word = d.word;
    processes = (ap deadlines_in behind ∙ entries_back d.processes) i;
  }

pub state_numbers_told : (l : List ℕ) → header_length ≤ length l → are_deadlines (drop header_length l) ≡ true
    → state_numbers_with (state_with_in l) ≡ l
unfolding state_with_in state_numbers_with
state_numbers_told l h e =
    ap (λ (r : List ℕ). header_numbers (table_parameters l) (clock_in l) (word_in l) ++ r) (entries-told (drop header_length l) e) ∙ header_told l h
