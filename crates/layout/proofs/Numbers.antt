-- Numbers and what they tell: a table and a summary come back from their numbers, the numbers of an entry or a table from what they
-- tell, and how many they are. Assumes nothing.
use Rattle.std.proofs.Common.{◌≡◌, ℕ, zero, suc, ◌+◌, ◌*◌, ◌<◌, ◌≤◌, true, List, [], ◌∷◌, ◌++◌, length, get_or, drop, set, sym, refl, ap}
use Rattle.std.proofs.Common.{◌∙◌, arith, length-append, length-drop, take-append-drop, length-take-le, drop-drop, take_at}
use Rattle.std.proofs.Common.{drop_at as seam-at, eq-eqb}
use mathlib.Core.Bool.{false≢true}
use Rattle.model.specs.Types.{Location}
use Rattle.model.specs.declared.Location.TheVariants.{Remainder, Testing, Setting, Checking, Entering, Critical, Resetting, Leaving}
use Rattle.model.specs.Types.{Process}
use Rattle.model.specs.declared.Parameters.{Parameters}
use Rattle.model.specs.Types.{State}
use Rattle.model.specs.declared.Statistics.{Statistics}
use Rattle.model.specs.Stages.{leaving}
use Rattle.model.specs.States.{entry, stage_of, since_of, location_at, parameters_of}
use Rattle.layout.specs.Encodings.{limits_place, limit_place, header_length, stride, process_numbers, header_numbers, state_numbers}
use Rattle.layout.specs.Encodings.{count_in, b_in, c_in, limits_told, table_parameters, clock_in, word_in, processes_in, state_in, tells_entry, are_entries}
use Rattle.layout.specs.Encodings.{counts_length, statistics_numbers, statistics_in}
use Rattle.model.proofs.Locations.{location_is}
use Rattle.layout.proofs.Lists.{set_behind}
use Rattle.model.proofs.Tests.{and_true_iff, tests}

-- One entry

-- the numbers of a location tell an entry
pub location_entry : (l : Location) → tells_entry (stage_of l) (since_of l) ≡ true
location_entry Remainder = refl
location_entry (Testing t) = eq-eqb t t refl
location_entry (Setting t) = eq-eqb t t refl
location_entry (Checking t) = eq-eqb t t refl
location_entry (Entering t) = eq-eqb t t refl
location_entry Critical = refl
location_entry (Resetting t) = eq-eqb t t refl
location_entry (Leaving t) = eq-eqb t t refl

-- a stage up to leaving is that of its location
stage_told : (stage since : ℕ) → stage ≤ leaving → stage_of (location_at stage since) ≡ stage
stage_told zero t h = refl
stage_told (suc zero) t h = refl
stage_told (suc (suc zero)) t h = refl
stage_told (suc (suc (suc zero))) t h = refl
stage_told (suc (suc (suc (suc zero)))) t h = refl
stage_told (suc (suc (suc (suc (suc zero))))) t h = refl
stage_told (suc (suc (suc (suc (suc (suc zero)))))) t h = refl
stage_told (suc (suc (suc (suc (suc (suc (suc zero))))))) t h = refl
stage_told (suc (suc (suc (suc (suc (suc (suc (suc k)))))))) t h = absurd (omega arith)

-- a stage and an arrival that tell an entry are its numbers
pub record Told (stage since : ℕ) : Type 0 where
  pub stage_is : stage_of (location_at stage since) ≡ stage
  pub since_is : since_of (location_at stage since) ≡ since

pub entry_told : (stage since : ℕ) → tells_entry stage since ≡ true → Told stage since
entry_told stage since e =
    let h = simp tests at e in
    record { stage_is = stage_told stage since h.0; since_is = h.1 }

-- Entries

pub processes_told : (qs : List Process) → processes_in (process_numbers qs) ≡ qs
unfolding processes_in process_numbers
processes_told [] = refl
processes_told (q ∷ qs) = λ i. entry (sym (location_is q.location) i) ∷ processes_told qs i

pub processes_are_entries : (qs : List Process) → are_entries (process_numbers qs) ≡ true
unfolding are_entries process_numbers
processes_are_entries [] = refl
processes_are_entries (q ∷ qs) = (and_true_iff _ _).1 (location_entry q.location, processes_are_entries qs)

pub entries-told : (l : List ℕ) → are_entries l ≡ true → process_numbers (processes_in l) ≡ l
unfolding are_entries processes_in process_numbers
entries-told [] e = refl
entries-told (stage ∷ []) e = absurd (false≢true e)
entries-told (stage ∷ since ∷ rest) e =
    let h = (and_true_iff (tells_entry stage since) (are_entries rest)).0 e in
    let t = entry_told stage since h.0 in
    λ i. t.stage_is i ∷ t.since_is i ∷ entries-told rest h.1 i

pub length_processes : (qs : List Process) → length (process_numbers qs) ≡ stride * length qs
unfolding process_numbers
length_processes [] = refl
length_processes (q ∷ qs) = omega (arith, length_processes qs)

-- as many entries are told as there are pairs
pub length_told : (m : ℕ) (l : List ℕ) → length l ≡ stride * m → length (processes_in l) ≡ m
unfolding processes_in
length_told zero [] e = refl
length_told zero (x ∷ l) e = absurd (omega arith)
length_told (suc m) [] e = absurd (omega arith)
length_told (suc m) (x ∷ []) e = absurd (omega arith)
length_told (suc m) (x ∷ y ∷ l) e = ap suc (length_told m l (omega arith))

-- entry i is told by the numbers at 2i and 2i + 1
pub told_at : (i : ℕ) (l : List ℕ) (d : Process) → stride * i + 1 < length l
    → get_or (processes_in l) i d ≡ entry (location_at (get_or l (stride * i) 0) (get_or l (stride * i + 1) 0))
unfolding processes_in
told_at i [] d h = absurd (omega arith)
told_at i (x ∷ []) d h = absurd (omega arith)
told_at zero (x ∷ y ∷ l) d h = refl
told_at (suc i) (x ∷ y ∷ l) d h =
    let e : stride * suc i ≡ suc (suc (stride * i)) = omega arith in
    let f : stride * suc i + 1 ≡ suc (suc (stride * i + 1)) = omega arith in
    rw (f, e) (told_at i l d (omega arith))

-- What stands before the entries, in a table and in a deadline table alike

module _ (k : Parameters) (size : length k.a ≡ 96) (clock word : ℕ) where
  pub header_long : length (header_numbers k clock word) ≡ header_length
  header_long = omega arith

  -- behind it stand the entries
  pub behind_header : (rest : List ℕ) → drop header_length (header_numbers k clock word ++ rest) ≡ rest
  behind_header rest = seam-at k.a rest 96 size

  pub parameters-told : (rest : List ℕ) → table_parameters (header_numbers k clock word ++ rest) ≡ k
  parameters-told rest = ap (parameters_of k.n k.b k.c) (take_at k.a rest 96 size)

  -- what is stored behind it is stored among the entries
  pub stored_behind : (rest : List ℕ) (place i x : ℕ) → place ≡ header_length + i
      → set (header_numbers k clock word ++ rest) place x ≡ header_numbers k clock word ++ set rest i x
  stored_behind rest place i x e =
      let at : place ≡ length (header_numbers k clock word) + i = omega (arith, header_long) in
      ap (λ (j : ℕ). set (header_numbers k clock word ++ rest) j x) at ∙ set_behind (header_numbers k clock word) rest i x

-- a list is its first five numbers and what is left
five_and_rest : (l : List ℕ) → 5 ≤ length l → get_or l 0 0 ∷ get_or l 1 0 ∷ get_or l 2 0 ∷ get_or l 3 0 ∷ get_or l 4 0 ∷ drop 5 l ≡ l
five_and_rest (u ∷ v ∷ w ∷ x ∷ y ∷ l) h = refl
five_and_rest (u ∷ v ∷ w ∷ x ∷ []) h = absurd (omega arith)
five_and_rest (u ∷ v ∷ w ∷ []) h = absurd (omega arith)
five_and_rest (u ∷ v ∷ []) h = absurd (omega arith)
five_and_rest (u ∷ []) h = absurd (omega arith)
five_and_rest [] h = absurd (omega arith)

-- numbers are those that stand before the entries and those of the entries
pub header_told : (l : List ℕ) → header_length ≤ length l
    → header_numbers (table_parameters l) (clock_in l) (word_in l) ++ drop header_length l ≡ l
header_told l h =
    ap (λ (r : List ℕ). count_in l ∷ b_in l ∷ c_in l ∷ clock_in l ∷ word_in l ∷ r)
    (ap (λ (r : List ℕ). limits_told l ++ r) (sym (drop-drop 96 limits_place l)) ∙ take-append-drop 96 (drop limits_place l))
    ∙ five_and_rest l (omega arith)

-- enough of them have 96 values of a
pub limits_size : (l : List ℕ) → header_length ≤ length l → length (limits_told l) ≡ 96
limits_size l h = length-take-le 96 (drop limits_place l) (omega (arith, length-drop limits_place l))

-- A table

pub length_state : (s : State) → length (state_numbers s) ≡ limit_place (length s.parameters.a) + stride * length s.processes
unfolding state_numbers
length_state s =
    let ns = process_numbers s.processes in
    omega (arith, length-append (header_numbers s.parameters s.clock s.word) ns, length_processes s.processes)

module _ (s : State) (size : length s.parameters.a ≡ 96) where
  behind : drop header_length (state_numbers s) ≡ process_numbers s.processes
  unfolding state_numbers
  behind = behind_header s.parameters size s.clock s.word (process_numbers s.processes)

  pub state_has_entries : are_entries (drop header_length (state_numbers s)) ≡ true
  state_has_entries = rw behind (processes_are_entries s.processes)

  pub state-told : state_in (state_numbers s) ≡ s
  unfolding state_in state_numbers
  state-told = λ i. record {
    parameters = parameters-told s.parameters size s.clock s.word (process_numbers s.processes) i;
    clock = s.clock;
    word = s.word;
    processes = (ap processes_in behind ∙ processes_told s.processes) i;
  }

pub state_numbers_told : (l : List ℕ) → header_length ≤ length l → are_entries (drop header_length l) ≡ true
    → state_numbers (state_in l) ≡ l
unfolding state_in state_numbers
state_numbers_told l h e =
    ap (λ (r : List ℕ). header_numbers (table_parameters l) (clock_in l) (word_in l) ++ r) (entries-told (drop header_length l) e) ∙ header_told l h

-- A summary

pub length_summary : (x : Statistics) → length (statistics_numbers x) ≡ counts_length + length x.waited
unfolding statistics_numbers
length_summary x = omega arith

pub summary_told : (x : Statistics) → statistics_in (statistics_numbers x) ≡ x
unfolding statistics_in statistics_numbers
summary_told x = refl

pub summary_numbers_told : (l : List ℕ) → counts_length ≤ length l → statistics_numbers (statistics_in l) ≡ l
unfolding statistics_in statistics_numbers
summary_numbers_told = five_and_rest
