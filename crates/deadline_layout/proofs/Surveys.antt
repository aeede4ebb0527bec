-- The pass over the numbers of a deadline table finds what the pass over the entries of the state finds that they tell, or a fault where they tell
-- no sound one. Assumes nothing.
use Prim.Native.Nat.{ℕ, zero, suc, ◌+◌, ◌*◌, ◌-◌, ◌/◌, ◌^◌, ◌≤◌, ◌<◌}
use mathlib.Core.Path.{◌≡◌, refl, sym, ap, subst, ◌∙◌}
use mathlib.Core.Logic.{◌≢◌}
use mathlib.Core.Bool.{Bool, true, false, cond, not, ◌&&◌, and-false}
use mathlib.Core.List.{List, []}
use native.Mathlib.Omega.{arith}
use lib.Dec.{eqb}
use lib.ListN.{length, get_or, take, drop, length-drop}
use lib.Seq.{get_or-drop, drop-drop}
use borrow.Author.Tests.{eqb-true, eqb-false, eq-eqb, ne_eqb, not-true, not-false}
use Rattle.model.specs.Stages.{remainder}
use Rattle.model.specs.States.{limit_at}
use Rattle.model.proofs.Lists.{part_is}
use Rattle.model.proofs.Tests.{by_test, by_cond}
use Rattle.rules.specs.declared.survey.Scene.{Scene}
use Rattle.rules.specs.declared.survey.Survey.{Survey}
use Rattle.rules.specs.Survey.{numbers_stand, nothing, unsound}
use Rattle.rules.proofs.Pass.{Whole}
use Rattle.values.specs.Bits.{are_zero}
use Rattle.layout.specs.Encodings.{header_length, count_in, b_in, limits_told, table_parameters, clock_in, word_in}
use Rattle.layout.specs.Steps.{scene_in}
use Rattle.layout.proofs.Entries.{zero_at}
use Rattle.deadlines.specs.Types.{DeadlineLocation}
use Rattle.deadlines.specs.Types.{DeadlineProcess}
use Rattle.deadlines.specs.Types.{DeadlineState}
use Rattle.deadlines.specs.Deadlines.{stage_with, deadline_at, idle_with, entries_sound_with, sound_with}
use Rattle.deadlines.specs.Matching.{arrived}
use Rattle.deadlines.specs.Looks.{location_noted}
use Rattle.deadlines.proofs.Passing.{standing_with, sound_parts_with, numbers_fault_with, small, PassedWith, SurveyedWith, nothing_passed_with}
use Rattle.deadlines.proofs.Passing.{turn_fault_with, turn_passed_with, passed_whole_with, idle_passed_with}
use Rattle.deadlines.proofs.Passing as passing
use Rattle.deadline_layout.specs.Encodings.{deadline_stride, deadline_length, stage_place_with, first_place, last_place, are_deadlines, state_with_in}
use Rattle.deadline_layout.specs.Places.{tells_at, entries_from, entries_told, first_entries}
use Rattle.deadline_layout.specs.Steps.{numbers_noted_with, entries_noted_with, pass_with, survey_with}
use Rattle.deadline_layout.proofs.Entries.{entry_at, entries_size, next_told, first_next, left_zero}
use Rattle.deadline_layout.proofs.Zeros.{rows_size, rows_from, rows_to}
use Rattle.std.specs.List.{concat}
use Rattle.std.specs.Simd.{first_chunks}

-- Whether the numbers of a deadline table tell a sound one

abbrev pub tell_sound : List ℕ → Bool
tell_sound l = entries_told l && sound_with (state_with_in l)

-- what is found of the numbers l: a fault, or all that they tell
pub data Found (l : List ℕ) (acting : ℕ) (f : Survey) : Type 0 where
  faulty : tell_sound l ≡ false → f.faulty ≢ 0 → Found l acting f
  whole : tell_sound l ≡ true → Whole (arrived (state_with_in l)) acting f → Found l acting f

module _ (l : List ℕ) (long : length l ≡ deadline_length) (acting : ℕ) where
  abbrev d : DeadlineState
  d = state_with_in l

  abbrev n : ℕ
  n = count_in l

  unsound_found : tell_sound l ≡ false → Found l acting unsound
  unsound_found e = faulty e (λ z. omega arith)

  -- where the state is not sound, the numbers tell no sound one
  not_sound : sound_with d ≡ false → tell_sound l ≡ false
  not_sound e = rw e (and-false (entries_told l))

  -- i entries are passed, and each of them was told
  record Along (i : ℕ) (f : Survey) : Type 0 where
    passed : PassedWith d acting i f
    told : are_deadlines (entries_from l i) ≡ entries_told l

  -- The next entry

  module _ (i : ℕ) (f : Survey) (along : Along i f) (more : i < 96) where
    abbrev next : Survey
    next =
        numbers_noted_with (scene_in l acting) (i + 1) (get_or l (stage_place_with i) 0) (get_or l (first_place i) 0) (get_or l (last_place i) 0) (b_in l)
        (limit_at (limits_told l) (i + 1)) f

    -- it tells no location
    module _ (e : tells_at l i ≡ false) where
      not_told : tell_sound l ≡ false
      not_told =
          let none : are_deadlines (entries_from l i) ≡ false =
          next_told l long i more ∙ ap (λ (u : Bool). u && are_deadlines (entries_from l (i + 1))) e in
          ap (λ (u : Bool). u && sound_with d) (sym along.told ∙ none)

      next_unsound : next ≡ unsound
      unfolding numbers_noted_with
      next_unsound = rw e

    -- it tells the location that the state has there
    abbrev looked : DeadlineLocation → Survey
    looked q = location_noted (scene_in l acting) (i + 1) q (b_in l) (limit_at (limits_told l) (i + 1)) f

    module _ (e : tells_at l i ≡ true) where
      is_noted : next ≡ looked (get_or d.processes i idle_with).location
      unfolding numbers_noted_with
      is_noted = rw e (ap (λ (q : DeadlineProcess). looked q.location) (sym (entry_at l long i more idle_with)))

      next_along : next.faulty ≡ 0 → Along (i + 1) next
      unfolding state_with_in
      next_along z = record {
        passed = turn_passed_with d acting i (i + 1) f along.passed more refl idle_with next is_noted z;
        told = sym (next_told l long i more ∙ rw e) ∙ along.told;
      }

      next_fault : next.faulty ≢ 0 → tell_sound l ≡ false
      unfolding state_with_in
      next_fault z = not_sound (turn_fault_with d acting i (i + 1) f along.passed more refl idle_with next is_noted z)

  -- The entries up to n

  -- what all of them give, from the next one on
  data Ends : Survey → Type 0 where
    fault : tell_sound l ≡ false → Ends unsound
    along : {f : Survey} → Along n f → Ends f

  pass_ends : (j i : ℕ) (f : Survey) → i + j ≡ n → n ≤ 96 → Along i f
      → Ends (entries_noted_with (b_in l) (limits_told l) (scene_in l acting) (i + 1) (first_entries j (entries_from l i)) f)
  unfolding entries_noted_with
  pass_ends zero i f e few a = along (subst (λ (k : ℕ). Along k f) (omega arith) a)
  pass_ends (suc j) i f e few a =
      let more : i < 96 = omega arith in
      rw (first_next l long j i more)
      (by_test {A = Ends _} (tells_at l i)
      (λ t. by_cond Ends (eqb (next i f a more).faulty 0)
      (λ z. pass_ends j (i + 1) (next i f a more) (omega arith) few (next_along i f a more t (eqb-true _ _ z)))
      (λ z. fault (next_fault i f a more t (eqb-false _ _ z))))
      (λ t. rw (next_unsound i f a more t) (fault (not_told i f a more t))))

  -- The entries above n

  -- they decide
  above_tells : n ≤ 96 → {f : Survey} → Along n f → tell_sound l ≡ are_zero (entries_from l n)
  unfolding state_with_in
  above_tells few {f} a = (λ i. sym a.told i && left i) ∙ left_zero l long n few refl
    where
      left : sound_with d ≡ entries_sound_with d (n + 1) (drop n d.processes)
      left = sound_parts_with d ∙ rw a.passed.passed.stand (sym a.passed.sound)

  -- Zeros tell entries in the remainder

  module _ (zeros : are_zero (entries_from l n) ≡ true) where
    -- behind those up to n each number is 0
    number_zero : (k : ℕ) → stage_place_with n ≤ k → get_or l k 0 ≡ 0
    number_zero k h =
        let e : stage_place_with n + (k - stage_place_with n) ≡ k = omega arith in
        sym (ap (λ (j : ℕ). get_or l j 0) e) ∙ sym (get_or-drop (stage_place_with n) l (k - stage_place_with n) 0)
        ∙ zero_at (entries_from l n) (k - stage_place_with n) zeros

    idle_above : (i : ℕ) → n ≤ i → i < 96 → stage_with (get_or d.processes i idle_with).location ≡ remainder
    idle_above i h more =
        ap (λ (q : DeadlineProcess). stage_with q.location) (entry_at l long i more idle_with)
        ∙ ap (λ (k : ℕ). stage_with (deadline_at k (get_or l (first_place i) 0) (get_or l (last_place i) 0))) (number_zero (stage_place_with i) (omega arith))

    above_passed : (j i : ℕ) (f : Survey) → i + j ≡ 96 → n ≤ i → PassedWith d acting i f → PassedWith d acting 96 f
    above_passed zero i f e h p = subst (λ (k : ℕ). PassedWith d acting k f) (omega arith) p
    above_passed (suc j) i f e h p =
        let more : i < 96 = omega arith in
        above_passed j (i + 1) f (omega arith) (omega arith) (idle_passed_with d acting i f p more idle_with (idle_above i h more))

    all_found : n ≤ 96 → {f : Survey} → Along n f → Found l acting f
    all_found few {f} a =
        go (passed_whole_with d acting 96 f (above_passed (96 - n) n f (omega arith) (omega arith) a.passed) (omega arith))
      where
        go : SurveyedWith d acting f → Found l acting f
        go (passing.faulty e z) = absurd (z a.passed.passed.faultless)
        go (passing.whole e w) = whole (above_tells few a ∙ zeros) w

  -- of what the entries up to n give, the table is told by those above
  ends_found : n ≤ 96 → {f : Survey} → Ends f
      → Found l acting (cond (not (eqb f.faulty 0)) unsound (cond (not (are_zero (entries_from l n))) unsound f))
  ends_found few (fault e) = unsound_found e
  ends_found few (along {f} a) =
      rw (eq-eqb f.faulty 0 a.passed.passed.faultless)
      (by_cond (Found l acting) (not (are_zero (entries_from l n))) (λ z. unsound_found (above_tells few a ∙ not-true _ z))
      (λ z. all_found (not-false _ z) few a))

-- All of it

pub survey_found : (l : List ℕ) → length l ≡ deadline_length → (acting : ℕ) → Found l acting (survey_with l acting)
unfolding survey_with state_with_in
survey_found l long acting =
    by_cond (Found l acting) (not (standing_with (state_with_in l)))
    (λ e. unsound_found l long acting (not_sound l long acting (numbers_fault_with (state_with_in l) (not-true _ e))))
    (λ e. let stand : standing_with (state_with_in l) ≡ true = not-false _ e in
    let few = (small (state_with_in l) stand).few in
    ends_found l long acting few
    (pass_ends l long acting (state_with_in l).parameters.n 0 nothing (omega arith) few
    (record { passed = nothing_passed_with (state_with_in l) acting stand (entries_size l long); told = refl })))

-- Of the function: what it gives back, from what the functions that it calls ensure

-- of numbers that stand no sum wraps
pub pass_opens : (l : List ℕ) → numbers_stand (table_parameters l) (clock_in l) (word_in l) ≡ true → clock_in l + b_in l < 2 ^ 64
pass_opens l stand =
    let h = small (record { parameters = table_parameters l; clock = clock_in l; word = word_in l; processes = [] }) stand in
    omega (arith, h.clock, h.opens)

module _ (l : List ℕ) (acting : ℕ) where
  -- the numbers of each entry
  abbrev pub rows : List (List ℕ)
  rows = first_chunks deadline_stride 96 (drop header_length l)

  -- all numbers after those that stand before the entries
  abbrev pub behind : List ℕ
  behind = take (deadline_length - header_length) (drop header_length l)

  module _ (long : length l ≡ deadline_length) {parts : List (List ℕ)}
      (chunks : parts ≡ first_chunks deadline_stride (length behind / deadline_stride) behind) where
    parts_are : parts ≡ rows
    parts_are =
        let whole : behind ≡ drop header_length l = ap (λ (k : ℕ). take (k - header_length) (drop header_length l)) (sym long) ∙ part_is l header_length in
        chunks ∙ ap (λ (k : List ℕ). first_chunks deadline_stride (length k / deadline_stride) k) whole
        ∙ ap (λ (k : ℕ). first_chunks deadline_stride (k / deadline_stride) (drop header_length l))
        (length-drop header_length l ∙ ap (λ (k : ℕ). k - header_length) long)

    module _ (few : count_in l ≤ 96) where
      pub parts_reach : count_in l ≤ length parts
      parts_reach = omega (arith, few, ap length parts_are ∙ rows_size 96 (drop header_length l))

      pub pass_is : {es : List (List ℕ)} → es ≡ take (count_in l) parts → {x : Scene} {f : Survey} → x ≡ scene_in l acting
          → f ≡ entries_noted_with (b_in l) (limits_told l) x 1 (concat es) nothing → f ≡ pass_with l acting
      pass_is e x-is f-is =
          let part = ap concat (e ∙ ap (take (count_in l)) parts_are) ∙ rows_to 96 (count_in l) (drop header_length l) few in
          f-is ∙ (λ j. entries_noted_with (b_in l) (limits_told l) (x-is j) 1 (part j) nothing)

    -- and those above n
    pub above_is : {es : List (List ℕ)} (bits : ℕ) → es ≡ drop (count_in l) parts → eqb bits 0 ≡ are_zero (concat es)
        → eqb bits 0 ≡ are_zero (entries_from l (count_in l))
    above_is bits e t-is =
        let n = count_in l in
        t-is
        ∙ ap are_zero (ap concat (e ∙ ap (drop n) parts_are) ∙ rows_from 96 n (drop header_length l) (length-drop header_length l ∙ omega arith)
        ∙ drop-drop (deadline_stride * n) header_length l)

  pub standing_not : numbers_stand (table_parameters l) (clock_in l) (word_in l) ≡ false → unsound ≡ survey_with l acting
  unfolding survey_with
  standing_not e = rw e

  module _ (stand : numbers_stand (table_parameters l) (clock_in l) (word_in l) ≡ true) {f : Survey} (is : f ≡ pass_with l acting) where
    pub pass_faulty : f.faulty ≢ 0 → unsound ≡ survey_with l acting
    unfolding survey_with
    pass_faulty z = rw (stand, ← is, ne_eqb f.faulty 0 z)

    module _ (z : f.faulty ≡ 0) where
      pub above_not : are_zero (entries_from l (count_in l)) ≡ false → unsound ≡ survey_with l acting
      unfolding survey_with
      above_not e = rw (stand, ← is, eq-eqb f.faulty 0 z, e)

      pub all_sound : are_zero (entries_from l (count_in l)) ≡ true → f ≡ survey_with l acting
      unfolding survey_with
      all_sound e = rw (stand, ← is, eq-eqb f.faulty 0 z, e)
