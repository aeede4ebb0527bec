-- The pass over the numbers of a table finds what the pass over the entries of the state finds that they tell, or a fault where they tell
-- no sound one. Assumes nothing.
use Rattle.std.proofs.Common.{◌≡◌, ℕ, zero, suc, ◌+◌, ◌-◌, ◌*◌, ◌<◌, ◌≤◌, Bool, true, false, cond, not, ◌&&◌, eqb, ◌≢◌, List, length}
use Rattle.std.proofs.Common.{get_or, take, drop, sym, refl, ap, ◌∙◌, subst, arith, length-drop, length-take-le, get_or-drop, get_or-take, eq-eqb}
use Rattle.std.proofs.Common.{ne_eqb, eqb-true}
use mathlib.Core.Bool.{and-false}
use borrow.Author.Tests.{eqb-false, not-true, not-false}
use Rattle.model.specs.Types.{Location}
use Rattle.model.specs.declared.Location.TheVariants.{Remainder}
use Rattle.model.specs.declared.Parameters.{Parameters}
use Rattle.model.specs.Types.{Process}
use Rattle.model.specs.Types.{State}
use Rattle.model.specs.States.{idle, limit_at, entries_sound, sound_of, location_at}
use Rattle.layout.specs.Encodings.{limits_place, stride, table_length, stage_place, count_in, limits_told, table_parameters, clock_in, word_in}
use Rattle.layout.specs.Encodings.{processes_in, state_in, are_entries}
use Rattle.layout.specs.Places.{entries_in, tells_location, entry_in, location_in, entries_from, first_entries}
use Rattle.values.specs.Bits.{are_zero}
use Rattle.layout.proofs.Entries.{left_sound, entry-in, entries_size, next_told, left-sound, above_are_zero, entries_next, entries_end, first_next}
use Rattle.layout.proofs.Entries.{zero_at, zeros_tell}
use Rattle.model.proofs.Lists.{part_is}
use Rattle.model.proofs.Tests.{by_test, by_cond, tests, and_true_iff, clash}
use Rattle.rules.specs.declared.survey.Scene.{Scene}
use Rattle.rules.specs.declared.survey.Survey.{Survey}
use Rattle.rules.specs.Survey.{numbers_stand, nothing, unsound, noted, numbers_noted}
use Rattle.layout.proofs.Looks.{numbers-noted, numbers_faulty}
use Rattle.rules.proofs.Pass.{standing, sound_parts, Passed, nothing_passed, turn_fault, turn_passed, passed_whole, Whole}
use Rattle.layout.specs.Steps.{entries_noted, scene_in, pass_in, survey_in}

-- Whether the numbers of a table tell a sound one

abbrev pub tell_sound : List ℕ → Bool
tell_sound l = are_entries (entries_from l 0) && sound_of (state_in l)

module _ (l : List ℕ) where
  -- a table is sound where its numbers stand, and all its entries are sound
  parts : tell_sound l ≡ are_entries (entries_from l 0) && (standing (state_in l) && entries_sound (state_in l) 1 (processes_in (entries_from l 0)))
  unfolding state_in
  parts = ap (λ (u : Bool). are_entries (entries_from l 0) && u) (sound_parts (state_in l))

  pub numbers_fault : standing (state_in l) ≡ false → tell_sound l ≡ false
  numbers_fault e = parts ∙ rw e (and-false (are_entries (entries_from l 0)))

  all_left : tell_sound l ≡ true → left_sound l 0 ≡ true
  all_left e =
      let h = simp tests at (sym parts ∙ e) in
      (and_true_iff _ _).1 (h.0, h.1.1)

-- it is not sound where the numbers above n are not all 0
pub above_fault : (l : List ℕ) → length l ≡ table_length → (n : ℕ) → n ≡ (state_in l).parameters.n → n ≤ 96
    → are_zero (entries_from l n) ≡ false → tell_sound l ≡ false
above_fault l long n is few e =
    by_test (tell_sound l)
    (λ t. clash (left-sound l long n few (all_left l t)) (above_are_zero (state_in l) (96 - n) (n + 1) (entries_from l n) left_long (omega arith) ∙ e))
    (λ t. t)
  where
    left_long : length (entries_from l n) ≡ stride * (96 - n)
    left_long = length-drop (stage_place n) l ∙ omega arith

-- what is found of the numbers l: a fault, or all that they tell
pub data Found (l : List ℕ) (acting : ℕ) (f : Survey) : Type 0 where
  faulty : tell_sound l ≡ false → f.faulty ≢ 0 → Found l acting f
  whole : tell_sound l ≡ true → Whole (state_in l) acting f → Found l acting f

module _ (l : List ℕ) (long : length l ≡ table_length) (acting : ℕ) where
  abbrev s : State
  s = state_in l

  abbrev n : ℕ
  n = count_in l

  unsound_found : tell_sound l ≡ false → Found l acting unsound
  unsound_found e = faulty e (λ z. omega arith)

  -- i entries are passed, and each of them was told
  record Along (i : ℕ) (f : Survey) : Type 0 where
    passed : Passed s acting i f
    told : are_entries (entries_from l i) ≡ are_entries (entries_from l 0)

  -- The next entry

  module _ (i : ℕ) (f : Survey) (along : Along i f) (more : i < 96) where
    abbrev tell : Bool
    tell = tells_location (entry_in l i)

    not_told : tell ≡ false → tell_sound l ≡ false
    not_told e =
        let none : are_entries (entries_from l i) ≡ false = next_told l long i more ∙ ap (λ (u : Bool). u && are_entries (entries_from l (i + 1))) e in
        ap (λ (u : Bool). u && sound_of s) (sym along.told ∙ none)

    -- it is what the state has there
    module _ (few : i < n) (e : tell ≡ true) where
      abbrev next : Survey
      next = numbers_noted (scene_in l acting) (i + 1) (entry_in l i).stage (entry_in l i).since (limit_at (limits_told l) (i + 1)) f

      is_noted : next ≡ noted (scene_in l acting) (i + 1) (get_or s.processes i idle).location (limit_at (limits_told l) (i + 1)) f
      is_noted =
          numbers-noted (scene_in l acting) (i + 1) (entry_in l i).stage (entry_in l i).since (limit_at (limits_told l) (i + 1)) f (omega arith) e
          ∙ ap (λ (q : Process). noted (scene_in l acting) (i + 1) q.location (limit_at (limits_told l) (i + 1)) f) (sym (entry-in l long i more idle))

      next_along : next.faulty ≡ 0 → Along (i + 1) next
      unfolding state_in
      next_along z = record {
        passed = turn_passed s acting i (i + 1) f along.passed more refl idle next is_noted z;
        told = sym (next_told l long i more ∙ rw e) ∙ along.told;
      }

      next_fault : next.faulty ≢ 0 → tell_sound l ≡ false
      unfolding state_in
      next_fault z = rw (turn_fault s acting i (i + 1) f along.passed more refl idle next is_noted z) (and-false (are_entries (entries_from l 0)))

  -- The entries up to n

  -- what all of them give, from the next one on
  data Ends : Survey → Type 0 where
    fault : tell_sound l ≡ false → Ends unsound
    along : {f : Survey} → Along n f → Ends f

  pass_ends : (j i : ℕ) (f : Survey) → i + j ≡ n → n ≤ 96 → Along i f
      → Ends (entries_noted (limits_told l) (scene_in l acting) (i + 1) (entries_in (first_entries j (entries_from l i))) f)
  unfolding entries_noted entries_in
  pass_ends zero i f e few a = along (subst (λ (k : ℕ). Along k f) (omega arith) a)
  pass_ends (suc j) i f e few a =
      let more : i < 96 = omega arith in
      rw (first_next l long j i more)
      (by_test {A = Ends _} (tells_location (entry_in l i))
      (λ t. by_cond Ends (eqb (next i f a more (omega arith) t).faulty 0)
      (λ z. pass_ends j (i + 1) (next i f a more (omega arith) t) (omega arith) few (next_along i f a more (omega arith) t (eqb-true _ _ z)))
      (λ z. fault (next_fault i f a more (omega arith) t (eqb-false _ _ z))))
      (λ t. rw (numbers_faulty (scene_in l acting) (i + 1) (entry_in l i).stage (entry_in l i).since (limit_at (limits_told l) (i + 1)) f t)
      (fault (not_told i f a more t))))

  -- The entries above n

  module _ (zeros : are_zero (entries_from l n) ≡ true) where
    -- behind those up to n each number is 0
    number_zero : (k : ℕ) → stage_place n ≤ k → get_or l k 0 ≡ 0
    number_zero k h =
        let e : stage_place n + (k - stage_place n) ≡ k = omega arith in
        sym (ap (λ (j : ℕ). get_or l j 0) e) ∙ sym (get_or-drop (stage_place n) l (k - stage_place n) 0) ∙ zero_at (entries_from l n) (k - stage_place n) zeros

    idle_above : (i : ℕ) → n ≤ i → location_in l i ≡ Remainder
    idle_above i h = ap (λ (k : ℕ). location_at k (entry_in l i).since) (number_zero (stage_place i) (omega arith))

    idle_noted : (i : ℕ) → n ≤ i → i < 96 → (f : Survey)
        → f ≡ noted (scene_in l acting) (i + 1) (get_or s.processes i idle).location (limit_at (limits_told l) (i + 1)) f
    unfolding noted
    idle_noted i h more f =
        ap (λ (to : Location). noted (scene_in l acting) (i + 1) to (limit_at (limits_told l) (i + 1)) f)
        (sym (ap (λ (q : Process). q.location) (entry-in l long i more idle) ∙ idle_above i h))

    above_passed : (j i : ℕ) (f : Survey) → i + j ≡ 96 → n ≤ i → Passed s acting i f → Passed s acting 96 f
    unfolding state_in
    above_passed zero i f e h p = subst (λ (k : ℕ). Passed s acting k f) (omega arith) p
    above_passed (suc j) i f e h p =
        let more : i < 96 = omega arith in
        above_passed j (i + 1) f (omega arith) (omega arith)
        (turn_passed s acting i (i + 1) f p more refl idle f (idle_noted i h more f) p.faultless)

    all_found : n ≤ 96 → {f : Survey} → Along n f → Found l acting f
    all_found few {f} a =
        let w = passed_whole s acting 96 f (above_passed (96 - n) n f (omega arith) (omega arith) a.passed) (omega arith) in
        let told : are_entries (entries_from l 0) ≡ true =
        sym a.told ∙ zeros_tell (96 - n) (entries_from l n) (length-drop (stage_place n) l ∙ omega arith) zeros in
        whole ((and_true_iff (are_entries (entries_from l 0)) (sound_of s)).1 (told, w.sound)) w

  -- of what the entries up to n give, the table is told by those above
  ends_found : n ≤ 96 → {f : Survey} → Ends f
      → Found l acting (cond (not (eqb f.faulty 0)) unsound (cond (not (are_zero (entries_from l n))) unsound f))
  unfolding state_in
  ends_found few (fault e) = unsound_found e
  ends_found few (along {f} a) =
      rw (eq-eqb f.faulty 0 a.passed.faultless)
      (by_cond (Found l acting) (not (are_zero (entries_from l n))) (λ z. unsound_found (above_fault l long n refl few (not-true _ z)))
      (λ z. all_found (not-false _ z) few a))

-- Of the loop over the first entries of a table: the next one, and the end

module _ (l : List ℕ) (long : length l ≡ table_length) (count : ℕ) (few : count ≤ 96) (x : Scene) where
  -- the numbers of the first entries
  abbrev ns : List ℕ
  ns = first_entries count (entries_from l 0)

  ns_long : length ns ≡ stride * count
  ns_long = length-take-le (stride * count) (entries_from l 0) (omega (arith, length-drop (stage_place 0) l))

  -- those from the entry i on, of which g is found of the first after f
  pub entry_noted : (i : ℕ) → i < count → (f g : Survey)
      → g ≡ numbers_noted x (i + 1) (entry_in l i).stage (entry_in l i).since (get_or l (limits_place + i) 0) f
      → entries_noted (limits_told l) x (i + 1) (entries_in (drop (stride * i) ns)) f
      ≡ cond (eqb g.faulty 0) (entries_noted (limits_told l) x (i + 1 + 1) (entries_in (drop (stride * (i + 1)) ns)) g) unsound
  unfolding entries_noted limit_at
  entry_noted i more f g e =
      let at : i + 1 - 1 ≡ i = omega arith in
      let next : stride * i + stride ≡ stride * (i + 1) = omega arith in
      let limit : get_or (limits_told l) i 0 ≡ get_or l (limits_place + i) 0 =
      get_or-take 96 (drop limits_place l) i 0 (omega arith) ∙ get_or-drop limits_place l i 0 in
      let stage : get_or ns (stride * i) 0 ≡ (entry_in l i).stage =
      get_or-take (stride * count) (entries_from l 0) (stride * i) 0 (omega arith) ∙ get_or-drop (stage_place 0) l (stride * i) 0 in
      let since : get_or ns (stride * i + 1) 0 ≡ (entry_in l i).since =
      get_or-take (stride * count) (entries_from l 0) (stride * i + 1) 0 (omega arith) ∙ get_or-drop (stage_place 0) l (stride * i + 1) 0
      ∙ ap (λ (j : ℕ). get_or l j 0) (omega arith) in
      rw (e, entries_next ns (stride * i) (omega (arith, ns_long)), at, next, limit, stage, since)

  pub all_noted : (i : ℕ) → count ≡ i → (f : Survey) → entries_noted (limits_told l) x (i + 1) (entries_in (drop (stride * i) ns)) f ≡ f
  unfolding entries_noted
  all_noted i e f = rw (entries_end ns (stride * i) (omega (arith, ns_long)))

-- All of it

pub stand_few : (k : Parameters) (clock word : ℕ) → numbers_stand k clock word ≡ true → k.n ≤ 96
unfolding numbers_stand
stand_few k clock word e = omega (arith, simp tests at e)

pub survey_found : (l : List ℕ) → length l ≡ table_length → (acting : ℕ) → Found l acting (survey_in l acting)
unfolding survey_in state_in
survey_found l long acting =
    by_cond (Found l acting) (not (standing (state_in l))) (λ e. unsound_found l long acting (numbers_fault l (not-true _ e)))
    (λ e. let stand : standing (state_in l) ≡ true = not-false _ e in
    let few = stand_few (state_in l).parameters (state_in l).clock (state_in l).word stand in
    ends_found l long acting few
    (pass_ends l long acting (state_in l).parameters.n 0 nothing (omega arith) few
    (record { passed = nothing_passed (state_in l) acting stand (entries_size l long); told = refl })))

-- Of the function: what it gives back, from what the functions that it calls ensure

module _ (l : List ℕ) (acting : ℕ) where
  -- the part that is lent is the entries above n
  pub above_is : {end : ℕ} {t : Bool} → length l ≡ table_length → end ≡ stage_place (count_in l)
      → t ≡ are_zero (take (table_length - end) (drop end l)) → t ≡ are_zero (entries_from l (count_in l))
  above_is {end = end} long end_is t-is =
      let whole : take (table_length - end) (drop end l) ≡ drop end l =
      ap (λ (k : ℕ). take (k - end) (drop end l)) (sym long) ∙ part_is l end in
      t-is ∙ ap are_zero (whole ∙ ap (λ (k : ℕ). drop k l) end_is)

  pub standing_not : numbers_stand (table_parameters l) (clock_in l) (word_in l) ≡ false → unsound ≡ survey_in l acting
  unfolding survey_in
  standing_not e = rw e

  module _ (stand : numbers_stand (table_parameters l) (clock_in l) (word_in l) ≡ true) {f : Survey} (is : f ≡ pass_in l acting) where
    pub pass_faulty : f.faulty ≢ 0 → unsound ≡ survey_in l acting
    unfolding survey_in
    pass_faulty n = rw (stand, ← is, ne_eqb f.faulty 0 n)

    module _ (z : f.faulty ≡ 0) where
      pub above_not : are_zero (entries_from l (count_in l)) ≡ false → unsound ≡ survey_in l acting
      unfolding survey_in
      above_not e = rw (stand, ← is, eq-eqb f.faulty 0 z, e)

      pub all_sound : are_zero (entries_from l (count_in l)) ≡ true → f ≡ survey_in l acting
      unfolding survey_in
      all_sound e = rw (stand, ← is, eq-eqb f.faulty 0 z, e)
