-- What an action makes of the numbers of a deadline table, from what was found of them, is what the step of the second engine makes of the state
-- that they tell. Assumes nothing.
use Prim.Native.Nat.{ℕ, ◌-◌, ◌≤◌}
use mathlib.Core.Path.{◌≡◌, sym, ap, subst, ◌∙◌}
use mathlib.Core.Logic.{◌≢◌}
use mathlib.Core.Bool.{true, cond, not}
use mathlib.Core.List.{List}
use native.Mathlib.Omega.{arith}
use lib.Dec.{eqb}
use lib.ListN.{length, get_or, set}
use borrow.Author.Tests.{eq-eqb, ne_eqb}
use Rattle.model.specs.declared.Transition.{Transition}
use Rattle.model.specs.declared.Answer.{Answer}
use Rattle.model.specs.Acts.{wait_act, last_act}
use Rattle.model.specs.States.{limit_in}
use Rattle.model.specs.Actions.{transition_of}
use Rattle.model.specs.Answers.{answer_of}
use Rattle.model.proofs.Tests.{if_eq, and_true_iff}
use Rattle.rules.specs.declared.survey.Survey.{Survey}
use Rattle.rules.specs.Judging.{slot_of, row_of, judged}
use Rattle.rules.proofs.Rows.{row_is}
use Rattle.rules.proofs.Slots.{slot_in, slot_below}
use Rattle.rules.proofs.Pass.{Whole}
use Rattle.layout.specs.Encodings.{limit_place, b_in, c_in}
use Rattle.layout.specs.Interface.{Lent, lent_gave}
use Rattle.layout.specs.Places.{clocked}
use Rattle.layout.specs.Steps.{scene_in, row_in}
use Rattle.layout.proofs.Acts.{lent-gave}
use Rattle.layout.proofs.Numbers.{limits_size}
use Rattle.deadlines.specs.Types.{DeadlineLocation}
use Rattle.deadlines.specs.Types.{DeadlineProcess}
use Rattle.deadlines.specs.Types.{DeadlineState}
use Rattle.deadlines.specs.Types.{DeadlineOutcome}
use Rattle.deadlines.specs.Deadlines.{entry_with, idle_with, entry_in, sound_with, changed_with, step_with}
use Rattle.deadlines.specs.Looks.{dated_with}
use Rattle.deadlines.specs.Matching.{arrived}
use Rattle.deadlines.proofs.Passing.{standing_with, sound_parts_with, small, SurveyedWith}
use Rattle.deadlines.proofs.Judging.{GoesWith, refuse, wait, move, goes_with, within, exit_refused_with, exit_waited_with, exit_moved_with}
use Rattle.deadline_layout.specs.Encodings.{deadline_length, stage_place_with, first_place, last_place, state_numbers_with, state_with_in}
use Rattle.deadline_layout.specs.Places.{location_in, entries_told, placed_with}
use Rattle.deadline_layout.specs.Steps.{survey_with, action_put_with, answer_in, acted_with}
use Rattle.deadline_layout.proofs.Numbers.{Told, state_numbers_told}
use Rattle.deadline_layout.proofs.Storing.{moved_stored, waited_stored}
use Rattle.deadline_layout.proofs.Entries.{limit-at, entry_at, entries_size, each_told}
use Rattle.deadline_layout.proofs.Surveys.{tell_sound, Found, faulty, whole, survey_found}

-- an accepted action that is no wait is that of a process up to 96
acting_few : {d : DeadlineState} {act p m : ℕ} {o : DeadlineOutcome} {j : Answer} → GoesWith d act p m o j → j.code ≡ 0 → act ≢ wait_act → p ≤ 96
acting_few (refuse e n) z some = absurd (n z)
acting_few (wait w e o h) z some = absurd (some w)
acting_few (move a b c to e h) z some = to

-- the outcome of a step in numbers
abbrev pub outcome_numbers : DeadlineOutcome → Lent
outcome_numbers o = lent_gave o.answer (state_numbers_with o.state)

module _ (l : List ℕ) (long : length l ≡ deadline_length) (act p m : ℕ) where
  abbrev d : DeadlineState
  d = state_with_in l

  abbrev slot : ℕ
  slot = slot_of p

  -- numbers in which a fault was found are refused with 1, and stay
  faulty_acted : (f : Survey) → f.faulty ≢ 0 → acted_with l f act p m ≡ lent_gave (answer_of 1 0 0) l
  unfolding acted_with judged
  faulty_acted f z = simp (ne_eqb f.faulty 0 z)

  module _ (sound : tell_sound l ≡ true) where
    all_told : entries_told l ≡ true
    all_told = ((and_true_iff (entries_told l) _).0 sound).0

    is-sound : sound_with d ≡ true
    is-sound = ((and_true_iff (entries_told l) _).0 sound).1

    -- they are those of the state
    are_numbers : state_numbers_with d ≡ l
    are_numbers = state_numbers_told l (omega arith) all_told

    -- those of the acting process are its stage and its times
    own_told : Told (get_or l (stage_place_with slot) 0) (get_or l (first_place slot) 0) (get_or l (last_place slot) 0)
    own_told = each_told l long slot (slot_below p) all_told

    own_is : 1 ≤ p → p ≤ 96 → location_in l slot ≡ (entry_in d p).location
    unfolding entry_in
    own_is from to =
        ap (location_in l) (slot_in p to) ∙ sym (ap (λ (q : DeadlineProcess). q.location) (entry_at l long (p - 1) (omega arith) idle_with))

    row : act ≢ wait_act → act ≤ last_act → row_in l act p m ≡ transition_of d.word act p m
    unfolding state_with_in
    row some known = row_is d.word act p m some known

    stands : standing_with d ≡ true
    stands = ((and_true_iff (standing_with d) _).0 (sym (sound_parts_with d) ∙ is-sound)).0

    abbrev t : Transition
    t = row_in l act p m

    abbrev put : List ℕ
    put = action_put_with l slot act t m

    -- what is written is what the step changes
    wait_put : act ≡ wait_act → put ≡ state_numbers_with (changed_with d m d.word d.processes)
    unfolding action_put_with row_of state_with_in
    wait_put w = rw (eq-eqb act wait_act w) (sym (waited_stored d m ∙ ap (λ (k : List ℕ). clocked k m d.word) are_numbers))

    abbrev reached : DeadlineLocation
    reached = dated_with d.parameters.b d.parameters.c (limit_in d.parameters p) t.to

    -- they have 96 values of a, and that of the acting process is read
    own_size : length d.parameters.a ≡ 96
    unfolding state_with_in
    own_size = limits_size l (omega arith)

    dated_is : p ≤ 96 → dated_with (b_in l) (c_in l) (get_or l (limit_place slot) 0) t.to ≡ reached
    unfolding state_with_in
    dated_is to = ap (λ (limit : ℕ). dated_with (b_in l) (c_in l) limit t.to) (limit-at l p slot (slot_in p to) (slot_below p))

    move_put : act ≢ wait_act → p ≤ 96 → put ≡ state_numbers_with (changed_with d m t.word (set d.processes slot (entry_with reached)))
    unfolding action_put_with
    move_put some to =
        rw (ne_eqb act wait_act some)
        (ap (λ (q : DeadlineLocation). clocked (placed_with l slot q) m t.word) (dated_is to)
        ∙ sym (moved_stored d own_size m t.word slot reached ∙ ap (λ (k : List ℕ). clocked (placed_with k slot reached) m t.word) are_numbers))

    module _ (f : Survey) (w : Whole (arrived d) p f) where
      abbrev j : Answer
      j = answer_in l f act p m

      abbrev o : DeadlineOutcome
      o = step_with d act p m

      going : GoesWith d act p m o j
      unfolding state_with_in
      going =
          subst (GoesWith d act p m o) (λ i. judged f (scene_in l p) (own_told.stage_is i) (own_told.first_is i) t act m)
          (goes_with d act p m f (location_in l slot) t (SurveyedWith.whole is-sound w) (entries_size l long) own_is row)

      written : lent_gave j (cond (eqb j.code 0) put l) ≡ outcome_numbers o
      unfolding state_with_in
      written = if_eq j.code 0
          (λ z. if_eq act wait_act
          (λ e. ap (lent_gave j) (rw (eq-eqb j.code 0 z) (wait_put e)) ∙ ap outcome_numbers (exit_waited_with d act p m o j going z e))
          (λ some. ap (lent_gave j) (rw (eq-eqb j.code 0 z) (move_put some (acting_few going z some)))
          ∙ ap outcome_numbers
          (exit_moved_with d act p m slot t o j (slot_in p) row
          (within f (scene_in l p) (get_or l (stage_place_with slot) 0) (get_or l (first_place slot) 0) t act m z) (small d stands) going z some)))
          (λ n. ap (lent_gave j) (rw (ne_eqb j.code 0 n) (sym are_numbers)) ∙ ap outcome_numbers (exit_refused_with d act p m o j going n))

      whole_acted : acted_with l f act p m ≡ outcome_numbers o
      unfolding acted_with
      whole_acted = written

  -- Both

  acted : {f : Survey} → Found l p f
      → acted_with l f act p m ≡ cond (not (tell_sound l)) (lent_gave (answer_of 1 0 0) l) (outcome_numbers (step_with d act p m))
  acted {f} (faulty e z) = faulty_acted f z ∙ sym (rw e)
  acted {f} (whole e w) = whole_acted e f w ∙ sym (rw e)

  -- of what the pass finds
  pub step_acted : acted_with l (survey_with l p) act p m ≡ cond (not (tell_sound l)) (lent_gave (answer_of 1 0 0) l) (outcome_numbers (step_with d act p m))
  step_acted = acted (survey_found l long p)

-- Of the function: what it gives back, from what the functions that it calls ensure

module _ (l : List ℕ) (f : Survey) (act p m at : ℕ) (at-is : at ≡ slot_of p) {t : Transition} {j : Answer} (t-is : t ≡ row_in l act p m)
    (j-is : j ≡ judged f (scene_in l p) (get_or l (stage_place_with at) 0) (get_or l (first_place at) 0) t act m) where
  answer_is : j ≡ answer_in l f act p m
  answer_is = j-is ∙ (λ i. judged f (scene_in l p) (get_or l (stage_place_with (at-is i)) 0) (get_or l (first_place (at-is i)) 0) (t-is i) act m)

  pub acted_accepted : j.code ≡ 0 → {new : List ℕ} → new ≡ action_put_with l at act t m
      → lent_gave j new ≡ acted_with l f act p m
  unfolding acted_with
  acted_accepted z e =
      let accepted : (answer_in l f act p m).code ≡ 0 = sym (ap (λ (r : Answer). r.code) answer_is) ∙ z in
      lent-gave answer_is
      (e ∙ (λ i. action_put_with l (at-is i) act (t-is i) m) ∙ sym (rw (eq-eqb (answer_in l f act p m).code 0 accepted)))

  pub acted_refused : j.code ≢ 0 → lent_gave j l ≡ acted_with l f act p m
  unfolding acted_with
  acted_refused n =
      lent-gave answer_is (sym (rw (ne_eqb (answer_in l f act p m).code 0 (λ z. n (ap (λ (r : Answer). r.code) answer_is ∙ z)))))
