-- What an action makes of the numbers of a table, from what was found of them, is what the step makes of the state that they tell.
-- Assumes nothing.
use Rattle.std.proofs.Common.{◌≡◌, ℕ, ◌-◌, ◌≤◌, true, cond, not, eqb, ◌≢◌, List, length, sym, ap, ◌∙◌, arith, eq-eqb, ne_eqb}
use Rattle.model.specs.Types.{Location}
use Rattle.model.specs.Types.{Process}
use Rattle.model.specs.Types.{State}
use Rattle.model.specs.declared.Transition.{Transition}
use Rattle.model.specs.declared.Answer.{Answer}
use Rattle.model.specs.Types.{Outcome}
use Rattle.model.specs.Acts.{wait_act, last_act}
use Rattle.model.specs.States.{idle, stage_of, entry_of}
use Rattle.model.specs.Actions.{transition_of, waited, moved}
use Rattle.model.specs.Answers.{answer_of, step_of}
use Rattle.layout.specs.Encodings.{table_length, b_in, state_numbers, state_in}
use Rattle.layout.specs.Interface.{Lent, lent_gave}
use Rattle.layout.specs.Places.{location_in, clocked, placed_at}
use Rattle.layout.proofs.Numbers.{limits_size, state_numbers_told}
use Rattle.layout.proofs.Storing.{moved_stored, waited_stored}
use Rattle.model.proofs.Tests.{and_true_iff}
use Rattle.rules.specs.declared.survey.Survey.{Survey}
use Rattle.rules.specs.Judging.{slot_of, check_from, row_of, judged}
use Rattle.rules.proofs.Rows.{row_is}
use Rattle.rules.proofs.Slots.{slot_in}
use Rattle.rules.proofs.Pass.{Whole, Surveyed}
use Rattle.rules.proofs.Judged.{Goes, refuses, waits, moves, goes}
use Rattle.layout.specs.Steps.{scene_in, row_in, answer_in, action_put, acted_in, survey_in}
use Rattle.layout.proofs.Entries.{entry-in, entries_size}
use Rattle.layout.proofs.Surveys.{tell_sound, Found, faulty, whole, survey_found}

-- all that is given back is equal where its parts are
pub lent-gave : {r s : Answer} {t u : List ℕ} → r ≡ s → t ≡ u → lent_gave r t ≡ lent_gave s u
lent-gave r t = λ i. lent_gave (r i) (t i)

-- the outcome of a step in numbers
abbrev pub outcome_numbers : Outcome → Lent
outcome_numbers o = lent_gave o.answer (state_numbers o.state)

module _ (l : List ℕ) (long : length l ≡ table_length) (act p m : ℕ) where
  abbrev s : State
  s = state_in l

  -- numbers in which a fault was found are refused with 1, and stay
  faulty_acted : (f : Survey) → f.faulty ≢ 0 → acted_in l f act p m ≡ lent_gave (answer_of 1 0 0) l
  unfolding acted_in judged
  faulty_acted f n = simp (ne_eqb f.faulty 0 n)

  module _ (sound : tell_sound l ≡ true) where
    -- they are those of the state
    are_numbers : state_numbers s ≡ l
    are_numbers = state_numbers_told l (omega arith) ((and_true_iff _ _).0 sound).0

    -- they have 96 values of a
    own_size : length s.parameters.a ≡ 96
    unfolding state_in
    own_size = limits_size l (omega arith)

    own_is : 1 ≤ p → p ≤ 96 → location_in l (slot_of p) ≡ (entry_of s p).location
    unfolding entry_of
    own_is from to =
        ap (location_in l) (slot_in p to) ∙ sym (ap (λ (q : Process). q.location) (entry-in l long (p - 1) (omega arith) idle))

    row : act ≢ wait_act → act ≤ last_act → row_in l act p m ≡ transition_of s.word act p m
    unfolding state_in
    row some known = row_is s.word act p m some known

    -- what is written is what the step changes
    wait_put : act ≡ wait_act → action_put l (slot_of p) act (row_in l act p m) m ≡ state_numbers (waited s m)
    unfolding action_put row_of state_in
    wait_put w = rw (eq-eqb act wait_act w) (sym (waited_stored s m ∙ ap (λ (k : List ℕ). clocked k m s.word) are_numbers))

    move_put : act ≢ wait_act → act ≤ last_act → p ≤ 96
        → action_put l (slot_of p) act (row_in l act p m) m ≡ state_numbers (moved s p m (transition_of s.word act p m))
    unfolding action_put
    move_put some known to =
        let t = transition_of s.word act p m in
        rw (ne_eqb act wait_act some)
        ((λ i. placed_at (clocked l m (row some known i).word) (slot_in p to i) (row some known i).to)
        ∙ sym (moved_stored s own_size p m t ∙ ap (λ (k : List ℕ). placed_at (clocked k m t.word) (p - 1) t.to) are_numbers))

    written : {o : Outcome} {j : Answer} → Goes s act p m o j
        → lent_gave j (cond (eqb j.code 0) (action_put l (slot_of p) act (row_in l act p m) m) l) ≡ outcome_numbers o
    written {o} {j} (refuses e n) = ap (lent_gave j) (rw (ne_eqb j.code 0 n) (sym are_numbers)) ∙ sym (ap outcome_numbers e)
    written {o} {j} (waits w z e h) = ap (lent_gave j) (rw (eq-eqb j.code 0 h) (wait_put w)) ∙ sym (ap outcome_numbers e)
    written {o} {j} (moves some known from to e h) =
        ap (lent_gave j) (rw (eq-eqb j.code 0 h) (move_put some known to)) ∙ sym (ap outcome_numbers e)

    whole_acted : (f : Survey) → Whole s p f → acted_in l f act p m ≡ outcome_numbers (step_of s act p m)
    unfolding acted_in state_in
    whole_acted f w = written (goes s act p m f (location_in l (slot_of p)) (row_in l act p m) (Surveyed.whole w) (entries_size l long) own_is row)

  -- Both

  acted : {f : Survey} → Found l p f → acted_in l f act p m ≡ cond (not (tell_sound l)) (lent_gave (answer_of 1 0 0) l) (outcome_numbers (step_of s act p m))
  acted {f} (faulty e n) = faulty_acted f n ∙ sym (rw e)
  acted {f} (whole e w) = whole_acted e f w ∙ sym (rw e)

  -- of what the pass finds
  pub step_acted : acted_in l (survey_in l p) act p m ≡ cond (not (tell_sound l)) (lent_gave (answer_of 1 0 0) l) (outcome_numbers (step_of s act p m))
  step_acted = acted (survey_found l long p)

-- Of the function: what it gives back, from what the functions that it calls ensure

module _ (l : List ℕ) (f : Survey) (act p m slot : ℕ) (at : slot ≡ slot_of p) {own : Location} {t : Transition} {j : Answer}
    (own_is : own ≡ location_in l slot) (t-is : t ≡ row_in l act p m)
    (j-is : j ≡ judged f (scene_in l p) (stage_of own) (check_from own (b_in l)) t act m) where
  answer_is : j ≡ answer_in l f act p m
  answer_is = j-is ∙ (λ i. judged f (scene_in l p) (stage_of (own_at i)) (check_from (own_at i) (b_in l)) (t-is i) act m)
    where
      own_at : own ≡ location_in l (slot_of p)
      own_at = own_is ∙ ap (location_in l) at

  pub acted_accepted : j.code ≡ 0 → {new : List ℕ} → new ≡ action_put l slot act t m → lent_gave j new ≡ acted_in l f act p m
  unfolding acted_in
  acted_accepted z e =
      let accepted : (answer_in l f act p m).code ≡ 0 = sym (ap (λ (r : Answer). r.code) answer_is) ∙ z in
      lent-gave answer_is (e ∙ (λ i. action_put l (at i) act (t-is i) m) ∙ sym (rw (eq-eqb (answer_in l f act p m).code 0 accepted)))

  pub acted_refused : j.code ≢ 0 → lent_gave j l ≡ acted_in l f act p m
  unfolding acted_in
  acted_refused n =
      lent-gave answer_is (sym (rw (ne_eqb (answer_in l f act p m).code 0 (λ z. n (ap (λ (r : Answer). r.code) answer_is ∙ z)))))
