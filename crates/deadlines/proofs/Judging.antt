-- The step of the second engine goes with the answer that the code judges on numbers: what is found of the entries is what the first engine finds of
-- the arrivals, so that its judgement serves both. The exits of the function give that step. Assumes nothing.
use Rattle.std.proofs.Common.{◌≡◌, ℕ, ◌+◌, ◌-◌, ◌≤◌, Bool, true, false, cond, not, ◌&&◌, eqb, ltb, ◌≢◌, length, set, sym, refl, ap, ◌∙◌}
use Rattle.std.proofs.Common.{subst, mod-eq_of_lt, arith, ltb-false, eq-eqb, ne_eqb, eqb-true}
use borrow.Author.Tests.{eqb-false, not-false}
use Rattle.model.specs.Types.{Location}
use Rattle.model.specs.declared.Location.TheVariants.{Remainder, Testing, Setting, Checking, Entering, Critical, Resetting, Leaving}
use Rattle.model.specs.declared.Parameters.{Parameters}
use Rattle.model.specs.Types.{State}
use Rattle.model.specs.declared.Transition.{Transition}
use Rattle.model.specs.declared.Answer.{Answer}
use Rattle.model.specs.Types.{Outcome}
use Rattle.model.specs.Stages.{checking}
use Rattle.model.specs.Acts.{wait_act, try_act, test_act, set_act, check_act, crit_act, exit_act, reset_act, rem_act, last_act, leaves}
use Rattle.model.specs.States.{last_time, limit_in, stage_of, since_of, release_in, entry_of}
use Rattle.model.specs.Actions.{transition_of, moved}
use Rattle.model.specs.Answers.{answer_of, beyond, unknown, misnamed, step_of}
use Rattle.rules.specs.declared.survey.Scene.{Scene}
use Rattle.rules.specs.declared.survey.Survey.{Survey}
use Rattle.rules.specs.Survey.{scene_of, due_from, due_so_far}
use Rattle.rules.specs.Judging.{lowest_of, check_from, turn_judged, overdue, judged}
use Rattle.deadlines.specs.Types.{DeadlineLocation}
use Rattle.model.specs.declared.Location.TheVariants as with
use Rattle.deadlines.specs.Types.{DeadlineProcess}
use Rattle.deadlines.specs.Types.{DeadlineState}
use Rattle.deadlines.specs.Types.{DeadlineOutcome}
use Rattle.deadlines.specs.Deadlines.{period, stage_with, first_of, dated_at, entry_with, entry_in, sound_with, answers_with}
use Rattle.deadlines.specs.Deadlines.{changed_with, moved_with, step_with}
use Rattle.deadlines.specs.Matching.{matched, arrived_at, arrived}
use Rattle.deadlines.specs.Looks.{dated_with}
use Rattle.model.proofs.Rows.{row_leaves}
use Rattle.model.proofs.Soundness.{sound_numbers, sound_past}
use Rattle.model.proofs.Tests.{by_test, by_cond, tests}
use Rattle.rules.proofs.Pass.{Whole}
use Rattle.rules.proofs.Pass as pass
use Rattle.rules.proofs.Judged.{Goes, refuses, waits, moves, goes}
use Rattle.deadlines.proofs.Matched.{add-zero, cond_map, dated_is, stage_arrived, length_arrived, entry-in, moved_same, outcome_matched, step_same}
use Rattle.deadlines.proofs.Matched.{sound_matched}
use Rattle.deadlines.proofs.Passing.{Small, SurveyedWith, faulty, whole}

-- The outcome o of the definitions goes with the answer j of the code
pub data GoesWith (d : DeadlineState) (act p m : ℕ) (o : DeadlineOutcome) (j : Answer) : Type 0 where
  refuse : o ≡ record { answer = j; state = d } → j.code ≢ 0 → GoesWith d act p m o j
  wait : act ≡ wait_act → p ≡ 0
      → o ≡ record { answer = j; state = changed_with d m d.word d.processes } → j.code ≡ 0 → GoesWith d act p m o j
  move : act ≢ wait_act → act ≤ last_act → 1 ≤ p → p ≤ 96
      → o ≡ record { answer = j; state = moved_with d p m (transition_of d.word act p m) } → j.code ≡ 0 → GoesWith d act p m o j

-- The answer looks at the time from which on a process may check only where it checks

cond_same : (a : Answer) (t : Bool) {b c : Answer} → (t ≡ false → b ≡ c) → cond t a b ≡ cond t a c
cond_same a t e = cond_map (λ (r : Answer). r) t refl e

module _ (f : Survey) (x : Scene) (place release other : ℕ) (t : Transition) (act m : ℕ)
    (e : unknown act ≡ false → misnamed x.n act x.acting ≡ false → act ≢ wait_act → eqb place t.from ≡ true → act ≡ check_act
    → release ≡ other) where
  -- the last two answers
  abbrev ends : ℕ → Answer
  ends r = cond (eqb act check_act && ltb m r) (answer_of 10 x.acting r) (answer_of 0 (lowest_of f.critical x.acting t.to) m)

  ends_same : unknown act ≡ false → misnamed x.n act x.acting ≡ false → act ≢ wait_act → eqb place t.from ≡ true
      → ends release ≡ ends other
  ends_same known named some placed = by_test (eqb act check_act) (λ c. ap ends (e known named some placed (eqb-true act check_act c))) (λ c. rw c)

  pub judged_same : judged f x place release t act m ≡ judged f x place other t act m
  unfolding judged turn_judged
  judged_same =
      cond_same (answer_of 1 0 0) (not (eqb f.faulty 0)) (λ _. cond_same (answer_of 4 0 x.clock) (ltb m x.clock) (λ _.
      cond_same (answer_of 5 0 0) (beyond m) (λ _. cond_same (answer_of 6 0 0) (unknown act) (λ known.
      cond_same (answer_of 7 0 0) (misnamed x.n act x.acting) (λ named.
      cond_same (answer_of 8 f.process (due_so_far x.clock f)) (overdue f x.clock m) (λ _.
      cond_same (answer_of 0 f.critical m) (eqb act wait_act) (λ some. cond_same (answer_of 9 x.acting 0) (not (eqb place t.from))
      (λ placed. ends_same known named (eqb-false act wait_act some) (not-false _ placed)))))))))

-- an accepted action is not past the clock's end
pub within : (f : Survey) (x : Scene) (place release : ℕ) (t : Transition) (act m : ℕ) → (judged f x place release t act m).code ≡ 0 → m ≤ last_time
unfolding judged
within f x place release t act m e =
    by_test (not (eqb f.faulty 0)) (λ a. absurd (omega (arith, rw a at e)))
    (λ a. by_test (ltb m x.clock) (λ b. absurd (omega (arith, rw (a, b) at e)))
    (λ b. by_test (beyond m) (λ c. absurd (omega (arith, rw (a, b, c) at e))) (λ c. ltb-false last_time m c)))

-- A state of deadlines that matches a sound state

module _ (s : State) (act p m : ℕ) where
  abbrev k : Parameters
  k = s.parameters

  -- what the first engine does, with the states that match
  goes_matched : (o : Outcome) (j : Answer) → Goes s act p m o j → GoesWith (matched s) act p m (outcome_matched o) j
  goes_matched o j (refuses e n) = refuse (ap outcome_matched e) n
  goes_matched o j (waits a z e h) = wait a z (ap outcome_matched e) h
  goes_matched o j (moves some known from to e h) = move some known from to (ap outcome_matched e ∙ (λ i. record { answer = j; state = sym same i })) h
    where
      same : moved_with (matched s) p m (transition_of s.word act p m) ≡ matched (moved s p m (transition_of s.word act p m))
      same = moved_same s p m (transition_of s.word act p m) from

  module _ (f : Survey) (found : Whole s p f) (size : length s.processes ≡ 96) (own : DeadlineLocation) (t : Transition)
      (own_is : 1 ≤ p → p ≤ 96 → own ≡ (entry_in (matched s) p).location)
      (t-is : act ≢ wait_act → act ≤ last_act → t ≡ transition_of s.word act p m) where
    -- the location of the acting process, with its times and with its arrival
    own_dated : 1 ≤ p → p ≤ 96 → own ≡ dated_at k (1 + (p - 1)) (entry_of s p).location
    own_dated from to = own_is from to ∙ ap (λ (q : DeadlineProcess). q.location) (entry-in s p)

    own_arrived : 1 ≤ p → p ≤ 96 → arrived_at k.b own ≡ (entry_of s p).location
    own_arrived from to = ap (arrived_at k.b) (own_dated from to) ∙ (dated_is k (1 + (p - 1)) (entry_of s p).location).back

    past : since_of (entry_of s p).location ≤ s.clock
    unfolding entry_of
    past = sound_past s found.sound (p - 1)

    -- where it checks, its first time is b after its arrival
    release_is : unknown act ≡ false → misnamed k.n act p ≡ false → act ≢ wait_act → eqb (stage_of (arrived_at k.b own)) t.from ≡ true
        → act ≡ check_act → first_of own ≡ check_from (arrived_at k.b own) k.b
    unfolding leaves
    release_is known named some placed check =
        let h = simp tests at (rw (ne_eqb act wait_act some) at named) in
        let range : (1 ≤ p) × (p ≤ 96) = omega (arith, h, (sound_numbers s found.sound).count) in
        let same = own_arrived range.0 range.1 in
        let from : t.from ≡ checking =
        ap (λ (r : Transition). r.from) (t-is some (ltb-false last_act act known)) ∙ row_leaves s.word act p m ∙ rw check in
        let stage : stage_of (entry_of s p).location ≡ checking = ap stage_of (sym same) ∙ eqb-true _ _ placed ∙ from in
        let first : first_of own ≡ release_in k (entry_of s p).location =
        ap first_of (own_dated range.0 range.1) ∙ (dated_is k (1 + (p - 1)) (entry_of s p).location).first in
        let fit : check_from (arrived_at k.b own) k.b ≡ since_of (entry_of s p).location + k.b =
        rw same (mod-eq_of_lt (omega (arith, past, sound_numbers s found.sound))) in
        (rw (eq-eqb (stage_of (entry_of s p).location) checking stage) at first) ∙ sym fit

    matched_goes : GoesWith (matched s) act p m (step_with (matched s) act p m)
        (judged f (scene_of k s.clock p) (stage_with own) (first_of own) t act m)
    matched_goes =
        rw (
          step_same s act p m,
          sym (stage_arrived k.b own),
          judged_same f (scene_of k s.clock p) (stage_of (arrived_at k.b own)) (first_of own) (check_from (arrived_at k.b own) k.b) t act m release_is,
        )
        (goes_matched (step_of s act p m) _ (goes s act p m f (arrived_at k.b own) t (pass.whole found) size own_arrived t-is))

-- Any state of deadlines

abbrev Going : ℕ → ℕ → ℕ → Survey → DeadlineLocation → Transition → DeadlineState → Type 0
Going act p m f own t d = (1 ≤ p → p ≤ 96 → own ≡ (entry_in d p).location)
    → (act ≢ wait_act → act ≤ last_act → t ≡ transition_of d.word act p m)
    → GoesWith d act p m (step_with d act p m) (judged f (scene_of d.parameters d.clock p) (stage_with own) (first_of own) t act m)

-- an unsound one is answered with 1
pub exit_unsound_with : (d : DeadlineState) (act p m : ℕ) → sound_with d ≡ false → answers_with 1 0 0 d ≡ step_with d act p m
unfolding step_with
exit_unsound_with d act p m e = rw e

unsound_goes : (d : DeadlineState) (act p m : ℕ) (f : Survey) (own : DeadlineLocation) (t : Transition) → sound_with d ≡ false → f.faulty ≢ 0
    → Going act p m f own t d
unfolding judged
unsound_goes d act p m f own t e n _ _ = rw (sym (exit_unsound_with d act p m e), ne_eqb f.faulty 0 n) (refuse refl (λ z. omega arith))

pub goes_with : (d : DeadlineState) (act p m : ℕ) (f : Survey) (own : DeadlineLocation) (t : Transition) → SurveyedWith d p f
    → length d.processes ≡ 96 → Going act p m f own t d
goes_with d act p m f own t (faulty e n) size = unsound_goes d act p m f own t e n
goes_with d act p m f own t (whole e w) size =
    subst (Going act p m f own t) (sound_matched d e)
    (matched_goes (arrived d) act p m f w (length_arrived d.parameters d.processes ∙ size) own t)

-- The exits of the function

pub exit_refused_with : (d : DeadlineState) (act p m : ℕ) (o : DeadlineOutcome) (j : Answer) → GoesWith d act p m o j → j.code ≢ 0
    → record { answer = j; state = d } ≡ o
exit_refused_with d act p m o j (refuse e n) h = sym e
exit_refused_with d act p m o j (wait a z e h') h = absurd (h h')
exit_refused_with d act p m o j (move some known from to e h') h = absurd (h h')

pub exit_waited_with : (d : DeadlineState) (act p m : ℕ) (o : DeadlineOutcome) (j : Answer) → GoesWith d act p m o j → j.code ≡ 0 → act ≡ wait_act
    → record { answer = j; state = changed_with d m d.word d.processes } ≡ o
exit_waited_with d act p m o j (refuse e n) h a = absurd (n h)
exit_waited_with d act p m o j (wait a' z e h') h a = sym e
exit_waited_with d act p m o j (move some known from to e h') h a = absurd (some a)

-- the times of the location that is reached fit
abbrev Came : ℕ → Location → Type 0
Came m l = since_of l ≤ m

abbrev Row : ℕ → Transition → Type 0
Row m t = Came m t.to

row_since : (word act p m : ℕ) → since_of (transition_of word act p m).to ≤ m
unfolding transition_of
row_since word act p m =
    by_cond (Row m) (eqb act try_act) (λ _. omega arith)
    (λ _. by_cond (Row m) (eqb act test_act) (λ _. by_cond (Came m) (eqb word 0) (λ _. omega arith) (λ _. omega arith))
    (λ _. by_cond (Row m) (eqb act set_act) (λ _. omega arith)
    (λ _. by_cond (Row m) (eqb act check_act) (λ _. by_cond (Came m) (eqb word p) (λ _. omega arith) (λ _. omega arith))
    (λ _. by_cond (Row m) (eqb act crit_act) (λ _. omega arith) (λ _. by_cond (Row m) (eqb act exit_act) (λ _. omega arith)
    (λ _. by_cond (Row m) (eqb act reset_act) (λ _. omega arith) (λ _. by_cond (Row m) (eqb act rem_act) (λ _. omega arith) (λ _. omega arith))))))))

plain : (t : ℕ) → t ≡ t + 0
plain t = sym (add-zero t)

sum : (t x : ℕ) → t ≤ last_time → x ≤ 10_000_000 → due_from t x ≡ t + x
sum t x h g = mod-eq_of_lt (omega arith)

pub dated_fits : (k : Parameters) (i : ℕ) (l : Location) → since_of l ≤ last_time → k.b ≤ 10_000_000 → k.c ≤ 10_000_000
    → limit_in k i ≤ 10_000_000 → dated_with k.b k.c (limit_in k i) l ≡ dated_at k i l
dated_fits k i Remainder h b c a = refl
dated_fits k i (Testing t) h b c a = λ j. with.Testing (period (plain t j) (sum t (limit_in k i) h a j))
dated_fits k i (Setting t) h b c a = λ j. with.Setting (period (plain t j) (sum t (limit_in k i) h a j))
dated_fits k i (Checking t) h b c a = λ j. with.Checking (period (sum t k.b h b j) (sum t k.c h c j))
dated_fits k i (Entering t) h b c a = λ j. with.Entering (period (plain t j) (sum t (limit_in k i) h a j))
dated_fits k i Critical h b c a = refl
dated_fits k i (Resetting t) h b c a = λ j. with.Resetting (period (plain t j) (sum t (limit_in k i) h a j))
dated_fits k i (Leaving t) h b c a = λ j. with.Leaving (period (plain t j) (sum t (limit_in k i) h a j))

-- the entry of a process is stored at its slot, with sums that do not wrap
pub exit_moved_with : (d : DeadlineState) (act p m slot : ℕ) (t : Transition) (o : DeadlineOutcome) (j : Answer)
    → (p ≤ 96 → slot ≡ p - 1) → (act ≢ wait_act → act ≤ last_act → t ≡ transition_of d.word act p m) → m ≤ last_time → Small d
    → GoesWith d act p m o j → j.code ≡ 0 → act ≢ wait_act
    → (let k = d.parameters in
    record { answer = j; state = changed_with d m t.word (set d.processes slot (entry_with (dated_with k.b k.c (limit_in k p) t.to))) } ≡ o)
exit_moved_with d act p m slot t o j slot_is t-is last few (refuse e n) h a = absurd (n h)
exit_moved_with d act p m slot t o j slot_is t-is last few (wait a' z e h') h a = absurd (a a')
exit_moved_with d act p m slot t o j slot_is t-is last few (move some known from to e h') h a =
    rw (
      slot_is to,
      t-is some known,
      dated_fits d.parameters p (transition_of d.word act p m).to
          (omega (arith, row_since d.word act p m)) few.opens few.closes (few.limit p),
    ) (sym e)
