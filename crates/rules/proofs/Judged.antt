-- The step of the model goes with the answer that the code judges on numbers, condition by condition; and the exits of the function
-- give that step. Assumes nothing.
use Rattle.std.proofs.Common.{◌≡◌, ℕ, ◌+◌, ◌-◌, ◌^◌, ◌<◌, ◌≤◌, Bool, true, false, cond, not, ◌&&◌, ◌||◌, eqb, ltb, ◌≢◌, length, set, sym}
use Rattle.std.proofs.Common.{refl, ap, ◌∙◌, mod-eq_of_lt, arith, ltb-false, le-ltb, lt-ltb, eq-eqb, ne_eqb, eqb-true}
use borrow.Author.Tests.{not-false}
use Rattle.model.specs.Types.{Location}
use Rattle.model.specs.Types.{State}
use Rattle.model.specs.declared.Transition.{Transition}
use Rattle.model.specs.declared.Answer.{Answer}
use Rattle.model.specs.Types.{Outcome}
use Rattle.model.specs.Stages.{checking}
use Rattle.model.specs.Acts.{wait_act, check_act, last_act, leaves}
use Rattle.model.specs.States.{entry, stage_of, since_of, release, sound_of, entry_of}
use Rattle.model.specs.Actions.{transition_of, changed, waited, moved, effect}
use Rattle.model.specs.Answers.{answer_of, answers, backward, beyond, unknown, misnamed, Due, first_deadline, missed, misplaced, early}
use Rattle.model.specs.Answers.{critical_of, accepts, step_of}
use Rattle.rules.specs.declared.survey.Scene.{Scene}
use Rattle.rules.specs.declared.survey.Survey.{Survey}
use Rattle.rules.specs.Survey.{scene_of, due_so_far}
use Rattle.rules.specs.Judging.{lowest_of, check_from, turn_judged, overdue, judged}
use Rattle.model.proofs.Soundness.{sound_numbers, sound_past}
use Rattle.model.proofs.Tests.{by_test, if_eq, if_lt, tests}
use Rattle.model.proofs.Rows.{row_leaves}
use Rattle.rules.proofs.Critical.{others_all, others_moved}
use Rattle.rules.proofs.Notes.{so_far_is, Finds, none, one}
use Rattle.rules.proofs.Pass.{Whole, Surveyed, faulty, whole}

-- The outcome o of the model goes with the answer j of the code
pub data Goes (s : State) (act p m : ℕ) (o : Outcome) (j : Answer) : Type 0 where
  refuses : o ≡ record { answer = j; state = s } → j.code ≢ 0 → Goes s act p m o j
  waits : act ≡ wait_act → p ≡ 0 → o ≡ record { answer = j; state = waited s m } → j.code ≡ 0 → Goes s act p m o j
  moves : act ≢ wait_act → act ≤ last_act → 1 ≤ p → p ≤ 96 → o ≡ record { answer = j; state = moved s p m (transition_of s.word act p m) }
      → j.code ≡ 0 → Goes s act p m o j

by_both : {s : State} {act p m : ℕ} {o o' : Outcome} {j j' : Answer} (t u : Bool) → t ≡ u
    → (u ≡ true → Goes s act p m o j) → (u ≡ false → Goes s act p m o' j') → Goes s act p m (cond t o o') (cond u j j')
by_both t true e f g = rw e (f refl)
by_both t false e f g = rw e (g refl)

-- the last conditions of `step_of`, for an act that nobody is late for
abbrev turn_of : State → ℕ → ℕ → ℕ → Outcome
turn_of s act p m =
    cond (misplaced (stage_of (entry_of s p).location) act) (answers 9 p 0 s)
    (cond (early (release s (entry_of s p)) act m) (answers 10 p (release s (entry_of s p)) s) (accepts (effect s act p m)))

refusal : {s : State} {act p m : ℕ} {j : Answer} → j.code ≢ 0 → Goes s act p m (record { answer = j; state = s }) j
refusal n = refuses refl n

-- The first deadline against the time

module _ (s : State) (m : ℕ) (f : Survey) (from : s.clock ≤ m) where
  past_is : ltb (s.clock + f.left) m ≡ ltb f.left (m - s.clock)
  past_is =
      if_lt (s.clock + f.left) m (λ h. lt-ltb _ _ h ∙ sym (lt-ltb f.left (m - s.clock) (omega arith)))
      (λ h. le-ltb _ _ h ∙ sym (le-ltb f.left (m - s.clock) (omega arith)))

  missed_is : {d : Due} → Finds s f.process f.left d → missed d m ≡ overdue f s.clock m
  missed_is (none z e) = simp (eq-eqb f.process 0 z)
  missed_is (one n w) = rw past_is

  missed_goes : s.clock + s.parameters.c < 2 ^ 64 → {act p : ℕ} {d : Due} → Finds s f.process f.left d → overdue f s.clock m ≡ true
      → Goes s act p m (answers 8 d.process d.time s) (answer_of 8 f.process (due_so_far s.clock f))
  missed_goes fit (none z e) late = absurd ((simp tests at late).0 z)
  missed_goes fit (one n w) late = rw (so_far_is s.clock f (omega arith)) (refusal (λ z. omega arith))

-- A sound state

module _ (s : State) (act p m : ℕ) (f : Survey) (found : Whole s p f) (size : length s.processes ≡ 96) where
  abbrev scene : Scene
  scene = scene_of s.parameters s.clock p

  wait_goes : act ≡ wait_act → p ≡ 0 → Goes s act p m (accepts (effect s act p m)) (answer_of 0 f.critical m)
  unfolding effect critical_of
  wait_goes e z = rw (eq-eqb act wait_act e) (waits e z (rw (others_all p 1 s.processes (omega arith), found.critical)) refl)

  -- an action of a process from 1 to 96 that nobody is late for
  module _ (some : act ≢ wait_act) (known : act ≤ last_act) (from : 1 ≤ p) (to : p ≤ 96) where
    moves_on : Goes s act p m (accepts (effect s act p m)) (answer_of 0 (lowest_of f.critical p (transition_of s.word act p m).to) m)
    unfolding effect critical_of
    moves_on = rw (ne_eqb act wait_act some)
        (moves some known from to
        (rw (others_moved p 1 s.processes (p - 1) (transition_of s.word act p m).to (omega arith) (omega arith) (omega arith), found.critical))
        refl)

    -- in a sound state the sum of an arrival and b fits
    abbrev own_release : ℕ
    own_release = check_from (entry_of s p).location s.parameters.b

    release_fits : own_release ≡ since_of (entry_of s p).location + s.parameters.b
    unfolding entry_of
    release_fits = mod-eq_of_lt (omega (arith, sound_past s found.sound (p - 1), sound_numbers s found.sound))

    -- a check leaves checking, and there its release is b after its arrival
    check_leaves : act ≡ check_act → leaves act ≡ checking
    unfolding leaves
    check_leaves e = rw e

    module _ (placed : stage_of (entry_of s p).location ≡ leaves act) where
      check_release : act ≡ check_act → release s (entry_of s p) ≡ own_release
      check_release e = simp (eq-eqb (stage_of (entry_of s p).location) checking (placed ∙ check_leaves e)) (sym release_fits)

      early_is : early (release s (entry_of s p)) act m ≡ eqb act check_act && ltb m own_release
      early_is = by_test (eqb act check_act) (λ e. rw (check_release (eqb-true act check_act e))) (λ e. simp e)

    turn_goes : Goes s act p m (turn_of s act p m)
        (turn_judged f.critical p (stage_of (entry_of s p).location) own_release (transition_of s.word act p m) act m)
    unfolding turn_judged
    turn_goes =
        by_both (misplaced (stage_of (entry_of s p).location) act) _
        (rw (row_leaves s.word act p m) (simp (ne_eqb act wait_act some))) (λ _. refusal (λ z. omega arith))
        (λ e. let placed : stage_of (entry_of s p).location ≡ leaves act = eqb-true _ _ (not-false _ e) ∙ row_leaves s.word act p m in
        by_both (early (release s (entry_of s p)) act m) _ (early_is placed)
        (λ h. rw (check_release placed (simp tests at h).0) (refusal (λ z. omega arith)))
        (λ _. moves_on))

  module _ (own : Location) (t : Transition)
      (own_is : 1 ≤ p → p ≤ 96 → own ≡ (entry_of s p).location)
      (t-is : act ≢ wait_act → act ≤ last_act → t ≡ transition_of s.word act p m)
      (few : s.parameters.n ≤ 96) where
    -- past the refusals up to 8: a wait, or an action of a process
    past_late : act ≤ last_act → misnamed s.parameters.n act p ≡ false → Goes s act p m (turn_of s act p m)
        (cond (eqb act wait_act) (answer_of 0 f.critical m) (turn_judged f.critical p (stage_of own) (check_from own s.parameters.b) t act m))
    past_late known named = if_eq act wait_act
        (λ e. rw (eq-eqb act wait_act e, ne_eqb act check_act (λ (q : act ≡ check_act). omega arith))
        (wait_goes e (eqb-true p 0 (not-false (eqb p 0) (rw (eq-eqb act wait_act e) at named)))))
        (λ n. acts n (rw (ne_eqb act wait_act n) at named))
      where
        acts : act ≢ wait_act → eqb p 0 || ltb s.parameters.n p ≡ false → Goes s act p m (turn_of s act p m)
            (cond (eqb act wait_act) (answer_of 0 f.critical m) (turn_judged f.critical p (stage_of own) (check_from own s.parameters.b) t act m))
        acts some h =
            let range : (1 ≤ p) × (p ≤ 96) = omega (arith, simp tests at h) in
            rw (ne_eqb act wait_act some, own_is range.0 range.1, t-is some known)
            (rw (ne_eqb act wait_act some) at (turn_goes some known range.0 range.1))

    -- the answers table, row by row
    sound_goes : Goes s act p m (step_of s act p m) (judged f scene (stage_of own) (check_from own s.parameters.b) t act m)
    unfolding step_of judged
    sound_goes =
        by_both (not (sound_of s)) (not (eqb f.faulty 0)) (ap not (found.sound ∙ sym (eq-eqb _ 0 found.faultless)))
        (λ _. refusal (λ z. omega arith))
        (λ _. by_both (backward s.clock m) _ refl (λ _. refusal (λ z. omega arith))
        (λ onward. let from : s.clock ≤ m = ltb-false m s.clock onward in
        by_both (beyond m) _ refl (λ _. refusal (λ z. omega arith))
        (λ _. by_both (unknown act) _ refl (λ _. refusal (λ z. omega arith))
        (λ known. by_both (misnamed s.parameters.n act p) _ refl (λ _. refusal (λ z. omega arith))
        (λ named. by_both (missed (first_deadline s) m) _ (missed_is s m f from found.finds)
        (missed_goes s m f from (omega (arith, sound_numbers s found.sound)) found.finds)
        (λ _. past_late (ltb-false last_act act known) named))))))

-- Any state

unsound_goes : (s : State) (act p m : ℕ) (f : Survey) (own : Location) (t : Transition) → sound_of s ≡ false → f.faulty ≢ 0
    → Goes s act p m (step_of s act p m) (judged f (scene_of s.parameters s.clock p) (stage_of own) (check_from own s.parameters.b) t act m)
unfolding step_of judged
unsound_goes s act p m f own t e n = rw (e, ne_eqb f.faulty 0 n) (refusal (λ z. omega arith))

-- an unsound state is answered with 1
pub exit_unsound : (s : State) (act p m : ℕ) → sound_of s ≡ false → answers 1 0 0 s ≡ step_of s act p m
unfolding step_of
exit_unsound s act p m e = rw e

pub goes : (s : State) (act p m : ℕ) (f : Survey) (own : Location) (t : Transition)
    → Surveyed s p f → length s.processes ≡ 96
    → (1 ≤ p → p ≤ 96 → own ≡ (entry_of s p).location) → (act ≢ wait_act → act ≤ last_act → t ≡ transition_of s.word act p m)
    → Goes s act p m (step_of s act p m) (judged f (scene_of s.parameters s.clock p) (stage_of own) (check_from own s.parameters.b) t act m)
goes s act p m f own t (faulty e n) size own_is t-is = unsound_goes s act p m f own t e n
goes s act p m f own t (whole w) size own_is t-is = sound_goes s act p m f w size own t own_is t-is (sound_numbers s w.sound).count

-- The exits of the function

pub exit_refused : (s : State) (act p m : ℕ) (o : Outcome) (j : Answer) → Goes s act p m o j → j.code ≢ 0
    → record { answer = j; state = s } ≡ o
exit_refused s act p m o j (refuses e n) h = sym e
exit_refused s act p m o j (waits a z e h') h = absurd (h h')
exit_refused s act p m o j (moves some known from to e h') h = absurd (h h')

pub exit_waited : (s : State) (act p m : ℕ) (o : Outcome) (j : Answer) → Goes s act p m o j → j.code ≡ 0 → act ≡ wait_act
    → record { answer = j; state = waited s m } ≡ o
exit_waited s act p m o j (refuses e n) h a = absurd (n h)
exit_waited s act p m o j (waits a' z e h') h a = sym e
exit_waited s act p m o j (moves some known from to e h') h a = absurd (some a)

-- the entry of a process is stored at its slot
pub exit_moved : (s : State) (act p m slot : ℕ) (t : Transition) (o : Outcome) (j : Answer)
    → (p ≤ 96 → slot ≡ p - 1) → (act ≢ wait_act → act ≤ last_act → t ≡ transition_of s.word act p m) → Goes s act p m o j
    → j.code ≡ 0 → act ≢ wait_act → record { answer = j; state = changed s m t.word (set s.processes slot (entry t.to)) } ≡ o
exit_moved s act p m slot t o j slot_is t-is (refuses e n) h a = absurd (n h)
exit_moved s act p m slot t o j slot_is t-is (waits a' z e h') h a = absurd (a a')
exit_moved s act p m slot t o j slot_is t-is (moves some known from to e h') h a = rw (slot_is to, t-is some known) (sym e)
