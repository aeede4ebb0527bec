-- The laws of states that match: what the second engine looks at in `matched s` is what the first looks at in s, so that one step of the two gives the
-- same answer and states that match; and a sound state of deadlines is the one that matches the state of its arrivals. Assumes nothing.
use Rattle.std.proofs.Common.{◌≡◌, ℕ, zero, suc, ◌+◌, ◌-◌, ◌≤◌, Bool, true, false, cond, not, ◌&&◌, eqb, ltb, leb, List, [], ◌∷◌, length}
use Rattle.std.proofs.Common.{get_or, set, sym, refl, ap, ◌∙◌, arith, eq-eqb, eqb-true, le-leb}
use Rattle.model.specs.Types.{Location}
use Rattle.model.specs.declared.Location.TheVariants.{Remainder, Testing, Setting, Checking, Entering, Critical, Resetting, Leaving}
use Rattle.model.specs.Types.{Process}
use Rattle.model.specs.declared.Parameters.{Parameters}
use Rattle.model.specs.Types.{State}
use Rattle.model.specs.declared.Transition.{Transition}
use Rattle.model.specs.Types.{Outcome}
use Rattle.model.specs.Stages.{remainder}
use Rattle.model.specs.Acts.{wait_act}
use Rattle.model.specs.States.{entry, idle, stage_of, timed, bounded, deadline, limit_in, deadline_in, release_in}
use Rattle.model.specs.States.{entry_sound, entries_sound, sound_of, entry_of}
use Rattle.model.specs.Actions.{transition_of, moved, effect}
use Rattle.model.specs.Answers.{beyond, unknown, misnamed, missed, misplaced, early, Due, due, sooner, first_by, first_deadline}
use Rattle.model.specs.Answers.{critical_by, critical_of, Sight, sight_of, judged_by, answers, accepts, step_of}
use Rattle.deadlines.specs.Types.{DeadlineLocation}
use Rattle.model.specs.declared.Location.TheVariants as with
use Rattle.deadlines.specs.Types.{DeadlineProcess}
use Rattle.deadlines.specs.Types.{DeadlineState}
use Rattle.deadlines.specs.Types.{DeadlineOutcome}
use Rattle.deadlines.specs.Deadlines.{period, stage_with, timed_with, first_of, last_of, dated_at, entry_with, idle_with, entry_in, of_one_arrival}
use Rattle.deadlines.specs.Deadlines.{entry_sound_with, entries_sound_with, sound_with, first_last, critical_with, sight_with, moved_with, effect_with}
use Rattle.deadlines.specs.Deadlines.{answers_with, accepts_with, step_with}
use Rattle.deadlines.specs.Matching.{dated_from, matched, arrived_at, arrived_from, arrived}
use Rattle.model.proofs.Tests.{by_test, clash, tests, and_true_iff}

pub add-zero : (i : ℕ) → i + 0 ≡ i
add-zero i = omega arith

add_next : (i j : ℕ) → i + 1 + j ≡ i + suc j
add_next i j = omega arith

-- A location

-- what is written out of one, and what of that leads back
pub record Dated (k : Parameters) (i : ℕ) (l : Location) : Type 0 where
  pub stage : stage_with (dated_at k i l) ≡ stage_of l
  pub first : first_of (dated_at k i l) ≡ release_in k l
  pub back : arrived_at k.b (dated_at k i l) ≡ l

-- an arrival comes back from the first time
pub less_opens : (t b : ℕ) → t + b - b ≡ t
less_opens t b = omega arith

pub dated_is : (k : Parameters) (i : ℕ) (l : Location) → Dated k i l
dated_is k i Remainder = record { stage = refl; first = refl; back = refl }
dated_is k i (Testing t) = record { stage = refl; first = refl; back = ap Testing (less_opens t 0) }
dated_is k i (Setting t) = record { stage = refl; first = refl; back = ap Setting (less_opens t 0) }
dated_is k i (Checking t) = record { stage = refl; first = refl; back = ap Checking (less_opens t k.b) }
dated_is k i (Entering t) = record { stage = refl; first = refl; back = ap Entering (less_opens t 0) }
dated_is k i Critical = record { stage = refl; first = refl; back = refl }
dated_is k i (Resetting t) = record { stage = refl; first = refl; back = ap Resetting (less_opens t 0) }
dated_is k i (Leaving t) = record { stage = refl; first = refl; back = ap Leaving (less_opens t 0) }

-- the way back: a location whose times are those of one arrival, or that has none
pub stage_arrived : (b : ℕ) (q : DeadlineLocation) → stage_of (arrived_at b q) ≡ stage_with q
stage_arrived b with.Remainder = refl
stage_arrived b (with.Testing t) = refl
stage_arrived b (with.Setting t) = refl
stage_arrived b (with.Checking t) = refl
stage_arrived b (with.Entering t) = refl
stage_arrived b with.Critical = refl
stage_arrived b (with.Resetting t) = refl
stage_arrived b (with.Leaving t) = refl

pub dated_back : (k : Parameters) (i : ℕ) (q : DeadlineLocation) → (timed_with q ≡ true → of_one_arrival k i q ≡ true)
    → dated_at k i (arrived_at k.b q) ≡ q
dated_back k i with.Remainder told = refl
dated_back k i (with.Testing t) told = let h = simp tests at (told refl) in λ j. with.Testing (period (sym h.0 j) (sym h.1 j))
dated_back k i (with.Setting t) told = let h = simp tests at (told refl) in λ j. with.Setting (period (sym h.0 j) (sym h.1 j))
dated_back k i (with.Checking t) told = let h = simp tests at (told refl) in λ j. with.Checking (period (sym h.0 j) (sym h.1 j))
dated_back k i (with.Entering t) told = let h = simp tests at (told refl) in λ j. with.Entering (period (sym h.0 j) (sym h.1 j))
dated_back k i with.Critical told = refl
dated_back k i (with.Resetting t) told = let h = simp tests at (told refl) in λ j. with.Resetting (period (sym h.0 j) (sym h.1 j))
dated_back k i (with.Leaving t) told = let h = simp tests at (told refl) in λ j. with.Leaving (period (sym h.0 j) (sym h.1 j))

-- Entries

pub length_dated : (k : Parameters) (i : ℕ) (qs : List Process) → length (dated_from k i qs) ≡ length qs
unfolding dated_from
length_dated k i [] = refl
length_dated k i (q ∷ qs) = ap suc (length_dated k (i + 1) qs)

pub length_arrived : (k : Parameters) (es : List DeadlineProcess) → length (arrived_from k es) ≡ length es
unfolding arrived_from
length_arrived k [] = refl
length_arrived k (e ∷ es) = ap suc (length_arrived k es)

-- the entry at a place; past the end both are in the remainder
pub dated-at : (k : Parameters) (i : ℕ) (qs : List Process) (j : ℕ)
    → get_or (dated_from k i qs) j idle_with ≡ entry_with (dated_at k (i + j) (get_or qs j idle).location)
unfolding dated_from
dated-at k i [] j = refl
dated-at k i (q ∷ qs) zero = rw (add-zero i)
dated-at k i (q ∷ qs) (suc j) = dated-at k (i + 1) qs j ∙ rw (add_next i j)

pub arrived-at : (k : Parameters) (es : List DeadlineProcess) (j : ℕ)
    → get_or (arrived_from k es) j idle ≡ entry (arrived_at k.b (get_or es j idle_with).location)
unfolding arrived_from
arrived-at k [] j = refl
arrived-at k (e ∷ es) zero = refl
arrived-at k (e ∷ es) (suc j) = arrived-at k es j

pub dated_set : (k : Parameters) (i : ℕ) (qs : List Process) (j : ℕ) (l : Location)
    → set (dated_from k i qs) j (entry_with (dated_at k (i + j) l)) ≡ dated_from k i (set qs j (entry l))
unfolding dated_from
dated_set k i [] j l = refl
dated_set k i (q ∷ qs) zero l = rw (add-zero i)
dated_set k i (q ∷ qs) (suc j) l =
    ap (λ (es : List DeadlineProcess). entry_with (dated_at k i q.location) ∷ es) (rw (sym (add_next i j)) (dated_set k (i + 1) qs j l))

pub arrived_dated : (k : Parameters) (i : ℕ) (qs : List Process) → arrived_from k (dated_from k i qs) ≡ qs
unfolding dated_from arrived_from
arrived_dated k i [] = refl
arrived_dated k i (q ∷ qs) = λ j. entry ((dated_is k i q.location).back j) ∷ arrived_dated k (i + 1) qs j

-- What the second engine looks at

module _ (s : State) where
  abbrev k : Parameters
  k = s.parameters

  -- two times of one arrival are sound where the arrival is
  times_same : (t opens closes : ℕ)
      → (eqb (t + opens) (t + opens - opens + opens) && eqb (t + closes) (t + opens - opens + closes))
      && leb (t + opens - opens) s.clock && not (ltb (t + closes) s.clock)
      ≡ leb t s.clock && not (ltb (t + closes) s.clock)
  times_same t opens closes = rw (less_opens t opens, eq-eqb (t + opens) (t + opens) refl, eq-eqb (t + closes) (t + closes) refl)

  -- up to n, in a timed location or in another
  up_to : (i x : ℕ) {u v : Bool} → u ≡ v → cond (leb i k.n) u (eqb x remainder) ≡ cond (leb i k.n) v (eqb x remainder)
  up_to i x e = rw e

  untimed : true ≡ leb 0 s.clock && true
  untimed = rw (le-leb 0 s.clock (omega arith))

  entry_same : (i : ℕ) (l : Location) → entry_sound_with (matched s) i (entry_with (dated_at k i l)) ≡ entry_sound s i (entry l)
  entry_same i Remainder = up_to i (stage_of {T = ℕ} Remainder) untimed
  entry_same i (Testing t) = up_to i (stage_of (Testing t)) (times_same t 0 (limit_in k i))
  entry_same i (Setting t) = up_to i (stage_of (Setting t)) (times_same t 0 (limit_in k i))
  entry_same i (Checking t) = up_to i (stage_of (Checking t)) (times_same t k.b k.c)
  entry_same i (Entering t) = up_to i (stage_of (Entering t)) (times_same t 0 (limit_in k i))
  entry_same i Critical = up_to i (stage_of {T = ℕ} Critical) untimed
  entry_same i (Resetting t) = up_to i (stage_of (Resetting t)) (times_same t 0 (limit_in k i))
  entry_same i (Leaving t) = up_to i (stage_of (Leaving t)) (times_same t 0 (limit_in k i))

  entries_same : (i : ℕ) (qs : List Process) → entries_sound_with (matched s) i (dated_from k i qs) ≡ entries_sound s i qs
  unfolding entries_sound_with entries_sound dated_from
  entries_same i [] = refl
  entries_same i (q ∷ qs) = λ j. entry_same i q.location j && entries_same (i + 1) qs j

  -- [12.35]
  pub sound_same : sound_with (matched s) ≡ sound_of s
  unfolding sound_with sound_of
  sound_same = rw (entries_same 1 s.processes)

  -- which entries have a last time, and which one
  abbrev is_timed : DeadlineProcess → Bool
  is_timed q = timed_with q.location

  abbrev last_by : ℕ → DeadlineProcess → ℕ
  last_by i q = last_of q.location

  -- the first deadline so far, one entry on
  due_same : (i : ℕ) (l : Location) (first : Due)
      → cond (sooner (timed_with (dated_at k i l)) (last_of (dated_at k i l)) first) (due i (last_of (dated_at k i l))) first
      ≡ cond (sooner (timed l) (deadline_in k i l) first) (due i (deadline_in k i l)) first
  due_same i Remainder first = refl
  due_same i (Testing t) first = refl
  due_same i (Setting t) first = refl
  due_same i (Checking t) first = refl
  due_same i (Entering t) first = refl
  due_same i Critical first = refl
  due_same i (Resetting t) first = refl
  due_same i (Leaving t) first = refl

  first_same : (i : ℕ) (first : Due) (qs : List Process)
      → first_by is_timed last_by i first (dated_from k i qs) ≡ first_by (bounded s) (deadline s) i first qs
  unfolding first_by dated_from
  first_same i first [] = refl
  first_same i first (q ∷ qs) =
      ap (λ (x : Due). first_by is_timed last_by (i + 1) x (dated_from k (i + 1) qs)) (due_same i q.location first) ∙ first_same (i + 1) _ qs

  critical_same : (i : ℕ) (qs : List Process)
      → critical_by (λ (q : DeadlineProcess). stage_with q.location) i (dated_from k i qs) ≡ critical_by (λ (q : Process). stage_of q.location) i qs
  unfolding critical_by dated_from
  critical_same i [] = refl
  critical_same i (q ∷ qs) = rw ((dated_is k i q.location).stage, critical_same (i + 1) qs)

  pub critical_with_same : critical_with (matched s) ≡ critical_of s
  unfolding critical_with critical_of
  critical_with_same = critical_same 1 s.processes

  pub first_last_same : first_last (matched s) ≡ first_deadline s
  unfolding first_last first_deadline
  first_last_same = first_same 1 _ s.processes

  -- the entry of a process
  pub entry-in : (p : ℕ) → entry_in (matched s) p ≡ entry_with (dated_at k (1 + (p - 1)) (entry_of s p).location)
  unfolding entry_in entry_of
  entry-in p = dated-at k 1 s.processes (p - 1)

  sight_same : (p : ℕ) → sight_with (matched s) p ≡ sight_of s p
  sight_same p = λ j. record {
    sound = sound_same j;
    n = k.n;
    clock = s.clock;
    due = first_last_same j;
    stage = (ap (λ (q : DeadlineProcess). stage_with q.location) (entry-in p) ∙ (dated_is k (1 + (p - 1)) (entry_of s p).location).stage) j;
    release = (ap (λ (q : DeadlineProcess). first_of q.location) (entry-in p) ∙ (dated_is k (1 + (p - 1)) (entry_of s p).location).first) j;
  }

  -- what an accepted action changes
  pub moved_same : (p m : ℕ) (t : Transition) → 1 ≤ p → moved_with (matched s) p m t ≡ matched (moved s p m t)
  moved_same p m t h =
      let e : 1 + (p - 1) ≡ p = omega arith in
      let f : set (dated_from k 1 s.processes) (p - 1) (entry_with (dated_at k p t.to)) ≡ dated_from k 1 (set s.processes (p - 1) (entry t.to)) =
      rw e at (dated_set k 1 s.processes (p - 1) t.to) in
      λ j. record { parameters = k; clock = m; word = t.word; processes = f j }

  effect_same : (act p m : ℕ) → misnamed k.n act p ≡ false → effect_with (matched s) act p m ≡ matched (effect s act p m)
  unfolding effect_with effect
  effect_same act p m named = by_test (eqb act wait_act) (λ e. rw e) (λ e. rw e (moved_same p m (transition_of s.word act p m) (from e)))
    where
      from : eqb act wait_act ≡ false → 1 ≤ p
      from e = omega (arith, simp tests at (rw e at named))

-- A judgement, and a function of what it gives

pub cond_map : {A B : Type 0} (f : A → B) (t : Bool) {x y : A} {u v : B} → u ≡ f x → (t ≡ false → v ≡ f y) → cond t u v ≡ f (cond t x y)
cond_map f true e g = e
cond_map f false e g = g refl

judged_map : {A B : Type 0} (f : A → B) (v : Sight) (act p m : ℕ) (refuses : ℕ → ℕ → ℕ → A) (accepted : A) (others : B)
    → (misnamed v.n act p ≡ false → others ≡ f accepted)
    → judged_by v act p m (λ code process time. f (refuses code process time)) others ≡ f (judged_by v act p m refuses accepted)
judged_map f v act p m refuses accepted others g =
    cond_map f (not v.sound) refl (λ _. cond_map f (ltb m v.clock) refl (λ _. cond_map f (beyond m) refl (λ _.
    cond_map f (unknown act) refl (λ _. cond_map f (misnamed v.n act p) refl (λ named.
    cond_map f (missed v.due m) refl (λ _. cond_map f (misplaced v.stage act) refl (λ _.
    cond_map f (early v.release act m) refl (λ _. g named))))))))

-- One step

-- what the first engine gives back, with the state of deadlines that matches
abbrev pub outcome_matched : Outcome → DeadlineOutcome
outcome_matched o = record { answer = o.answer; state = matched o.state }

accepts_same : (s : State) → accepts_with (matched s) ≡ outcome_matched (accepts s)
accepts_same s = rw (critical_with_same s)

-- [12.80]
pub step_same : (s : State) (act p m : ℕ) → step_with (matched s) act p m ≡ outcome_matched (step_of s act p m)
unfolding step_with step_of
step_same s act p m =
    ap (λ (v : Sight). judged_by v act p m (λ code process time. answers_with code process time (matched s)) next) (sight_same s p)
    ∙ judged_map outcome_matched (sight_of s p) act p m (λ code process time. answers code process time s) (accepts (effect s act p m)) next
    (λ named. rw (effect_same s act p m named) (accepts_same (effect s act p m)))
  where
    next : DeadlineOutcome
    next = accepts_with (effect_with (matched s) act p m)

-- A sound state of deadlines

untimed_idle : (q : DeadlineLocation) → stage_with q ≡ remainder → timed_with q ≡ false
untimed_idle with.Remainder e = refl
untimed_idle (with.Testing t) e = absurd (omega (arith, e))
untimed_idle (with.Setting t) e = absurd (omega (arith, e))
untimed_idle (with.Checking t) e = absurd (omega (arith, e))
untimed_idle (with.Entering t) e = absurd (omega (arith, e))
untimed_idle with.Critical e = refl
untimed_idle (with.Resetting t) e = absurd (omega (arith, e))
untimed_idle (with.Leaving t) e = absurd (omega (arith, e))

entry_told : (d : DeadlineState) (i : ℕ) (q : DeadlineProcess) → entry_sound_with d i q ≡ true
    → entry_with (dated_at d.parameters i (arrived_at d.parameters.b q.location)) ≡ q
entry_told d i q e = ap entry_with (dated_back d.parameters i q.location told)
  where
    told : timed_with q.location ≡ true → of_one_arrival d.parameters i q.location ≡ true
    told t =
        by_test (leb i d.parameters.n)
        (λ h. let one = of_one_arrival d.parameters i q.location in
        ((and_true_iff one _).0 ((and_true_iff (one && _) _).0 (rw (h, t) at e)).0).0)
        (λ h. clash t (untimed_idle q.location (eqb-true _ _ (rw h at e))))

entries-told : (d : DeadlineState) (i : ℕ) (es : List DeadlineProcess) → entries_sound_with d i es ≡ true
    → dated_from d.parameters i (arrived_from d.parameters es) ≡ es
unfolding entries_sound_with dated_from arrived_from
entries-told d i [] e = refl
entries-told d i (q ∷ qs) e =
    let h = (and_true_iff (entry_sound_with d i q) _).0 e in
    λ j. entry_told d i q h.0 j ∷ entries-told d (i + 1) qs h.1 j

-- [12.35]
pub sound_matched : (d : DeadlineState) → sound_with d ≡ true → matched (arrived d) ≡ d
unfolding sound_with
sound_matched d e =
    let f = entries-told d 1 d.processes (simp tests at e).1 in
    λ j. record { parameters = d.parameters; clock = d.clock; word = d.word; processes = f j }

pub arrived_matched : (s : State) → arrived (matched s) ≡ s
arrived_matched s = λ j. record {
  parameters = s.parameters;
  clock = s.clock;
  word = s.word;
  processes = arrived_dated s.parameters 1 s.processes j;
}
