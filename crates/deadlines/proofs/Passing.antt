-- The pass over the entries of a state of deadlines: a look at an entry finds what a look at its arrival finds, where its two times are those of one,
-- and a fault where they are not. So the pass is that of the first engine over the state of the arrivals. Assumes nothing.
use Rattle.std.proofs.Common.{◌≡◌, ℕ, ◌+◌, ◌-◌, ◌^◌, ◌<◌, ◌≤◌, Bool, true, false, cond, not, ◌&&◌, ◌||◌, eqb, ltb, leb, ◌≢◌, [], ◌∷◌}
use Rattle.std.proofs.Common.{length, get_or, drop, sym, refl, ap, ◌∙◌, mod-eq_of_lt, arith, ltb-false, ltb-true, le-ltb, lt-ltb, eq-eqb}
use Rattle.std.proofs.Common.{ne_eqb, eqb-true, le-leb}
use mathlib.Core.Bool.{false≢true}
use borrow.Author.Tests.{lt-leb, eqb-false, not-true, not-false}
use Rattle.model.specs.Types.{Location}
use Rattle.model.specs.Types.{Process}
use Rattle.model.specs.declared.Parameters.{Parameters}
use Rattle.model.specs.Stages.{remainder, checking, critical}
use Rattle.model.specs.States.{idle, limit_in}
use Rattle.rules.specs.declared.survey.Scene.{Scene}
use Rattle.rules.specs.declared.survey.Survey.{Survey}
use Rattle.rules.specs.Survey.{numbers_stand, scene_of, endless, nothing, unsound, due_from, due_so_far, due_noted, timed_noted, noted}
use Rattle.deadlines.specs.Types.{DeadlineLocation}
use Rattle.model.specs.declared.Location.TheVariants as with
use Rattle.deadlines.specs.Types.{DeadlineProcess}
use Rattle.deadlines.specs.Types.{DeadlineState}
use Rattle.deadlines.specs.Deadlines.{stage_with, timed_with, first_of, last_of, entry_with, idle_with}
use Rattle.deadlines.specs.Deadlines.{times_sound, entry_sound_with, entries_sound_with, sound_with}
use Rattle.deadlines.specs.Matching.{arrived_at, arrived}
use Rattle.deadlines.specs.Looks.{bounds_noted, back_from, settled_by, location_noted, settled_at}
use Rattle.model.proofs.Tests.{by_test, by_cond, if_lt, tests}
use Rattle.model.proofs.Lists.{drop_at, drop_end, row_at}
use Rattle.model.proofs.OwnLimits.{limits_parts, limit_fits}
use Rattle.rules.proofs.Notes.{so_far_is}
use Rattle.rules.proofs.Pass.{Passed, nothing_passed, turn_passed, passed_whole, Whole}
use Rattle.deadlines.proofs.Matched.{arrived-at, length_arrived}

-- The numbers of a state of deadlines

abbrev pub standing_with : DeadlineState → Bool
standing_with d = numbers_stand d.parameters d.clock d.word

pub sound_parts_with : (d : DeadlineState) → sound_with d ≡ standing_with d && entries_sound_with d 1 d.processes
unfolding sound_with numbers_stand
sound_parts_with d = refl

pub numbers_fault_with : (d : DeadlineState) → standing_with d ≡ false → sound_with d ≡ false
numbers_fault_with d e = sound_parts_with d ∙ rw e

-- what standing numbers keep to, so that no sum of a time up to the clock wraps
pub record Small (d : DeadlineState) : Type 0 where
  pub clock : d.clock ≤ 1_000_000_000_000
  pub opens : d.parameters.b ≤ 10_000_000
  pub closes : d.parameters.c ≤ 10_000_000
  pub limit : (i : ℕ) → limit_in d.parameters i ≤ 10_000_000
  pub few : d.parameters.n ≤ 96

pub small : (d : DeadlineState) → standing_with d ≡ true → Small d
unfolding numbers_stand
small d e =
    let h = simp tests at e in
    let parts = limits_parts d.parameters h.0.0.1 in
    record {
      clock = omega (arith, h);
      opens = omega (arith, parts.order, parts.most);
      closes = parts.most;
      limit = limit_fits d.parameters h.0.0.1;
      few = omega (arith, h);
    }

-- What is settled leaves what was found, where no sum wraps and the last time is a number of 64 bits

pub settled_leaves : (clock k first last opens closes : ℕ) (f : Survey) → clock + opens < 2 ^ 64 → closes < 2 ^ 64 → last < 2 ^ 64
    → settled_by (due_so_far clock f) clock first last opens closes ≡ true → bounds_noted clock k first last opens closes f ≡ f
unfolding settled_by bounds_noted
settled_leaves clock k first last opens closes f o c fit e =
    let h = simp tests at e in
    let start : first ≡ back_from last closes + opens = h.1 ∙ mod-eq_of_lt (omega (arith, h.0.1)) in
    let came : first - opens ≡ back_from last closes = omega arith in
    let due : due_from (back_from last closes) closes ≡ last = omega arith in
    rw (
      le-ltb first opens (omega arith),
      came,
      le-ltb clock (back_from last closes) h.0.1,
      due,
      eq-eqb last last refl,
      le-leb (due_so_far clock f) last h.0.0,
    )

-- One entry, that of process i

refuted : {t : Bool} → (t ≡ true → ⊥) → t ≡ false
refuted {t} h = by_test t (λ e. absurd (h e)) (λ e. e)

-- two times that may be sound: g is what is found of them, and h what is found of their arrival
data Times (sound : Bool) (g h : Survey) : Type 0 where
  bad : sound ≡ false → g.faulty ≢ 0 → Times sound g h
  good : sound ≡ true → g ≡ h → g.faulty ≡ 0 → Times sound g h

module _ (d : DeadlineState) (acting i : ℕ) (f : Survey) (stand : standing_with d ≡ true) (so_far : f.faulty ≡ 0) (narrow : f.left ≤ endless) where
  abbrev k : Parameters
  k = d.parameters

  abbrev scene : Scene
  scene = scene_of k d.clock acting

  module _ (first last opens closes : ℕ) where
    abbrev since : ℕ
    since = first - opens

    abbrev are_sound : Bool
    are_sound = (eqb first (since + opens) && eqb last (since + closes)) && leb since d.clock && not (ltb last d.clock)

    abbrev found : Survey
    found = timed_noted d.clock i since closes f

    module _ (few : closes ≤ 10_000_000) where
      fits : since ≤ d.clock → due_from since closes ≡ since + closes
      fits h = mod-eq_of_lt (omega (arith, (small d stand).clock))

      -- the first deadline so far is not before the clock
      ahead : d.clock ≤ due_so_far d.clock f
      ahead = rw (so_far_is d.clock f (omega (arith, (small d stand).clock))) (omega arith)

      -- the arrival is not after the clock, and the last time is the one of that arrival
      told : opens ≤ first → since ≤ d.clock → last ≡ since + closes → Times are_sound (due_noted d.clock i last f) found
      told below past e =
          if_lt last d.clock
          (λ h. bad (refuted (λ t. omega (arith, simp tests at t)))
          (rw (lt-leb (due_so_far d.clock f) last (omega (arith, ahead)), lt-ltb last d.clock h) (λ z. omega arith)))
          (λ h. good
          (simp (eq-eqb first (since + opens) (omega arith), eq-eqb last (since + closes) e, le-leb since d.clock past, le-ltb last d.clock h))
          (rw (le-ltb d.clock since past, fits past, sym e))
          (rw (le-ltb last d.clock h) (by_cond (λ (g : Survey). g.faulty ≡ 0) (leb (due_so_far d.clock f) last) (λ _. so_far) (λ _. so_far))))

      times_noted : Times are_sound (bounds_noted d.clock i first last opens closes f) found
      unfolding bounds_noted
      times_noted =
          by_cond (λ (g : Survey). Times are_sound g found) (ltb first opens)
          (λ e. bad (refuted (λ t. omega (arith, simp tests at t, ltb-true first opens e))) (λ z. omega arith))
          (λ e. let below : opens ≤ first = ltb-false first opens e in
          by_cond (λ (g : Survey). Times are_sound g found) (ltb d.clock since)
          (λ a. bad (refuted (λ t. omega (arith, simp tests at t, ltb-true d.clock since a))) (λ z. omega arith))
          (λ a. let past : since ≤ d.clock = ltb-false d.clock since a in
          by_cond (λ (g : Survey). Times are_sound g found) (not (eqb last (due_from since closes)))
          (λ o. bad
          (refuted (λ t. eqb-false last (due_from since closes) (not-true _ o) ((simp tests at t).0.0.1 ∙ sym (fits past))))
          (λ z. omega arith))
          (λ o. told below past (eqb-true last (due_from since closes) (not-false _ o) ∙ fits past))))

  -- a look at a location finds what one at its arrival finds, or that the entry is not sound
  pub data Looked (q : DeadlineLocation) (g : Survey) : Type 0 where
    fault : entry_sound_with d i (entry_with q) ≡ false → g.faulty ≢ 0 → Looked q g
    same : entry_sound_with d i (entry_with q) ≡ true → g ≡ noted scene i (arrived_at k.b q) (limit_in k i) f → g.faulty ≡ 0 → Looked q g

  up_to : i ≤ k.n → (q : DeadlineLocation) → entry_sound_with d i (entry_with q) ≡ not (timed_with q) || times_sound k d.clock i q
  up_to h q = simp (le-leb i k.n h)

  -- an entry past n, outside the remainder
  above : (q : DeadlineLocation) → eqb (stage_with q) remainder ≡ false → ltb k.n i ≡ true → Looked q unsound
  above q away h = fault (simp (lt-leb i k.n (ltb-true k.n i h), away)) (λ z. omega arith)

  -- a timed location, of which the tests of a look are computed
  timed_looked : (q : DeadlineLocation) (opens closes : ℕ) → closes ≤ 10_000_000 → eqb (stage_with q) remainder ≡ false
      → (ltb k.n i ≡ false → entry_sound_with d i (entry_with q) ≡ are_sound (first_of q) (last_of q) opens closes)
      → (ltb k.n i ≡ false → noted scene i (arrived_at k.b q) (limit_in k i) f ≡ found (first_of q) (last_of q) opens closes)
      → Looked q (cond (ltb k.n i) unsound (bounds_noted d.clock i (first_of q) (last_of q) opens closes f))
  timed_looked q opens closes few away sound-is noted-is =
      by_cond (Looked q) (ltb k.n i) (above q away)
      (λ h. go h (times_noted (first_of q) (last_of q) opens closes few))
    where
      go : ltb k.n i ≡ false
          → Times (are_sound (first_of q) (last_of q) opens closes) (bounds_noted d.clock i (first_of q) (last_of q) opens closes f)
          (found (first_of q) (last_of q) opens closes)
          → Looked q (bounds_noted d.clock i (first_of q) (last_of q) opens closes f)
      go h (bad e n) = fault (sound-is h ∙ e) n
      go h (good e g z) = same (sound-is h ∙ e) (g ∙ sym (noted-is h)) z

  pub look_at : (q : DeadlineLocation) → Looked q (location_noted scene i q k.b (limit_in k i) f)
  unfolding location_noted noted
  look_at with.Remainder = same (by_test (leb i k.n) (λ e. simp e) (λ e. simp e)) refl so_far
  look_at (with.Testing t) =
      timed_looked (with.Testing t) 0 (limit_in k i) ((small d stand).limit i) refl (λ h. up_to (ltb-false _ _ h) (with.Testing t)) (λ h. rw h)
  look_at (with.Setting t) =
      timed_looked (with.Setting t) 0 (limit_in k i) ((small d stand).limit i) refl (λ h. up_to (ltb-false _ _ h) (with.Setting t)) (λ h. rw h)
  look_at (with.Checking t) =
      timed_looked (with.Checking t) k.b k.c (small d stand).closes refl (λ h. up_to (ltb-false _ _ h) (with.Checking t)) (λ h. rw h)
  look_at (with.Entering t) =
      timed_looked (with.Entering t) 0 (limit_in k i) ((small d stand).limit i) refl (λ h. up_to (ltb-false _ _ h) (with.Entering t)) (λ h. rw h)
  look_at with.Critical =
      by_cond (Looked with.Critical) (ltb k.n i) (above with.Critical refl)
      (λ h. same (up_to (ltb-false _ _ h) with.Critical) (rw h) (by_cond (λ (g : Survey). g.faulty ≡ 0) (eqb i acting) (λ _. so_far)
      (λ _. by_cond (λ (g : Survey). g.faulty ≡ 0) (not (eqb f.critical 0)) (λ _. so_far) (λ _. so_far))))
  look_at (with.Resetting t) =
      timed_looked (with.Resetting t) 0 (limit_in k i) ((small d stand).limit i) refl (λ h. up_to (ltb-false _ _ h) (with.Resetting t)) (λ h. rw h)
  look_at (with.Leaving t) =
      timed_looked (with.Leaving t) 0 (limit_in k i) ((small d stand).limit i) refl (λ h. up_to (ltb-false _ _ h) (with.Leaving t)) (λ h. rw h)

  -- a location that is settled, of a process up to n
  pub settled_noted : (q : DeadlineLocation) → i ≤ k.n → last_of q < 2 ^ 64 → settled_at (due_so_far d.clock f) d.clock (limit_in k i) q ≡ true
      → location_noted scene i q k.b (limit_in k i) f ≡ f
  unfolding location_noted
  settled_noted q h fit e =
      by_test (eqb (stage_with q) remainder || eqb (stage_with q) checking || eqb (stage_with q) critical)
      (λ t. absurd (false≢true (rw t at e)))
      (λ t. let none = simp tests at t in
      rw (ne_eqb _ _ none.0.0, le-ltb k.n i h, ne_eqb _ _ none.1, ne_eqb _ _ none.0.1)
      (settled_leaves d.clock i (first_of q) (last_of q) 0 (limit_in k i) f (omega (arith, (small d stand).clock)) (omega (arith, (small d stand).limit i))
      fit (rw t at e)))

-- The pass

-- after i entries: f is found, and what is left of the entries is sound just where all of them are
pub record PassedWith (d : DeadlineState) (acting i : ℕ) (f : Survey) : Type 0 where
  pub passed : Passed (arrived d) acting i f
  pub sound : entries_sound_with d (i + 1) (drop i d.processes) ≡ entries_sound_with d 1 d.processes

-- what the pass tells: a fault, or what the first engine's searches give of the arrivals
pub data SurveyedWith (d : DeadlineState) (acting : ℕ) (f : Survey) : Type 0 where
  faulty : sound_with d ≡ false → f.faulty ≢ 0 → SurveyedWith d acting f
  whole : sound_with d ≡ true → Whole (arrived d) acting f → SurveyedWith d acting f

pub nothing_passed_with : (d : DeadlineState) (acting : ℕ) → standing_with d ≡ true → length d.processes ≡ 96 → PassedWith d acting 0 nothing
nothing_passed_with d acting stand size =
    record { passed = nothing_passed (arrived d) acting stand (length_arrived d.parameters d.processes ∙ size); sound = refl }

pub size_with : (d : DeadlineState) (acting i : ℕ) (f : Survey) → PassedWith d acting i f → length d.processes ≡ 96
size_with d acting i f so_far = sym (length_arrived d.parameters d.processes) ∙ so_far.passed.size

-- a look at the next entry, that of process j
module _ (d : DeadlineState) (acting i j : ℕ) (f : Survey) (so_far : PassedWith d acting i f) (more : i < 96) (next : j ≡ i + 1)
    (other : DeadlineProcess) (g : Survey)
    (e : g ≡ location_noted (scene_of d.parameters d.clock acting) j (get_or d.processes i other).location d.parameters.b
    (limit_in d.parameters j) f) where
  abbrev q : DeadlineProcess
  q = get_or d.processes i other

  long : length d.processes ≡ 96
  long = size_with d acting i f so_far

  next_entry : drop i d.processes ≡ q ∷ drop (i + 1) d.processes
  next_entry = drop_at d.processes i other (omega (arith, long))

  is_looked : Looked d acting (i + 1) f so_far.passed.stand so_far.passed.faultless so_far.passed.narrow q.location g
  is_looked = rw (e, next) (look_at d acting (i + 1) f so_far.passed.stand so_far.passed.faultless so_far.passed.narrow q.location)

  sound_left : entry_sound_with d (i + 1) q && entries_sound_with d (i + 1 + 1) (drop (i + 1) d.processes) ≡ entries_sound_with d 1 d.processes
  unfolding entries_sound_with
  sound_left = rw next_entry at so_far.sound

  place : (get_or (arrived d).processes i idle).location ≡ arrived_at d.parameters.b q.location
  place =
      ap (λ (x : Process). x.location) (arrived-at d.parameters d.processes i)
      ∙ ap (λ (x : DeadlineProcess). arrived_at d.parameters.b x.location) (row_at d.processes i idle_with other (omega (arith, long)))

  -- where it is not sound, neither is the state; and where it is, the pass over the arrivals goes on
  pub turn_fault_with : g.faulty ≢ 0 → sound_with d ≡ false
  turn_fault_with n = go is_looked
    where
      go : Looked d acting (i + 1) f so_far.passed.stand so_far.passed.faultless so_far.passed.narrow q.location g → sound_with d ≡ false
      go (fault t n) = sound_parts_with d ∙ rw so_far.passed.stand (sym sound_left ∙ rw t)
      go (same t s z) = absurd (n z)

  pub turn_passed_with : g.faulty ≡ 0 → PassedWith d acting (i + 1) g
  turn_passed_with z = go is_looked
    where
      go : Looked d acting (i + 1) f so_far.passed.stand so_far.passed.faultless so_far.passed.narrow q.location g
          → PassedWith d acting (i + 1) g
      go (fault t n) = absurd (n z)
      go (same t s _) = record {
        passed = turn_passed (arrived d) acting i (i + 1) f so_far.passed more refl idle g
            (s ∙ ap (λ (l : Location). noted (scene_of d.parameters d.clock acting) (i + 1) l (limit_in d.parameters (i + 1)) f) (sym place)) z;
        sound = rw t at sound_left;
      }

-- nothing is left after 96 entries
pub passed_whole_with : (d : DeadlineState) (acting i : ℕ) (f : Survey) → PassedWith d acting i f → 96 ≤ i → SurveyedWith d acting f
unfolding entries_sound_with
passed_whole_with d acting i f so_far h =
    let size = size_with d acting i f so_far in
    let e : drop i d.processes ≡ [] = drop_end d.processes i (omega (arith, size)) (omega (arith, size, so_far.passed.most)) in
    whole (sound_parts_with d ∙ rw (so_far.passed.stand, ← rw e at so_far.sound)) (passed_whole (arrived d) acting i f so_far.passed h)

-- Entries that are passed without a look in full

module _ (d : DeadlineState) (acting i : ℕ) (f : Survey) (so_far : PassedWith d acting i f) (more : i < 96) (other : DeadlineProcess) where
  -- in the remainder
  pub idle_passed_with : stage_with (get_or d.processes i other).location ≡ remainder → PassedWith d acting (i + 1) f
  unfolding location_noted
  idle_passed_with e =
      turn_passed_with d acting i (i + 1) f so_far more refl other f (sym (rw (eq-eqb _ remainder e))) so_far.passed.faultless

  -- up to n, where nothing new would be found
  pub settled_passed_with : i + 1 ≤ d.parameters.n → last_of (get_or d.processes i other).location < 2 ^ 64
      → settled_at (due_so_far d.clock f) d.clock (limit_in d.parameters (i + 1)) (get_or d.processes i other).location ≡ true
      → PassedWith d acting (i + 1) f
  settled_passed_with h fit e =
      turn_passed_with d acting i (i + 1) f so_far more refl other f
      (sym (settled_noted d acting (i + 1) f so_far.passed.stand so_far.passed.faultless so_far.passed.narrow
      (get_or d.processes i other).location h fit e)) so_far.passed.faultless
