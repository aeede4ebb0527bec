-- The one pass over the entries: after i of them, what is left of each of the model's searches gives what the whole gives. One note
-- takes each search one entry on, and after 96 entries nothing is left of them. Assumes nothing.
use Rattle.std.proofs.Common.{◌≡◌, ℕ, ◌+◌, ◌<◌, ◌≤◌, Bool, true, false, cond, ◌&&◌, eqb, ◌≢◌, [], ◌∷◌, length, get_or, drop, sym, refl, ◌∙◌, arith, eqb-true}
use Rattle.model.specs.Types.{Process}
use Rattle.model.specs.Types.{State}
use Rattle.model.specs.States.{bounded, limit_of, deadline, entry_sound, entries_sound, sound_of}
use Rattle.model.specs.Answers.{Due, due, none_due, sooner, first_from, first_by, first_deadline}
use Rattle.rules.specs.declared.survey.Survey.{Survey}
use Rattle.rules.specs.Survey.{scene_of, numbers_stand, endless, nothing, noted}
use Rattle.model.proofs.Tests.{by_test, tests}
use Rattle.model.proofs.Lists.{drop_at, drop_end}
use Rattle.model.proofs.OwnLimits.{limit_held, limits_parts}
use Rattle.rules.specs.Judging.{other_critical, others_from}
use Rattle.rules.proofs.Notes.{Finds, none, Ends, first, Noted, fault, fine, note-at}

-- The numbers of a state

abbrev pub standing : State → Bool
standing s = numbers_stand s.parameters s.clock s.word

pub sound_parts : (s : State) → sound_of s ≡ standing s && entries_sound s 1 s.processes
unfolding sound_of numbers_stand
sound_parts s = refl

pub numbers_fault : (s : State) → standing s ≡ false → sound_of s ≡ false
numbers_fault s e = sound_parts s ∙ rw e

-- what standing numbers say of stays
pub numbers_end : (s : State) → standing s ≡ true → (k : ℕ) → Ends s k
unfolding numbers_stand
numbers_end s e k =
    let h = simp tests at e in
    omega (arith, h, limit_held s.parameters h.0.0.1 k, (limits_parts s.parameters h.0.0.1).most)

-- The pass

-- after i entries: f is found, and what is left of each search gives what the whole gives
pub record Passed (s : State) (acting i : ℕ) (f : Survey) : Type 0 where
  pub most : i ≤ 96
  pub size : length s.processes ≡ 96
  pub faultless : f.faulty ≡ 0
  pub stand : standing s ≡ true
  pub sound : entries_sound s (i + 1) (drop i s.processes) ≡ entries_sound s 1 s.processes
  pub due_yet : Due
  pub narrow : f.left ≤ endless
  pub finds : Finds s f.process f.left due_yet
  pub due_left : first_from s (i + 1) due_yet (drop i s.processes) ≡ first_deadline s
  pub critical : first f.critical (others_from acting (i + 1) (drop i s.processes)) ≡ others_from acting 1 s.processes

-- what the pass tells: a fault, or what the model's searches give
pub record Whole (s : State) (acting : ℕ) (f : Survey) : Type 0 where
  pub faultless : f.faulty ≡ 0
  pub sound : sound_of s ≡ true
  pub finds : Finds s f.process f.left (first_deadline s)
  pub critical : others_from acting 1 s.processes ≡ f.critical

pub data Surveyed (s : State) (acting : ℕ) (f : Survey) : Type 0 where
  faulty : sound_of s ≡ false → f.faulty ≢ 0 → Surveyed s acting f
  whole : Whole s acting f → Surveyed s acting f

pub nothing_passed : (s : State) (acting : ℕ) → standing s ≡ true → length s.processes ≡ 96
    → Passed s acting 0 nothing
unfolding first_deadline
nothing_passed s acting stand size = record {
  most = omega arith;
  size = size;
  faultless = refl;
  stand = stand;
  sound = refl;
  due_yet = none_due;
  narrow = omega arith;
  finds = none refl refl;
  due_left = refl;
  critical = refl;
}

-- a look at the next entry, that of process k
module _ (s : State) (acting i k : ℕ) (f : Survey) (passed : Passed s acting i f) (more : i < 96) (next : k ≡ i + 1) (d : Process) (g : Survey)
    (e : g ≡ noted (scene_of s.parameters s.clock acting) k (get_or s.processes i d).location (limit_of s k) f) where
  abbrev q : Process
  q = get_or s.processes i d

  -- entry i is the next one of what is left
  next_entry : drop i s.processes ≡ q ∷ drop (i + 1) s.processes
  next_entry = drop_at s.processes i d (omega (arith, passed.size))

  is_noted : Noted s acting (i + 1) q f g
  is_noted =
      rw (e, next)
      (note-at s acting (i + 1) f passed.faultless passed.narrow (numbers_end s passed.stand (i + 1)) (omega arith) q.location)

  sound_left : entry_sound s (i + 1) q && entries_sound s (i + 1 + 1) (drop (i + 1) s.processes) ≡ entries_sound s 1 s.processes
  unfolding entries_sound
  sound_left = rw next_entry at passed.sound

  abbrev due_next : Due
  due_next = cond (sooner (bounded s q) (deadline s (i + 1) q) passed.due_yet) (due (i + 1) (deadline s (i + 1) q)) passed.due_yet

  due_left : first_from s (i + 1 + 1) due_next (drop (i + 1) s.processes) ≡ first_deadline s
  unfolding first_by
  due_left = rw next_entry at passed.due_left

  critical_left :
      first f.critical (cond (other_critical acting (i + 1) q) (i + 1) (others_from acting (i + 1 + 1) (drop (i + 1) s.processes)))
      ≡ others_from acting 1 s.processes
  unfolding others_from
  critical_left = rw next_entry at passed.critical

  pub turn_fault : g.faulty ≢ 0 → sound_of s ≡ false
  turn_fault n = go is_noted
    where
      go : Noted s acting (i + 1) q f g → sound_of s ≡ false
      go (fault t z) = sound_parts s ∙ rw passed.stand (sym sound_left ∙ rw t)
      go (fine t) = absurd (n t.faultless)

  pub turn_passed : g.faulty ≡ 0 → Passed s acting (i + 1) g
  turn_passed n = go is_noted
    where
      go : Noted s acting (i + 1) q f g → Passed s acting (i + 1) g
      go (fault t z) = absurd (z n)
      go (fine t) = record {
        most = omega arith;
        size = passed.size;
        faultless = n;
        stand = passed.stand;
        sound = rw t.sound at sound_left;
        due_yet = due_next;
        narrow = t.narrow;
        finds = t.due_next passed.finds;
        due_left = due_left;
        critical = sym (t.critical_next _) ∙ critical_left;
      }

-- nothing is left after 96 entries
pub passed_whole : (s : State) (acting i : ℕ) (f : Survey) → Passed s acting i f → 96 ≤ i → Whole s acting f
unfolding entries_sound first_by others_from
passed_whole s acting i f passed h =
    let e : drop i s.processes ≡ [] = drop_end s.processes i (omega (arith, passed.size)) (omega (arith, passed.size, passed.most)) in
    record {
      faultless = passed.faultless;
      sound = sound_parts s ∙ rw (passed.stand, ← rw e at passed.sound);
      finds = rw (← rw e at passed.due_left) passed.finds;
      critical = sym (rw e at passed.critical) ∙ by_test (eqb f.critical 0) (λ z. rw z (sym (eqb-true _ _ z))) (λ z. rw z);
    }
