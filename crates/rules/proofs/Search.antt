-- The search for the first deadline in 32 bits tells what the definition tells: of what a whole pass found, and of the search over the list of a
-- sound state's entries. Assumes nothing.
use Rattle.std.proofs.Common.{◌≡◌, ℕ, ◌+◌, ◌≤◌, true, List, [], ◌∷◌, sym, refl, ◌∙◌, arith, eq-eqb, ne_eqb}
use mathlib.Core.Bool.{false≢true}
use Rattle.model.specs.Types.{Location}
use Rattle.model.specs.Types.{Process}
use Rattle.model.specs.Types.{State}
use Rattle.model.specs.States.{entry, limit_of, entry_sound, entries_sound}
use Rattle.model.specs.Answers.{Due, first_from, first_by, first_deadline}
use Rattle.rules.specs.declared.survey.Survey.{Survey}
use Rattle.rules.specs.Survey.{scene_of, endless, nothing, noted}
use Rattle.rules.specs.Search.{searched, TellsFirst, SearchTellsFirst}
use Rattle.model.proofs.Tests.{and_true_iff}
use Rattle.model.proofs.Soundness.{sound_numbers}
use Rattle.rules.proofs.Notes.{Finds, none, one, Turn, Noted, fault, fine, note-at}
use Rattle.rules.proofs.Pass.{standing, sound_parts, numbers_end, Whole}

module _ (s : State) (few : s.parameters.c ≤ 10_000_000) where
  finds_tells : (f : Survey) {d : Due} → f.faulty ≡ 0 → Finds s f.process f.left d → TellsFirst s.clock s.parameters.c d f
  finds_tells f z (none p e) =
      record { faultless = z; same = simp (eq-eqb f.process 0 p); narrow = omega (arith, e); within = λ n. absurd (n p) }
  finds_tells f z (one n w) = record { faultless = z; same = simp (ne_eqb f.process 0 n); narrow = omega (arith, w); within = λ _. w }

pub whole_tells : (s : State) (acting : ℕ) (f : Survey) → Whole s acting f → TellsFirst s.clock s.parameters.c (first_deadline s) f
whole_tells s acting f w = finds_tells s (sound_numbers s w.sound).check f w.faultless w.finds

-- The search over the entries

noted_fine : {s : State} {acting k : ℕ} {q : Process} {f g : Survey} → Noted s acting k q f g → entry_sound s k q ≡ true → Turn s acting k q f g
noted_fine (fault t n) e = absurd (false≢true (sym t ∙ e))
noted_fine (fine t) e = t

module _ (s : State) (acting : ℕ) (stand : standing s ≡ true) where
  -- what is left fits after a look too
  pub noted_narrow : (k : ℕ) (f : Survey) → 1 ≤ k → f.faulty ≡ 0 → f.left ≤ endless → (l : Location) (g : Survey)
      → g ≡ noted (scene_of s.parameters s.clock acting) k l (limit_of s k) f → g.faulty ≡ 0 → g.left ≤ endless
  noted_narrow k f some z narrow l g e faultless = go (rw (← e) at (note-at s acting k f z narrow (numbers_end s stand k) some l))
    where
      go : Noted s acting k (entry l) f g → g.left ≤ endless
      go (fault t n) = absurd (n faultless)
      go (fine t) = t.narrow

  -- from process k on, where d is the first deadline of those before it
  searched_tells : (qs : List Process) (k : ℕ) (f : Survey) (d : Due) → 1 ≤ k → f.faulty ≡ 0 → f.left ≤ endless
      → entries_sound s k qs ≡ true → Finds s f.process f.left d
      → TellsFirst s.clock s.parameters.c (first_from s k d qs) (searched s acting k qs f)
  unfolding searched first_by entries_sound
  searched_tells [] k f d some z narrow e finds = finds_tells s (numbers_end s stand k).check f z finds
  searched_tells (q ∷ qs) k f d some z narrow e finds =
      let both = (and_true_iff (entry_sound s k q) _).0 e in
      let t = noted_fine (note-at s acting k f z narrow (numbers_end s stand k) some q.location) both.0 in
      searched_tells qs (k + 1) _ _ (omega arith) t.faultless t.narrow both.1 (t.due_next finds)

pub search_tells_first : SearchTellsFirst
unfolding first_deadline
search_tells_first s acting sound =
    let both = (and_true_iff (standing s) _).0 (sym (sound_parts s) ∙ sound) in
    searched_tells s acting both.0 s.processes 1 nothing _ (omega arith) refl (omega arith) both.1 (none refl refl)
