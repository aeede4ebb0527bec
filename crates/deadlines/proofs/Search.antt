-- The search for the first deadline over a sound state of deadlines is the first engine's over the state of the arrivals, so it tells the first of
-- the last times. Assumes nothing.
use Rattle.std.proofs.Common.{◌≡◌, ℕ, ◌+◌, ◌≤◌, true, List, [], ◌∷◌, sym, refl, ap, ◌∙◌, subst, arith}
use mathlib.Core.Bool.{false≢true}
use Rattle.model.specs.States.{limit_in, sound_of}
use Rattle.model.specs.Answers.{Due, first_deadline}
use Rattle.rules.specs.declared.survey.Survey.{Survey}
use Rattle.rules.specs.Survey.{scene_of, endless, nothing, noted}
use Rattle.rules.specs.Search.{searched, TellsFirst}
use Rattle.deadlines.specs.Types.{DeadlineLocation}
use Rattle.deadlines.specs.Types.{DeadlineProcess}
use Rattle.deadlines.specs.Types.{DeadlineState}
use Rattle.deadlines.specs.Deadlines.{entry_with, entry_sound_with, entries_sound_with, sound_with, first_last}
use Rattle.deadlines.specs.Matching.{arrived_at, arrived_from, arrived}
use Rattle.deadlines.specs.Search.{searched_with, SearchTellsFirstWith}
use Rattle.model.proofs.Tests.{and_true_iff}
use Rattle.rules.proofs.Pass.{Whole}
use Rattle.rules.proofs.Search.{whole_tells, noted_narrow, search_tells_first}
use Rattle.deadlines.proofs.Matched.{sound_same, first_last_same, sound_matched}
use Rattle.deadlines.proofs.Passing.{standing_with, sound_parts_with, Looked, fault, same, look_at}

-- Of the arrivals

first_arrived : (d : DeadlineState) → sound_with d ≡ true → first_deadline (arrived d) ≡ first_last d
first_arrived d sound = sym (first_last_same (arrived d)) ∙ ap first_last (sound_matched d sound)

-- what tells the first deadline of the arrivals tells the first of the last times
arrived_tells : (d : DeadlineState) → sound_with d ≡ true → {f : Survey} → TellsFirst d.clock d.parameters.c (first_deadline (arrived d)) f
    → TellsFirst d.clock d.parameters.c (first_last d) f
arrived_tells d sound {f} = subst (λ (first : Due). TellsFirst d.clock d.parameters.c first f) (first_arrived d sound)

sound_arrived : (d : DeadlineState) → sound_with d ≡ true → sound_of (arrived d) ≡ true
sound_arrived d sound = sym (sound_same (arrived d)) ∙ ap sound_with (sound_matched d sound) ∙ sound

pub whole_tells_with : (d : DeadlineState) (acting : ℕ) (f : Survey) → sound_with d ≡ true → Whole (arrived d) acting f
    → TellsFirst d.clock d.parameters.c (first_last d) f
whole_tells_with d acting f sound w = arrived_tells d sound (whole_tells (arrived d) acting f w)

-- The search over the entries

module _ (d : DeadlineState) (acting : ℕ) (stand : standing_with d ≡ true) where
  -- one that is sound
  record Same (k : ℕ) (f : Survey) (q : DeadlineLocation) (g : Survey) : Type 0 where
    is : g ≡ noted (scene_of d.parameters d.clock acting) k (arrived_at d.parameters.b q) (limit_in d.parameters k) f
    faultless : g.faulty ≡ 0

  looked_same : {k : ℕ} {f g : Survey} {q : DeadlineLocation} (z : f.faulty ≡ 0) (narrow : f.left ≤ endless)
      → Looked d acting k f stand z narrow q g → entry_sound_with d k (entry_with q) ≡ true → Same k f q g
  looked_same z narrow (fault t n) e = absurd (false≢true (sym t ∙ e))
  looked_same z narrow (same t is faultless) e = record { is = is; faultless = faultless }

  searched_same : (qs : List DeadlineProcess) (k : ℕ) (f : Survey) → 1 ≤ k → f.faulty ≡ 0 → f.left ≤ endless → entries_sound_with d k qs ≡ true
      → searched_with d acting k qs f ≡ searched (arrived d) acting k (arrived_from d.parameters qs) f
  unfolding searched_with searched arrived_from entries_sound_with
  searched_same [] k f some z narrow e = refl
  searched_same (q ∷ qs) k f some z narrow e =
      let both = (and_true_iff (entry_sound_with d k q) _).0 e in
      let t = looked_same z narrow (look_at d acting k f stand z narrow q.location) both.0 in
      searched_same qs (k + 1) _ (omega arith) t.faultless (noted_narrow (arrived d) acting stand k f some z narrow _ _ t.is t.faultless) both.1
      ∙ ap (searched (arrived d) acting (k + 1) (arrived_from d.parameters qs)) t.is

-- it tells the first deadline of the arrivals
pub search_tells_arrived : (d : DeadlineState) (acting : ℕ) → sound_with d ≡ true
    → TellsFirst d.clock d.parameters.c (first_deadline (arrived d)) (searched_with d acting 1 d.processes nothing)
search_tells_arrived d acting sound =
    let both = (and_true_iff (standing_with d) _).0 (sym (sound_parts_with d) ∙ sound) in
    let e = searched_same d acting both.0 d.processes 1 nothing (omega arith) refl (omega arith) both.1 in
    subst (TellsFirst d.clock d.parameters.c (first_deadline (arrived d))) (sym e) (search_tells_first (arrived d) acting (sound_arrived d sound))

pub search_tells_first_with : SearchTellsFirstWith
search_tells_first_with d acting sound = arrived_tells d sound (search_tells_arrived d acting sound)
