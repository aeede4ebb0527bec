-- The second engine accepts exactly the actions that are allowed in plain facts of its own states, makes of a state of deadlines what these say, and
-- a refused step gives the state back: each by the first engine's theorem, of the state of the arrivals. Assumes nothing.
use Prim.Native.Nat.{ℕ}
use mathlib.Core.Path.{◌≡◌, sym, ap, ◌∙◌}
use mathlib.Core.Bool.{true}
use native.Mathlib.Omega.{arith}
use Rattle.deadlines.specs.Types.{DeadlineState}
use Rattle.deadlines.specs.Types.{DeadlineOutcome}
use Rattle.deadlines.specs.Deadlines.{sound_with, step_with}
use Rattle.deadlines.specs.Matching.{arrived}
use Rattle.model.proofs.Tests.{by_test}
use Rattle.theory.proofs.Soundness.{sound_iff_plain}
use Rattle.theory.proofs.Acceptance.{accepted_iff_allowed, next_is_changed, refused_stays}
use Rattle.matching.specs.Facts.{AcceptedWith, AcceptedIffAllowedWith, NextIsChangedWith, RefusedStaysWith}
use Rattle.matching.proofs.Matchings.{one_match, size_same}
use Rattle.matching.proofs.Engines.{arrived_matches, arrived_sound, steps_match, code_same, unsound_with}
use Rattle.matching.proofs.Facts.{allowed_to, allowed_fro, changed_to}

-- [12.70]
pub accepted_iff_allowed_with : AcceptedIffAllowedWith
accepted_iff_allowed_with d e act p m =
    let match = arrived_matches d e in
    let sound = arrived_sound d e in
    let code = code_same match act p m in
    let iff = accepted_iff_allowed (arrived d) sound act p m in (
      λ a. allowed_to match ((sound_iff_plain (arrived d)).0 sound) (iff.0 (sym code ∙ a)),
      λ h. code ∙ iff.1 (allowed_fro match h),
    )

-- one that is not sound is answered with 1, so an accepted one is sound
accepted_sound : (d : DeadlineState) (act p m : ℕ) → AcceptedWith (step_with d act p m) → sound_with d ≡ true
accepted_sound d act p m a =
    by_test (sound_with d) (λ e. e) (λ e. absurd (omega (arith, a, ap (λ (o : DeadlineOutcome). o.answer.code) (unsound_with d act p m e))))

-- [12.60]
pub next_is_changed_with : NextIsChangedWith
next_is_changed_with d size act p m a =
    let match = arrived_matches d (accepted_sound d act p m a) in
    changed_to match (steps_match (arrived d) d match act p m).states
    (next_is_changed (arrived d) (sym (size_same match) ∙ size) act p m (sym (code_same match act p m) ∙ a))

-- [12.50]
pub refused_stays_with : RefusedStaysWith
refused_stays_with d act p m n =
    by_test (sound_with d)
    (λ e.
    let match = arrived_matches d e in
    let stays = refused_stays (arrived d) act p m (λ a. n (code_same match act p m ∙ a)) in
    one_match (rw stays at (steps_match (arrived d) d match act p m).states) match)
    (λ e. ap (λ (o : DeadlineOutcome). o.state) (unsound_with d act p m e))
