-- The two engines side by side: which states of deadlines are sound, one call of each engine, and the ways to and fro.
-- Assumes nothing.
use Prim.Native.Nat.{ℕ}
use mathlib.Core.Path.{◌≡◌, refl, sym, ap, subst, ◌∙◌}
use mathlib.Core.Bool.{true, false, not}
use Rattle.model.specs.declared.Parameters.{Parameters}
use Rattle.model.specs.Types.{State}
use Rattle.model.specs.declared.Answer.{Answer}
use Rattle.model.specs.States.{count_stands, limits_stand, initial, sound_of}
use Rattle.model.specs.Answers.{answers, step_of, fresh_of}
use Rattle.deadlines.specs.Types.{DeadlineState}
use Rattle.deadlines.specs.Types.{DeadlineOutcome}
use Rattle.deadlines.specs.Deadlines.{initial_with, sound_with, answers_with, step_with, fresh_with}
use Rattle.deadlines.specs.Matching.{Matches, dated_from, matched, arrived, to_deadlines, to_arrivals}
use Rattle.model.proofs.Tests.{by_test, clash}
use Rattle.theory.proofs.Steps.{unsound_iff_one}
use Rattle.deadlines.proofs.Matched.{sound_same, step_same, sound_matched, arrived_matched}
use Rattle.matching.specs.Engines.{SoundExactly, SoundTogether, UnsoundIffOneWith, UnmatchedIsOne}
use Rattle.matching.specs.Engines.{OutcomesMatch, FreshMatch, StepsMatch, GoesTo, GoesFro, Inverse}
use Rattle.matching.proofs.Matchings.{matches_matched, is_matched}

-- Soundness

-- [12.35]
pub sound_together : SoundTogether
sound_together s d m = ap sound_with (is_matched m) ∙ sound_same s

-- the state of the arrivals of a sound state of deadlines
module _ (d : DeadlineState) (sound : sound_with d ≡ true) where
  pub arrived_matches : Matches (arrived d) d
  arrived_matches = subst (Matches (arrived d)) (sound_matched d sound) (matches_matched (arrived d))

  pub arrived_sound : sound_of (arrived d) ≡ true
  arrived_sound = sym (sound_together (arrived d) d arrived_matches) ∙ sound

-- [12.35] [12.30]
pub sound_exactly : SoundExactly
sound_exactly d = (
  λ e. (arrived d, arrived_sound d e, arrived_matches d e),
  λ h. sound_together h.0 d h.2 ∙ h.1,
)

-- One call of each engine

-- [12.80]
pub steps_match : StepsMatch
steps_match s d m act p t =
    let e : step_with d act p t ≡ step_with (matched s) act p t = ap (λ (x : DeadlineState). step_with x act p t) (is_matched m) in
    subst (OutcomesMatch (step_of s act p t)) (sym (e ∙ step_same s act p t))
    (record { answer = refl; states = matches_matched (step_of s act p t).state })

-- both answer with one code
pub code_same : {s : State} {d : DeadlineState} → Matches s d → (act p m : ℕ)
    → (step_with d act p m).answer.code ≡ (step_of s act p m).answer.code
code_same {s} {d} match act p m = ap (λ (r : Answer). r.code) (steps_match s d match act p m).answer

-- entries in the remainder have no times
initial_matches : (k : Parameters) → Matches (initial k) (initial_with k)
unfolding dated_from
initial_matches k = matches_matched (initial k)

-- [12.82]
pub fresh_match : FreshMatch
unfolding fresh_of fresh_with
fresh_match k =
    by_test (not (count_stands k.n)) (λ e. rw e (record { answer = refl; states = initial_matches _ }))
    (λ e. by_test (not (limits_stand k)) (λ f. rw (e, f) (record { answer = refl; states = initial_matches _ }))
    (λ f. rw (e, f) (record { answer = refl; states = initial_matches k })))

-- A state of deadlines that is not sound

-- where no sound state matches, that of the arrivals does not
no_match : (d : DeadlineState) → ((s : State) → sound_of s ≡ true → Matches s d → ⊥) → sound_with d ≡ false
no_match d none = by_test (sound_with d) (λ e. absurd (none (arrived d) (arrived_sound d e) (arrived_matches d e))) (λ e. e)

-- soundness is judged first
pub unsound_with : (d : DeadlineState) (act p m : ℕ) → sound_with d ≡ false → step_with d act p m ≡ answers_with 1 0 0 d
unfolding step_with
unsound_with d act p m e = rw e

-- [4.1] [12.35]
pub unsound_iff_one_with : UnsoundIffOneWith
unsound_iff_one_with d act p m = (
  λ one s sound match. clash sound ((unsound_iff_one s act p m).0 (sym (code_same match act p m) ∙ one)),
  λ none. ap (λ (o : DeadlineOutcome). o.answer.code) (unsound_with d act p m (no_match d none)),
)

-- [12.35]
pub unmatched_is_one : UnmatchedIsOne
unmatched_is_one d none act p m = unsound_with d act p m (no_match d none)

-- To and fro

to_is : (s : State) → sound_of s ≡ true → to_deadlines s ≡ answers_with 0 0 0 (matched s)
unfolding to_deadlines
to_is s e = rw e

fro_is : (d : DeadlineState) → sound_with d ≡ true → to_arrivals d ≡ answers 0 0 0 (arrived d)
unfolding to_arrivals
fro_is d e = rw e

goes_to : (s : State) → sound_of s ≡ true → GoesTo s
goes_to s e =
    let led = to_is s e in
    record {
      answer = rw led;
      matches = rw led (matches_matched s);
      back = rw led (fro_is (matched s) (sound_same s ∙ e) ∙ ap (answers 0 0 0) (arrived_matched s));
    }

goes_fro : (d : DeadlineState) → sound_with d ≡ true → GoesFro d
goes_fro d e =
    let led = fro_is d e in
    record {
      answer = rw led;
      matches = rw led (arrived_matches d e);
      back = rw led (to_is (arrived d) (arrived_sound d e) ∙ ap (answers_with 0 0 0) (sound_matched d e));
    }

-- [12.100] [12.105]
pub inverse : Inverse
unfolding to_deadlines to_arrivals
inverse = record { to = goes_to; fro = goes_fro; to_refused = λ s e. rw e; fro_refused = λ d e. rw e }
