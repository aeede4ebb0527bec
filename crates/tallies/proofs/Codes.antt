-- Recorded steps are answered as the steps without a summary are, as long as the summary has room: each of them counts one act more.
-- Assumes nothing.
use Prim.Native.Nat.{ℕ, ◌+◌, ◌≤◌}
use mathlib.Core.Path.{◌≡◌, refl, ap, ◌∙◌}
use mathlib.Core.List.{List, [], ◌∷◌, map}
use native.Mathlib.Omega.{arith}
use lib.Dec.{eqb}
use lib.ListN.{length}
use Rattle.model.specs.Types.{State}
use Rattle.model.specs.Types.{Outcome}
use Rattle.model.specs.declared.Counts.{Counts}
use Rattle.model.specs.declared.Statistics.{Statistics}
use Rattle.model.specs.declared.Recorded.{Recorded}
use Rattle.model.specs.Acts.{crit_act, exit_act}
use Rattle.model.specs.Answers.{step_of}
use Rattle.model.specs.Folds.{results_by}
use Rattle.model.specs.Summaries.{most_acts, code_of, accepted_counted, answer_counted}
use Rattle.model.specs.Tallies.{Attempt, attempted}
use Rattle.model.specs.Texts.{Event}
use Rattle.model.specs.Executions.{codes_from}
use Rattle.model.proofs.Tests.{by_cond, clash}
use Rattle.theory.proofs.RecordedSteps.{Judged, judged}
use Rattle.theory.proofs.Summaries.{summary_sound_iff_plain}
use Rattle.tallies.specs.Tallies.{record_next, records_of}
use Rattle.tallies.proofs.Tallies.{Along, along_judged}

-- how many acts a summary has counted
abbrev acts : Statistics → ℕ
acts x = x.counts.accepted + x.counts.refused

one_act : (s : State) (x : Statistics) (code act p m : ℕ) → acts (answer_counted s x code act p m) ≡ acts x + 1
unfolding answer_counted accepted_counted
one_act s x code act p m =
    let one : Counts → Type 0 = λ k. k.accepted + k.refused ≡ acts x + 1 in
    by_cond (λ (y : Statistics). one y.counts) (eqb code 0)
    (λ _. by_cond one (eqb act crit_act) (λ _. omega arith) (λ _. by_cond one (eqb act exit_act) (λ _. omega arith) (λ _. omega arith)))
    (λ _. omega arith)

-- a recorded step that finds room is the step, and counts one act more
module _ {log : List Attempt} {s : State} {x : Statistics} (h : Along log s x) (act p m : ℕ) where
  with_room : {r : Recorded} → acts x + 1 ≤ most_acts → Judged s x act p m r
      → (r.outcome ≡ step_of s act p m) × (acts r.statistics ≡ acts x + 1)
  with_room room (Judged.no_table e) = clash h.sound e
  with_room room (Judged.no-summary _ e) = clash ((summary_sound_iff_plain s.clock x).1 h.summary) e
  with_room room (Judged.filled _ _ e) = absurd (omega (arith, e))
  with_room room (Judged.counted _) = (refl, one_act s x (step_of s act p m).answer.code act p m)

pub same_codes : (log : List Attempt) (r : Recorded) (es : List Event) → Along log r.outcome.state r.statistics
    → acts r.statistics + length es ≤ most_acts → map code_of (records_of r es) ≡ codes_from r.outcome.state es
unfolding results_by
same_codes log r [] h room = refl
same_codes log r (e ∷ es) h room =
    let j = judged r.outcome.state r.statistics e.action e.process e.time in
    let is = with_room h e.action e.process e.time (omega arith) j in
    let log' = attempted e (code_of (record_next r e)) ∷ log in
    let rest = same_codes log' (record_next r e) es (along_judged h e.action e.process e.time j) (omega (arith, is.1)) in
    λ i. (is.0 i).answer.code ∷ (rest ∙ ap (λ (o : Outcome). codes_from o.state es) is.0) i
