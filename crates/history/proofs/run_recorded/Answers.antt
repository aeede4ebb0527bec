-- What the check of `run_recorded` does not find alone: what is stored in row i is the answer to the step in it, and the tally follows from what
-- all of them give. Assumes nothing.
use mathlib.Core.Path.{refl, ◌∙◌}
use native.Mathlib.Omega.{arith}
use Rattle.model.specs.Summaries.{beside}
use Rattle.model.proofs.Folds.{sets_out}
use Rattle.history.specs.RecordedRuns.{events_in_rows, recorded_run_from, recorded_run_of}
use Rattle.history.proofs.RecordedTurns.{length_events, record-at, records_on, ends, recorded_run_tallied}
use Rattle.history.proofs.run_recorded.Goals as goal

pub loop-i-init : goal.loop-i-init
loop-i-init c = sets_out (omega (arith, length_events c.args.acts.now c.args.answers.now)) refl

pub loop-i-preserved : goal.loop-i-preserved
loop-i-preserved c =
    let v = c.loop-i in
    records_on v.invariant (omega arith)
    (rw c.from.ensures
    (record-at (beside v.statistics v.outcome) c.args.acts.now v.answers v.i _ (omega arith) c.record_step-outcome.ensures))

pub returns : goal.returns
unfolding recorded_run_of
returns c =
    let acts = c.args.acts.now in
    let answers = c.args.answers.now in
    let made = c.fresh-start in
    let summary = c.new_statistics-statistics in
    let e = ends (beside summary.result made.result) c.loop-i.invariant (omega arith)
    ∙ (λ j. recorded_run_from (beside (summary.ensures j) (made.ensures j)) (events_in_rows acts answers) answers) in
    record { equals = e; tallied = recorded_run_tallied c.args.parameters acts answers e }
