-- `accepted_log::read_accepted` meets its contract: a refusal is handed on, and of the steps of a trace the log is kept, which goes to the lent
-- lists if it fits. Assumes nothing.
use Rattle.std.proofs.Common.{ℕ, ◌≡◌, ◌≤◌, ◌<◌, ◌++◌, min, List, length, take, drop, refl, sym, subst, ap, ◌∙◌, arith}
use lib.ListN.{length-take, length-map}
use Rattle.model.specs.Answers.{answer_of}
use Rattle.model.specs.Texts.{Event}
use Rattle.model.specs.Readings.{Lists, lists, over}
use Rattle.model.specs.Writings.{events_of}
use Rattle.model.specs.declared.Started.{Started}
use Rattle.model.specs.Executions.{attempts_from}
use Rattle.model.proofs.Steps.{length_steps}
use Rattle.grammar.specs.RoundTrips.{first_of}
use Rattle.execution.proofs.Lent.{steps_first}
use Rattle.execution.proofs.Starts.{Ready}
use Rattle.execution.proofs.Fresh.{ready_fresh, refusal_fresh}
use Rattle.local_log.specs.Comparisons.{Entry, actions_in, times_in}
use Rattle.accepted_log.specs.AcceptedLogs.{accepted_log, read_accepted_of}
use Rattle.accepted_log.specs.Keeping.{Kept}
use Rattle.accepted_log.proofs.Keeping.{run_few, times_front, actions_front}
use Rattle.accepted_log.proofs.Given.{log-gave, started_log, gave_low, gave_high, gave_short, gave_all}
use Rattle.accepted_log.proofs.read_accepted.Goals as goal

-- as many numbers as stand in the front of a list take the place of the first of another
stored : (to new front xs : List ℕ) {next : ℕ} → front ≡ take next new → take next new ≡ xs → next ≡ length xs → front ++ drop next to ≡ over xs to
stored to new front xs e f g = rw (e, f, g) refl

-- Where the log of process p has been kept: of what was started, with the lists l

module _ {text : List ℕ} {s : Started} {l : Lists} (r : Ready text s l) (p : ℕ) {next : ℕ} {m : Lists}
    (kept : Kept (accepted_log p (attempts_from s.state (take s.found.steps (events_of l)))) 0 next l m)
    (wide : (length l.times ≡ 8187) × (length l.actions ≡ 8187)) where
  abbrev kept_log : List Entry
  kept_log = started_log s l p

  own : Kept kept_log 0 next l m
  own =
      subst (λ (es : List Event). Kept (accepted_log p (attempts_from s.state es)) 0 next l m) (sym (steps_first s.found.steps l)) kept

  -- no more is kept than there are steps
  few : length kept_log ≤ s.found.steps
  few =
      let first = first_of s.found.steps l in
      omega (arith, run_few p s.state (events_of first), length_steps first, length-take s.found.steps l.times)

  size : next ≡ length kept_log
  size = omega (arith, own.next_is)

  -- the log takes the place of the first in the lent lists
  stored_times : (to front : List ℕ) → front ≡ take next m.times → front ++ drop next to ≡ over (times_in kept_log) to
  stored_times to front e =
      stored to m.times front (times_in kept_log) e (times_front own (omega (arith, few, r.few, wide)))
      (omega (arith, size, length-map kept_log (λ (e : Entry). e.time)))

  stored_actions : (to front : List ℕ) → front ≡ take next m.actions → front ++ drop next to ≡ over (actions_in kept_log) to
  stored_actions to front e =
      stored to m.actions front (actions_in kept_log) e (actions_front own (omega (arith, few, r.few, wide)))
      (omega (arith, size, length-map kept_log (λ (e : Entry). e.action)))

-- The goals

pub returns-in-Err : goal.returns-in-Err
unfolding read_accepted_of
returns-in-Err c =
    rw (refusal_fresh _ c.new-steps.ensures c.start.ensures c.in-Err.is) (log-gave c.refused.ensures refl refl)

pub returns-then-process-eq0 : goal.returns-then-process-eq0
returns-then-process-eq0 c =
    let r = ready_fresh _ c.new-steps.ensures c.start.ensures c.in-Ok.is in
    log-gave c.from.ensures refl refl
    ∙ sym (gave_low r c.args.process c.args.times.now c.args.actions.now c.if-process-eq0.true)

pub returns-then-n-process : goal.returns-then-n-process
returns-then-n-process c =
    let r = ready_fresh _ c.new-steps.ensures c.start.ensures c.in-Ok.is in
    log-gave c.from-then-n-process.ensures refl refl
    ∙ sym (gave_high r c.args.process c.args.times.now c.args.actions.now (omega (arith, c.if-process-eq0.false)) c.if-n-process.true)

pub keep_steps-kept-requires : goal.keep_steps-kept-requires
keep_steps-kept-requires c = (ready_fresh _ c.new-steps.ensures c.start.ensures c.in-Ok.is).few

pub returns-then-min-kept : goal.returns-then-min-kept
returns-then-min-kept c =
    let r = ready_fresh _ c.new-steps.ensures c.start.ensures c.in-Ok.is in
    let new = c.start.new in
    let wide : (length new.times ≡ 8187) × (length new.actions ≡ 8187) = (omega arith, omega arith) in
    let log = started_log c.in-Ok.started (lists new.times new.processes new.actions) c.args.process in
    let is : (1 ≤ c.args.process) × (c.args.process ≤ c.in-Ok.started.found.parameters.n) =
    (omega (arith, c.if-process-eq0.false), c.if-n-process.false) in
    let short : min (length c.args.times.now) (length c.args.actions.now) < length log =
    omega (arith, c.min.ensures, c.if-min-kept.true, size r c.args.process c.keep_steps-kept.ensures.kept wide) in
    log-gave c.from-then-min-kept.ensures refl refl
    ∙ sym (gave_short r c.args.process c.args.times.now c.args.actions.now is short)

pub returns : goal.returns
returns c =
    let r = ready_fresh _ c.new-steps.ensures c.start.ensures c.in-Ok.is in
    let new = c.start.new in
    let wide : (length new.times ≡ 8187) × (length new.actions ≡ 8187) = (omega arith, omega arith) in
    let kept = c.keep_steps-kept.ensures.kept in
    let log = started_log c.in-Ok.started (lists new.times new.processes new.actions) c.args.process in
    let is : (1 ≤ c.args.process) × (c.args.process ≤ c.in-Ok.started.found.parameters.n) =
    (omega (arith, c.if-process-eq0.false), c.if-n-process.false) in
    let size_is = size r c.args.process kept wide in
    let fits : length log ≤ min (length c.args.times.now) (length c.args.actions.now) = omega (arith, c.min.ensures, c.if-min-kept.false, size_is) in
    log-gave (c.accepted.ensures ∙ ap (answer_of 0 0) size_is)
    (stored_times r c.args.process kept wide c.args.times.now _ c.copy_from_slice.ensures.after)
    (stored_actions r c.args.process kept wide c.args.actions.now _ c.copy_from_slice-2.ensures.after)
    ∙ sym (gave_all r c.args.process c.args.times.now c.args.actions.now is fits)
