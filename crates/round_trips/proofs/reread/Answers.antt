-- `round_trips::reread` meets its contract: what `write` gave is `write_of`, and `SameEvents` is the round trip. Assumes nothing.
use Rattle.std.proofs.Common.{◌≡◌, sym, ap, ◌∙◌}
use mathlib.Core.Path.{subst}
use lib.Seq.{length-take-le}
use Rattle.model.specs.Readings.{lists}
use Rattle.model.specs.Writings.{events_of, Written, write_gave, write_of}
use Rattle.model.proofs.Given.{gave_out}
use Rattle.round_trips.specs.Trips.{reread_of, StepsComeBack}
use Rattle.round_trips.proofs.Trips.{written_held, reread_refused, reread_done, reread_same}
use Rattle.round_trips.proofs.reread.Goals as goal

pub returns-then-answer-ne0 : goal.returns-then-answer-ne0
returns-then-answer-ne0 c =
    let a = c.args in
    let to = lists a.times2.now a.processes2.now a.actions2.now in
    let given = write_gave c.write-answer.result c.write-answer.new.out in
    let due = write_of a.parameters (events_of (lists a.times.now a.processes.now a.actions.now)) a.out.now in
    let e : given ≡ due = c.write-answer.ensures in
    let n = c.if-answer-ne0.true in
    let gave = sym (reread_refused given to n) in
    record {
      out = gave_out e;
      read = gave ∙ ap (λ (w : Written). reread_of w to) e;
      trip = λ z _. absurd (n (ap (λ (w : Written). w.answer.code) e ∙ z));
    }

pub slice_bounds-read-end : goal.slice_bounds-read-end
slice_bounds-read-end c =
    let a = c.args in
    let from = events_of (lists a.times.now a.processes.now a.actions.now) in
    written_held a.parameters from a.out.now c.write-answer.ensures c.if-answer-ne0.false

pub slice_bounds-read-end-2 : goal.slice_bounds-read-end-2
slice_bounds-read-end-2 c =
    let a = c.args in
    let from = events_of (lists a.times.now a.processes.now a.actions.now) in
    sym (length-take-le _ _ (written_held a.parameters from a.out.now c.write-answer.ensures c.if-answer-ne0.false))

pub returns : goal.returns
returns c =
    let a = c.args in
    let from = lists a.times.now a.processes.now a.actions.now in
    let to = lists a.times2.now a.processes2.now a.actions2.now in
    let given = write_gave c.write-answer.result c.write-answer.new.out in
    let e : given ≡ write_of a.parameters (events_of from) a.out.now = c.write-answer.ensures in
    let done = sym (reread_done given to c.if-answer-ne0.false) in
    let r = c.read.ensures ∙ (done ∙ ap (λ (w : Written). reread_of w to) e) in
    record {
      out = gave_out e;
      read = r;
      trip = subst (StepsComeBack a.parameters (events_of from) a.out.now to) (sym r) (reread_same a.parameters from a.out.now to);
    }
