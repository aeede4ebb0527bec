-- `texts::formless` meets its contract: one turn looks at the form of one step. Assumes nothing.
use Rattle.std.proofs.Common.{◌+◌, sym, ◌∙◌, arith}
use native.Mathlib.Nat.{add-zero}
use Rattle.model.specs.Readings.{lists}
use Rattle.trace.proofs.Traces.{formless_here, formless_next, formless_end}
use Rattle.trace.proofs.texts.formless.Goals as goal

pub loop-i-init : goal.loop-i-init
loop-i-init c = rw add-zero

pub returns-then-not-has_form : goal.returns-then-not-has_form
returns-then-not-has_form c =
    let v = c.loop-i in
    let a = c.args in
    let e = sym c.has_form.ensures ∙ c.if-not-has_form.true in
    formless_here (lists a.times.now a.processes.now a.actions.now) v.i (omega arith) a.first e ∙ v.invariant

pub loop-i-preserved : goal.loop-i-preserved
loop-i-preserved c =
    let v = c.loop-i in
    let a = c.args in
    let e = sym c.has_form.ensures ∙ c.if-not-has_form.false in
    formless_next (lists a.times.now a.processes.now a.actions.now) v.i (omega arith) a.first e ∙ v.invariant

pub returns : goal.returns
returns c =
    let v = c.loop-i in
    let a = c.args in
    sym (formless_end (lists a.times.now a.processes.now a.actions.now) v.i (a.first + v.i) (omega arith)) ∙ v.invariant
