-- `trace::write` meets its contract: each exit is the row of `write_of` that its tests pick. Assumes nothing.
use Rattle.std.proofs.Common.{ℕ, ◌≡◌, ◌≤◌, length, List, refl, sym, ap, ◌∙◌, arith}
use lib.Seq.{sets}
use Rattle.model.proofs.Given.{write-gave}
use Rattle.model.specs.declared.Parameters.{Parameters}
use Rattle.model.specs.Texts.{first_line}
use Rattle.model.specs.Readings.{lists}
use Rattle.model.specs.Writings.{events_of}
use Rattle.trace.proofs.Sizes.{size_bytes, size_long, nothing_put}
use Rattle.trace.proofs.Writes.{Task, text_of, Sound}
use Rattle.trace.proofs.Writes.{write_uncounted, write_unlimited, write_formless, write_too_long, write_roomless, write_done}
use Rattle.trace.proofs.write.Goals as goal

-- what is to be written
abbrev task : Parameters → List ℕ → List ℕ → List ℕ → List ℕ → Task
task parameters times processes actions out =
    record { parameters = parameters; events = events_of (lists times processes actions); out = out }

pub returns-then-not-count_stands : goal.returns-then-not-count_stands
returns-then-not-count_stands c =
    let a = c.args in
    let t = task a.parameters a.times.now a.processes.now a.actions.now a.out.now in
    let e = sym c.count_stands.ensures ∙ c.if-not-count_stands.true in
    rw (write_uncounted t e) (write-gave c.from.ensures refl)

pub returns-then-not-parameters_stand : goal.returns-then-not-parameters_stand
returns-then-not-parameters_stand c =
    let a = c.args in
    let t = task a.parameters a.times.now a.processes.now a.actions.now a.out.now in
    let counted = sym c.count_stands.ensures ∙ c.if-not-count_stands.false in
    let e = sym c.parameters_stand.ensures ∙ c.if-not-parameters_stand.true in
    rw (write_unlimited t counted e) (write-gave c.from-then-not-parameters_stand.ensures refl)

pub returns-in-Some : goal.returns-in-Some
unfolding first_line
returns-in-Some c =
    let a = c.args in
    let t = task a.parameters a.times.now a.processes.now a.actions.now a.out.now in
    let stand = sym c.parameters_stand.ensures ∙ c.if-not-parameters_stand.false in
    rw (write_formless t stand c.in-Some.line (sym c.formless.ensures ∙ c.in-Some.is)) (write-gave c.refused.ensures refl)

pub returns-in_default-put_trace : goal.returns-in_default-put_trace
unfolding first_line
returns-in_default-put_trace c =
    let a = c.args in
    let t = task a.parameters a.times.now a.processes.now a.actions.now a.out.now in
    let stand = sym c.parameters_stand.ensures ∙ c.if-not-parameters_stand.false in
    let s : Sound t = record { stand = stand; formed = sym c.formless.ensures ∙ c.in_default.is } in
    let same = nothing_put a.out.now c.put_trace.ensures in
    rw (write_too_long s (size_long (rw c.in_default-put_trace.is at c.put_trace.ensures))) (write-gave c.from-in_default-put_trace.ensures same)

pub returns-then-out-size : goal.returns-then-out-size
unfolding first_line
returns-then-out-size c =
    let a = c.args in
    let t = task a.parameters a.times.now a.processes.now a.actions.now a.out.now in
    let stand = sym c.parameters_stand.ensures ∙ c.if-not-parameters_stand.false in
    let s : Sound t = record { stand = stand; formed = sym c.formless.ensures ∙ c.in_default.is } in
    let same = nothing_put a.out.now c.put_trace.ensures in
    let size = size_bytes (rw c.in-Some-put_trace.is at c.put_trace.ensures) in
    rw (write_roomless s size.1 (omega (arith, size.0, ap length same, c.if-out-size.true))) (write-gave c.from-then-out-size.ensures same)

pub returns : goal.returns
unfolding first_line
returns c =
    let a = c.args in
    let t = task a.parameters a.times.now a.processes.now a.actions.now a.out.now in
    let stand = sym c.parameters_stand.ensures ∙ c.if-not-parameters_stand.false in
    let s : Sound t = record { stand = stand; formed = sym c.formless.ensures ∙ c.in_default.is } in
    let same = nothing_put a.out.now c.put_trace.ensures in
    let size = size_bytes (rw c.in-Some-put_trace.is at c.put_trace.ensures) in
    let fits : length (text_of t) ≤ length a.out.now = omega (arith, size.0, ap length same, c.if-out-size.false) in
    let put : c.put_trace-2.new.out ≡ sets a.out.now 0 (text_of t) = rw same at (c.put_trace-2.ensures.put (omega (arith, size.1))) in
    rw (write_done s size.1 fits) (write-gave (rw size.0 at c.accepted.ensures) put)
