-- What the check of `steps::survey_entries` does not find alone. Assumes nothing.
use Rattle.std.proofs.Common.{◌≡◌, length, sym, ◌∙◌, arith, rules, eq-eqb, ne_eqb}
use Rattle.layout.specs.Encodings.{table_length}
use Rattle.layout.proofs.Surveys.{entry_noted, all_noted}
use Rattle.layout.proofs.steps.survey_entries.Goals as goal

pub loop-i-init : goal.loop-i-init
loop-i-init c = rw c.empty-found.ensures

pub returns-then-found-ne0 : goal.returns-then-found-ne0
returns-then-found-ne0 c =
    let a = c.args in
    let v = c.loop-i in
    let long : length a.table.now ≡ table_length = search rules in
    c.fault.ensures ∙ rw (ne_eqb _ 0 c.if-found-ne0.true) at
    (sym (entry_noted a.table.now long a.count c.requires a.scene v.i (omega arith) v.found c.note_numbers-found.result
    (rw (c.since_in-since.ensures, c.stage_in-stage.ensures) at c.note_numbers-found.ensures)) ∙ v.invariant)

pub loop-i-preserved : goal.loop-i-preserved
loop-i-preserved c =
    let a = c.args in
    let v = c.loop-i in
    let long : length a.table.now ≡ table_length = search rules in
    rw (eq-eqb _ 0 c.if-found-ne0.false) at
    (sym (entry_noted a.table.now long a.count c.requires a.scene v.i (omega arith) v.found c.note_numbers-found.result
    (rw (c.since_in-since.ensures, c.stage_in-stage.ensures) at c.note_numbers-found.ensures)) ∙ v.invariant)

pub returns : goal.returns
returns c =
    let a = c.args in
    let v = c.loop-i in
    let long : length a.table.now ≡ table_length = search rules in
    sym (all_noted a.table.now long a.count c.requires a.scene v.i (omega arith) v.found) ∙ v.invariant
