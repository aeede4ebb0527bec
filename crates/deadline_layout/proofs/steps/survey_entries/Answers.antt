-- What the check of `steps::survey_entries` does not find alone. Assumes nothing.
use Prim.Native.Nat.{ℕ, ◌+◌, ◌<◌}
use mathlib.Core.Path.{◌≡◌, sym, ap, ◌∙◌}
use native.Mathlib.Omega.{arith}
use lib.ListN.{length, drop}
use lib.Seq.{drop-drop}
use Rattle.deadline_layout.proofs.Turns.{left, turn_fault, turn_on, turn_end, left_row, four_row}
use Rattle.deadline_layout.proofs.steps.survey_entries.Goals as goal

pub returns-then-found-ne0 : goal.returns-then-found-ne0
returns-then-found-ne0 c =
    let a = c.args in
    let es = a.entries.now in
    let t = c.loop-four in
    let v = c.loop-j in
    let cut = c.in-Some.ensures.cases in
    let here : t.done + v.j < length es = omega (arith, t.invariant.reach, cut.2, c.loop-j-test.true) in
    c.fault.ensures
    ∙ turn_fault a.limits.now a.b a.scene es (t.done + v.j) here _ (four_row es t.done t.invariant.part cut.0 v.j c.loop-j-test.true)
    (c.told-entries (t.done + v.j) here) v.found _ c.look-found.ensures c.if-found-ne0.true
    ∙ v.invariant

pub loop-j-preserved : goal.loop-j-preserved
loop-j-preserved c =
    let a = c.args in
    let es = a.entries.now in
    let t = c.loop-four in
    let v = c.loop-j in
    let cut = c.in-Some.ensures.cases in
    let here : t.done + v.j < length es = omega (arith, t.invariant.reach, cut.2, c.loop-j-test.true) in
    let on : t.done + (v.j + 1) ≡ t.done + v.j + 1 = omega arith in
    ap (λ (k : ℕ). left a.limits.now a.b a.scene es k c.look-found.result) on
    ∙ turn_on a.limits.now a.b a.scene es (t.done + v.j) here _ (four_row es t.done t.invariant.part cut.0 v.j c.loop-j-test.true)
    (c.told-entries (t.done + v.j) here) v.found _ c.look-found.ensures c.if-found-ne0.false
    ∙ v.invariant

pub loop-four-preserved : goal.loop-four-preserved
loop-four-preserved c =
    let a = c.args in
    let t = c.loop-four in
    let v = c.loop-j in
    let cut = c.in-Some.ensures.cases in
    let on : t.done + 4 ≡ t.done + v.j = omega (arith, v.auto.j-end, c.loop-j-test.false) in
    record {
      part = cut.1 ∙ ap (drop 4) t.invariant.part ∙ drop-drop 4 t.done a.entries.now;
      reach = omega (arith, t.invariant.reach, cut.2);
      found = ap (λ (k : ℕ). left a.limits.now a.b a.scene a.entries.now k v.found) on ∙ v.invariant;
    }

pub returns-then-found-ne0-2 : goal.returns-then-found-ne0-2
returns-then-found-ne0-2 c =
    let a = c.args in
    let es = a.entries.now in
    let t = c.loop-four in
    let v = c.loop-j-2 in
    let here : t.done + v.j < length es = omega (arith, t.invariant.reach, c.loop-j-2-test.true) in
    c.fault-then-found-ne0-2.ensures
    ∙ turn_fault a.limits.now a.b a.scene es (t.done + v.j) here _ (left_row es t.done t.invariant.part v.j)
    (c.told-entries (t.done + v.j) here) v.found _ c.look-found-in-loop-j-2.ensures c.if-found-ne0-2.true
    ∙ v.invariant

pub loop-j-2-preserved : goal.loop-j-2-preserved
loop-j-2-preserved c =
    let a = c.args in
    let es = a.entries.now in
    let t = c.loop-four in
    let v = c.loop-j-2 in
    let here : t.done + v.j < length es = omega (arith, t.invariant.reach, c.loop-j-2-test.true) in
    let on : t.done + (v.j + 1) ≡ t.done + v.j + 1 = omega arith in
    ap (λ (k : ℕ). left a.limits.now a.b a.scene es k c.look-found-in-loop-j-2.result) on
    ∙ turn_on a.limits.now a.b a.scene es (t.done + v.j) here _ (left_row es t.done t.invariant.part v.j)
    (c.told-entries (t.done + v.j) here) v.found _ c.look-found-in-loop-j-2.ensures c.if-found-ne0-2.false
    ∙ v.invariant

pub returns : goal.returns
returns c =
    let a = c.args in
    let t = c.loop-four in
    let v = c.loop-j-2 in
    sym (turn_end a.limits.now a.b a.scene a.entries.now (t.done + v.j) v.found
    (omega (arith, t.invariant.reach, v.auto.j-end, c.loop-j-2-test.false)))
    ∙ v.invariant
