-- `numbers::numbers_at` meets its contract: a field that is read stands in what is left of the text. Assumes nothing.
use Rattle.std.proofs.Common.{ℕ, ◌≡◌, ◌+◌, ◌≤◌, List, length, drop, set, Some, Result, Ok, sym, ap, ◌∙◌, arith}
use lib.ListN.{length-drop}
use Rattle.model.specs.declared.Parsed.{Parsed}
use Rattle.model.specs.declared.Fault.{Fault}
use Rattle.model.specs.Texts.{comma, newline, number_bound}
use Rattle.model.specs.Readings.{parsed, number_at}
use Rattle.model.proofs.Lists.{part_is}
use Rattle.grammar.proofs.Fields.{took_le, number_was}
use Rattle.text.proofs.Turns.{numbers_next, numbers_bad, numbers_last, numbers_none}
use Rattle.text.proofs.numbers.numbers_at.Goals as goal

within : (s : List ℕ) (at end : ℕ) (field : Parsed ℕ) → at ≤ length s → number_at number_bound end (drop at s) ≡ Some field → at + field.size ≤ length s
within s at end field h e =
    omega (arith, took_le (number_was number_bound end (drop at s) field.value field.size (omega arith) e).0, length-drop at s)

abbrev read_line : Parsed (List ℕ) → Result (Parsed (List ℕ)) Fault
read_line l = Ok l

pub returns-in_default : goal.returns-in_default
returns-in_default c =
    let v = c.loop-i in
    let a = c.args in
    let e = rw part_is at (sym c.number_at.ensures ∙ c.in_default.is) in
    rw c.at.ensures (sym (numbers_bad a.line a.more v.i v.at v.numbers a.s.now c.loop-i-test.true e) ∙ v.invariant.1)

pub overflow_add-at : goal.overflow_add-at
overflow_add-at c =
    let v = c.loop-i in
    let e = rw part_is at (sym c.number_at.ensures ∙ c.in-Some.is) in
    omega (arith, within c.args.s.now v.at comma _ v.invariant.0 e)

pub loop-i-preserved : goal.loop-i-preserved
loop-i-preserved c =
    let v = c.loop-i in
    let a = c.args in
    let e = rw part_is at (sym c.number_at.ensures ∙ c.in-Some.is) in (
      within a.s.now v.at comma _ v.invariant.0 e,
      rw c.with_number-next.ensures
          (sym (numbers_next a.line a.more v.i v.at v.numbers a.s.now _ _ c.loop-i-test.true e) ∙ v.invariant.1),
    )

pub returns-in_default-number_at : goal.returns-in_default-number_at
returns-in_default-number_at c =
    let v = c.loop-i in
    let a = c.args in
    let e = rw part_is at (sym c.number_at-2.ensures ∙ c.in_default-number_at.is) in
    rw c.at-in_default-number_at.ensures (sym (numbers_none a.line a.more v.i v.at v.numbers a.s.now (omega arith) e) ∙ v.invariant.1)

pub overflow_add-result : goal.overflow_add-result
overflow_add-result c =
    let v = c.loop-i in
    let e = rw part_is at (sym c.number_at-2.ensures ∙ c.in-Some-number_at.is) in
    omega (arith, within c.args.s.now v.at newline _ v.invariant.0 e)

pub returns : goal.returns
returns c =
    let v = c.loop-i in
    let a = c.args in
    let e = rw part_is at (sym c.number_at-2.ensures ∙ c.in-Some-number_at.is) in
    let z : v.i ≡ a.more = omega arith in
    let f = c.in-Some-number_at.field-0 in
    let last = sym (numbers_last a.line a.more v.i v.at v.numbers a.s.now (omega arith) _ _ e) ∙ v.invariant.1 in
    rw c.with_number-all.ensures (ap (λ (j : ℕ). read_line (parsed (set v.numbers j f.value) (v.at + f.size))) (sym z) ∙ last)
