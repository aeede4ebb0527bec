-- `trace::scan` meets its contract: each way out is a law of `Readings`. Assumes nothing.
use Rattle.std.proofs.Common.{ℕ, ◌≡◌, ◌≤◌, ◌<◌, min, length, List, Ok, refl, sym, ap, ◌∙◌, arith}
use Rattle.std.proofs.lemmas.Result.{err_from_is_err_and}
use Rattle.model.specs.declared.Head.{Head}
use Rattle.model.specs.Readings.{found, head_of, Lists, lists, scan_gave}
use Rattle.model.proofs.Lists.{part_is}
use Rattle.grammar.proofs.Fields.{took_le}
use Rattle.grammar.proofs.Heads.{HeadTook, head_was, head_line}
use Rattle.trace.proofs.Readings.{scan_refused, scan_fault, scan_full, scan_stored}
use Rattle.trace.proofs.scan.Goals as goal

-- The first lines are read: they are part of the text, and there is a line of the first step
module _ (text : List ℕ) (h : Head) (e : head_of text ≡ Ok h) where
  took : HeadTook text h
  took = head_was text h e

  inside : h.size ≤ length text
  inside = took_le took.took

  line_some : 0 < h.line
  line_some = (head_line took).0

  line_fits : h.line ≤ 65536
  line_fits = omega (arith, (head_line took).1, inside, took.short)

pub returns-in_err-head : goal.returns-in_err-head
returns-in_err-head c =
    let a = c.args in
    let l = lists a.times.now a.processes.now a.actions.now in
    let p = err_from_is_err_and c.from_residual.result c.from_residual.ensures.1 in
    rw (scan_refused a.text.now l _ (sym c.head_of.ensures ∙ c.in_err-head.was), p.1, p.2)

pub slice_bounds-body-count : goal.slice_bounds-body-count
slice_bounds-body-count c = inside c.args.text.now _ (sym c.head_of.ensures ∙ c.in_ok-head.was)

pub slice_bounds-body-start : goal.slice_bounds-body-start
slice_bounds-body-start c = inside c.args.text.now _ (sym c.head_of.ensures ∙ c.in_ok-head.was)

pub count_events-requires-clause-first_nonzero : goal.count_events-requires-clause-first_nonzero
count_events-requires-clause-first_nonzero c = line_some c.args.text.now _ (sym c.head_of.ensures ∙ c.in_ok-head.was)

pub count_events-requires-clause-first_bound : goal.count_events-requires-clause-first_bound
count_events-requires-clause-first_bound c = line_fits c.args.text.now _ (sym c.head_of.ensures ∙ c.in_ok-head.was)

pub returns-in_err-steps : goal.returns-in_err-steps
returns-in_err-steps c =
    let a = c.args in
    let l = lists a.times.now a.processes.now a.actions.now in
    let head = sym c.head_of.ensures ∙ c.in_ok-head.was in
    let r = c.from_residual-in_err-steps in
    let p = err_from_is_err_and r.result r.ensures.1 in
    let counted = rw part_is at (sym c.count_events.ensures ∙ c.in_err-steps.was) in
    rw (scan_fault a.text.now l _ head _ refl _ counted, p.1, p.2)

pub returns-then-min-steps : goal.returns-then-min-steps
returns-then-min-steps c =
    let a = c.args in
    let l = lists a.times.now a.processes.now a.actions.now in
    let head = sym c.head_of.ensures ∙ c.in_ok-head.was in
    let counted = rw part_is at (sym c.count_events.ensures ∙ c.in_ok-steps.was) in
    let room_is = c.min-2.ensures ∙ ap (min (length a.times.now)) c.min.ensures in
    rw (c.at.ensures, scan_full a.text.now l _ head _ refl _ counted (rw room_is at c.if-min-steps.true))

pub store_events-requires-clause-first_nonzero : goal.store_events-requires-clause-first_nonzero
store_events-requires-clause-first_nonzero c = line_some c.args.text.now _ (sym c.head_of.ensures ∙ c.in_ok-head.was)

pub store_events-requires-clause-first_bound : goal.store_events-requires-clause-first_bound
store_events-requires-clause-first_bound c = line_fits c.args.text.now _ (sym c.head_of.ensures ∙ c.in_ok-head.was)

pub returns : goal.returns
returns c =
    let a = c.args in
    let l = lists a.times.now a.processes.now a.actions.now in
    let head = sym c.head_of.ensures ∙ c.in_ok-head.was in
    let counted = rw part_is at (sym c.count_events.ensures ∙ c.in_ok-steps.was) in
    let again = rw part_is at (sym c.store_events.ensures.value ∙ c.in_ok-steps-2.was) in
    let room_is = c.min-2.ensures ∙ ap (min (length a.times.now)) c.min.ensures in
    let kept = rw part_is at c.store_events.ensures.actions_value in
    let all = scan_stored a.text.now l _ head _ refl _ counted (rw room_is at c.if-min-steps.false) in
    let same : c.in_ok-steps.steps ≡ c.in_ok-steps-2.steps = let e = sym counted ∙ again in cc in
    rw (all, ← same) (ap (λ (k : Lists). scan_gave (Ok (found c.in_ok-head.head.line c.in_ok-head.head.parameters c.in_ok-steps.steps)) k) kept)
