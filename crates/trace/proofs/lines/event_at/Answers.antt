-- `lines::event_at` meets its contract: each field is read from what the fields before it left, and lies within it. Assumes nothing.
use Rattle.std.proofs.Common.{ℕ, ◌≡◌, ◌+◌, ◌≤◌, List, length, drop, Some, sym, ◌∙◌, arith}
use lib.ListN.{length-drop}
use Rattle.model.specs.declared.Parsed.{Parsed}
use Rattle.model.specs.Texts.{comma, time_bound, number_bound}
use Rattle.model.specs.Readings.{number_at, word_at, event_at}
use Rattle.model.proofs.Lists.{part_is}
use Rattle.grammar.proofs.Fields.{took_le, number_was, word_was}
use Rattle.trace.proofs.lines.event_at.Goals as goal

-- a field lies within the text that it is read from
time_fits : (s : List ℕ) (t : Parsed ℕ) → number_at time_bound comma s ≡ Some t → t.size ≤ length s
time_fits s t e = took_le (number_was time_bound comma s t.value t.size (omega arith) e).0

process_fits : (s : List ℕ) (p : Parsed ℕ) → number_at number_bound comma s ≡ Some p → p.size ≤ length s
process_fits s p e = took_le (number_was number_bound comma s p.value p.size (omega arith) e).0

-- so do all three
within : (s : List ℕ) (t p a : Parsed ℕ) → number_at time_bound comma s ≡ Some t → number_at number_bound comma (drop t.size s) ≡ Some p
    → word_at (drop p.size (drop t.size s)) ≡ Some a → t.size + p.size + a.size ≤ length s
within s t p a e1 e2 e3 =
    omega (
      arith,
      length-drop t.size s,
      length-drop p.size (drop t.size s),
      time_fits s t e1,
      process_fits (drop t.size s) p e2,
      took_le (word_was (drop p.size (drop t.size s)) a.value a.size e3).0,
    )

pub returns-in_default : goal.returns-in_default
unfolding event_at
returns-in_default c = rw (c.at.ensures, sym c.time_at.ensures ∙ c.in_default.is)

pub slice_bounds-after_time-count : goal.slice_bounds-after_time-count
slice_bounds-after_time-count c = time_fits c.args.s.now _ (sym c.time_at.ensures ∙ c.in-Some.is)

pub slice_bounds-after_time-start : goal.slice_bounds-after_time-start
slice_bounds-after_time-start c = time_fits c.args.s.now _ (sym c.time_at.ensures ∙ c.in-Some.is)

pub returns-in_default-number_at : goal.returns-in_default-number_at
unfolding event_at
returns-in_default-number_at c =
    let time = sym c.time_at.ensures ∙ c.in-Some.is in
    rw (c.at-in_default-number_at.ensures, time, rw part_is at (sym c.number_at.ensures ∙ c.in_default-number_at.is))

pub slice_bounds-word_at-count : goal.slice_bounds-word_at-count
slice_bounds-word_at-count c = rw part_is (process_fits _ _ (rw part_is at (sym c.number_at.ensures ∙ c.in-Some-number_at.is)))

pub slice_bounds-word_at-start : goal.slice_bounds-word_at-start
slice_bounds-word_at-start c = rw part_is (process_fits _ _ (rw part_is at (sym c.number_at.ensures ∙ c.in-Some-number_at.is)))

pub returns-in_default-word_at : goal.returns-in_default-word_at
unfolding event_at
returns-in_default-word_at c =
    let time = sym c.time_at.ensures ∙ c.in-Some.is in
    let process = rw part_is at (sym c.number_at.ensures ∙ c.in-Some-number_at.is) in
    rw (c.at-in_default-word_at.ensures, time, process, rw (part_is, part_is) at (sym c.word_at.ensures ∙ c.in_default-word_at.is))

pub overflow_add-result : goal.overflow_add-result
overflow_add-result c =
    let time = sym c.time_at.ensures ∙ c.in-Some.is in
    let process = rw part_is at (sym c.number_at.ensures ∙ c.in-Some-number_at.is) in
    omega (arith, within c.args.s.now _ _ _ time process (rw (part_is, part_is) at (sym c.word_at.ensures ∙ c.in-Some-word_at.is)))

pub overflow_add-result-2 : goal.overflow_add-result-2
overflow_add-result-2 c =
    let time = sym c.time_at.ensures ∙ c.in-Some.is in
    let process = rw part_is at (sym c.number_at.ensures ∙ c.in-Some-number_at.is) in
    omega (arith, within c.args.s.now _ _ _ time process (rw (part_is, part_is) at (sym c.word_at.ensures ∙ c.in-Some-word_at.is)))

pub returns : goal.returns
unfolding event_at
returns c =
    let time = sym c.time_at.ensures ∙ c.in-Some.is in
    let process = rw part_is at (sym c.number_at.ensures ∙ c.in-Some-number_at.is) in
    rw (time, process, rw (part_is, part_is) at (sym c.word_at.ensures ∙ c.in-Some-word_at.is))
