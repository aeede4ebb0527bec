-- What the check of `record` does not find alone: past the refusals 2 and 3 there is room to count, and each exit after the step is what the
-- recorded step comes to by its answer. Assumes nothing.
use Rattle.std.proofs.Common.{◌≡◌, length, sym, ap, ◌∙◌, rules}
use Rattle.model.specs.declared.Counts.{Counts}
use Rattle.model.specs.Answers.{step_of}
use Rattle.model.specs.Summaries.{statistics_of, beside}
use Rattle.model.proofs.Lists.{length_mapped}
use Rattle.rules.proofs.Slots.{slot_in}
use Rattle.statistics.proofs.Laws.{no_fault_room, counts_room, recorded_fault, accepted_named}
use Rattle.statistics.proofs.Laws.{gives_unsound, gives_accepted, gives_refused, refused-after, accepted-after}
use Rattle.statistics.proofs.Counted.{past_rests, sound_after, few_after, waits_fit, counted_cleared, counted_kept, Grown, grown_by, grown_not}
use Rattle.statistics.proofs.record.Goals as goal
use Rattle.statistics.proofs.record.Goals.{then-may_wait, else-may_wait}

pub returns-in-Some : goal.returns-in-Some
returns-in-Some c =
    let a = c.args in
    ap (beside a.statistics) c.refuse.ensures
    ∙ sym (recorded_fault a.state a.statistics a.action a.process a.time c.in-Some.refusal (sym (rw c.waits_stand.ensures at c.in-Some.ensures)))

pub wait_after-unused-requires : goal.wait_after-unused-requires
wait_after-unused-requires c =
    let a = c.args in
    let e = c.step-outcome.ensures in
    let size : length a.state.processes ≡ 96 = search (rules, length_mapped) in
    let free = no_fault_room a.state.clock a.statistics (sym (rw c.waits_stand.ensures at c.in_default.ensures)) in
    let ok = rw e at c.if-answer-eq0.true in
    record {
      acting_bound = accepted_named a.state a.action a.process a.time ok;
      n_bound = rw e (few_after a.state size a.statistics free a.action a.process a.time ok);
      rest = rw e (past_rests _ (sound_after a.state size a.statistics free a.action a.process a.time ok));
      fits = rw e (waits_fit a.state size a.statistics free a.action a.process a.time ok);
    }

pub returns-then-does_clear : goal.returns-then-does_clear
returns-then-does_clear c =
    let a = c.args in
    let e = c.step-outcome.ensures in
    let size : length a.state.processes ≡ 96 = search (rules, length_mapped) in
    let free = no_fault_room a.state.clock a.statistics (sym (rw c.waits_stand.ensures at c.in_default.ensures)) in
    let ok = rw e at c.if-answer-eq0.true in
    let slot = c.slot_of-slot.ensures ∙ slot_in a.process (accepted_named a.state a.action a.process a.time ok) in
    let g : Grown a.state (step_of a.state a.action a.process a.time).state a.statistics a.time c.slot_of-slot.result c.if-may_wait.statistics
    c.if-may_wait.wait =
    elim c.if-may_wait.branch [
      | then-may_wait w ↦ grown_by a.state size a.statistics free a.action a.process a.time ok (rw e at w.wait_after-unused.ensures.unused)
          (rw e at w.wait_after-unused.ensures.added) w.wait-is w.statistics-is
      | else-may_wait w ↦ grown_not a.state size a.statistics free a.action a.process a.time ok (sym (rw e at c.may_wait.ensures) ∙ w.if-may_wait.false)
          slot w.wait-is w.statistics-is
    ] in
    gives_accepted a.state a.statistics a.action a.process a.time free e c.if-answer-eq0.true
    (counted_cleared a.state size a.statistics free a.action a.process a.time ok {u = g.unused} g.unused_is slot g.wait_is
    (c.counts_after-statistics.ensures ∙ accepted-after a.statistics.counts a.action _ (counts_room a.state.clock a.statistics free))
    g.waits (sym c.does_clear.ensures ∙ c.if-does_clear.true))

pub returns-else-does_clear : goal.returns-else-does_clear
returns-else-does_clear c =
    let a = c.args in
    let e = c.step-outcome.ensures in
    let size : length a.state.processes ≡ 96 = search (rules, length_mapped) in
    let free = no_fault_room a.state.clock a.statistics (sym (rw c.waits_stand.ensures at c.in_default.ensures)) in
    let ok = rw e at c.if-answer-eq0.true in
    let slot = c.slot_of-slot.ensures ∙ slot_in a.process (accepted_named a.state a.action a.process a.time ok) in
    let g : Grown a.state (step_of a.state a.action a.process a.time).state a.statistics a.time c.slot_of-slot.result c.if-may_wait.statistics
    c.if-may_wait.wait =
    elim c.if-may_wait.branch [
      | then-may_wait w ↦ grown_by a.state size a.statistics free a.action a.process a.time ok (rw e at w.wait_after-unused.ensures.unused)
          (rw e at w.wait_after-unused.ensures.added) w.wait-is w.statistics-is
      | else-may_wait w ↦ grown_not a.state size a.statistics free a.action a.process a.time ok (sym (rw e at c.may_wait.ensures) ∙ w.if-may_wait.false)
          slot w.wait-is w.statistics-is
    ] in
    gives_accepted a.state a.statistics a.action a.process a.time free e c.if-answer-eq0.true
    (counted_kept a.state size a.statistics free a.action a.process a.time ok {u = g.unused} g.unused_is slot g.wait_is
    (c.counts_after-statistics.ensures ∙ accepted-after a.statistics.counts a.action _ (counts_room a.state.clock a.statistics free))
    g.waits (sym c.does_clear.ensures ∙ c.if-does_clear.false))

pub returns-then-answer-code : goal.returns-then-answer-code
returns-then-answer-code c =
    let a = c.args in
    let free = no_fault_room a.state.clock a.statistics (sym (rw c.waits_stand.ensures at c.in_default.ensures)) in
    gives_refused a.state a.statistics a.action a.process a.time free
    c.step-outcome.ensures c.if-answer-eq0.false (rw c.code.ensures at c.if-answer-code.true)
    (ap (λ (k : Counts). statistics_of k a.statistics.waited)
    (c.with_refused-statistics.ensures ∙ refused-after a.statistics.counts (counts_room a.state.clock a.statistics free)))

pub returns-else-answer-code : goal.returns-else-answer-code
returns-else-answer-code c =
    let a = c.args in
    let free = no_fault_room a.state.clock a.statistics (sym (rw c.waits_stand.ensures at c.in_default.ensures)) in
    gives_unsound a.state a.statistics a.action a.process a.time free
    c.step-outcome.ensures (rw c.code.ensures at c.if-answer-code.false)
