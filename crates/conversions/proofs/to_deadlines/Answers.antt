-- What the check of `conversions::to_deadlines` does not find alone: its entries are those of the state of deadlines that matches. Assumes nothing.
use Rattle.std.proofs.Common.{◌≡◌, ℕ, ◌+◌, ◌-◌, ◌<◌, true, List, length, get_or, sym, ap, ◌∙◌, arith, rules}
use Rattle.model.specs.Types.{Process}
use Rattle.model.specs.Types.{State}
use Rattle.model.specs.States.{idle, limit_at, sound_of}
use Rattle.model.proofs.Lists.{row_at, length_mapped}
use Rattle.model.proofs.Tests.{and_true_iff}
use Rattle.model.proofs.Soundness.{sound_past}
use Rattle.theory.proofs.Conditions.{opposite}
use Rattle.deadlines.specs.Deadlines.{entry_with, idle_with, fresh_with}
use Rattle.deadlines.specs.Looks.{dated_with}
use Rattle.deadlines.specs.Matching.{to_deadlines, dated_from, matched}
use Rattle.deadlines.proofs.Matched.{length_dated, dated-at, sound_same}
use Rattle.deadlines.proofs.Passing.{sound_parts_with, small}
use Rattle.deadlines.proofs.Judging.{dated_fits}
use Rattle.conversions.proofs.Filling.{sound_iff_waits, placed}
use Rattle.conversions.proofs.to_deadlines.Goals as goal

pub returns-then-looked-ne0 : goal.returns-then-looked-ne0
unfolding to_deadlines fresh_with
returns-then-looked-ne0 c =
    rw (
      c.from.ensures,
      c.fresh.ensures,
      c.no_parameters.ensures,
      (opposite (sound_iff_waits _)).1 (rw c.step-looked.ensures at c.if-looked-ne0.true),
    )

own_limit : (a : List ℕ) (i : ℕ) → get_or a i 0 ≡ limit_at a (1 + i)
unfolding limit_at
own_limit a i = ap (λ (m : ℕ). get_or a m 0) {x = i} {y = 1 + i - 1} (omega arith)

-- in a sound state no time of an entry wraps
entry-dated : (s : State) (i : ℕ) (q : Process) → sound_of s ≡ true → i < length s.processes
    → entry_with (dated_with s.parameters.b s.parameters.c (get_or s.parameters.a i 0) (get_or s.processes i q).location)
    ≡ get_or (dated_from s.parameters 1 s.processes) i idle_with
entry-dated s i q e h =
    let few = small (matched s) ((and_true_iff _ _).0 (sym (sound_parts_with (matched s)) ∙ sound_same s ∙ e)).0 in
    let l = (get_or s.processes i idle).location in
    rw (row_at s.processes i q idle h, dated-at s.parameters 1 s.processes i, own_limit s.parameters.a i)
    (ap entry_with (dated_fits s.parameters (1 + i) l (omega (arith, sound_past s e i, few)) few.opens few.closes (few.limit (1 + i))))

pub returns : goal.returns
unfolding to_deadlines
returns c =
    let s = c.args.state in
    let k = s.parameters in
    let sound = (sound_iff_waits _).1 (rw c.step-looked.ensures at c.if-looked-ne0.false) in
    let size : length s.processes ≡ 96 = search (rules, length_mapped) in
    let entries : c.from_fn.result ≡ dated_from k 1 s.processes =
    placed _ _ (λ i. entry_with (dated_with k.b k.c (get_or k.a i 0) (get_or s.processes i idle).location)) (λ x r f g. (search rules, search rules))
    (dated_from k 1 s.processes) _ idle_with (λ i h. entry-dated s i idle sound (omega (arith, length_dated k 1 s.processes))) 96
    (length_dated k 1 s.processes ∙ size) c.from_fn.ensures.items in
    rw (c.accepted.ensures, entries, sound)
