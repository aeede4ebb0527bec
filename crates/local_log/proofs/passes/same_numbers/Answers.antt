-- What the check of `passes::same_numbers` does not find alone. Assumes nothing.
use Rattle.std.proofs.Common.{sym, inl, inr, ◌∙◌, ap, length, arith}
use Rattle.local_log.proofs.Turns.{same_next, same_end, same_long}
use Rattle.local_log.proofs.passes.same_numbers.Goals as goal

pub returns-then-claims-actions : goal.returns-then-claims-actions
returns-then-claims-actions c = sym (same_long c.args.claims.now c.args.actions.now c.if-claims-actions.true)

pub loop-claim-preserved : goal.loop-claim-preserved
loop-claim-preserved c =
    let v = c.loop-claim in
    let met = c.in-Some.ensures.steps in
    (omega (arith, v.invariant.0, ap length met.0, ap length met.1), same_next v.bits met.0 met.1 ∙ v.invariant.1)

pub returns : goal.returns
returns c =
    let v = c.loop-claim in
    let ended = c.in-None.ensures.steps in
    sym (same_end v.bits _ _ v.invariant.0 (elim ended [ inl a ↦ inl a.1.0 | inr b ↦ inr b.1.0 ])) ∙ v.invariant.1
