-- `accepted_log::steps::keep` meets its contract, by the laws of one attempt. Assumes nothing.
use Rattle.accepted_log.proofs.Keeping.{kept_refused, kept_other, kept_own}
use Rattle.accepted_log.proofs.steps.keep.Goals as goal

pub returns-then-code-ne0 : goal.returns-then-code-ne0
returns-then-code-ne0 c = kept_refused _ _ _ c.if-code-ne0.true

pub returns-then-steps-i : goal.returns-then-steps-i
returns-then-steps-i c = kept_other _ _ _ c.if-code-ne0.false c.if-steps-i.true

pub returns : goal.returns
returns c = kept_own _ _ _ c.if-code-ne0.false c.if-steps-i.false
