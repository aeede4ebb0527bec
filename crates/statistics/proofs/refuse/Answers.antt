-- `statistics::refuse` meets its contract: a wait at the state's own clock is answered 1 just where the state is not sound.
-- Assumes nothing.
use Rattle.std.proofs.Common.{◌∙◌}
use Rattle.model.specs.Acts.{wait_act}
use Rattle.theory.proofs.Steps.{unsound_iff_one, unsound_is}
use Rattle.statistics.proofs.Laws.{not_one_sound}
use Rattle.statistics.proofs.refuse.Goals as goal

pub returns-then-answer-code : goal.returns-then-answer-code
returns-then-answer-code c =
    let s = c.args.state in
    let e = (unsound_iff_one s wait_act 0 s.clock).0 (rw (c.step-judged.ensures, c.code.ensures) at c.if-answer-code.true) in
    rw e (c.step-judged.ensures ∙ unsound_is s wait_act 0 s.clock e)

pub returns : goal.returns
returns c =
    let s = c.args.state in
    rw (not_one_sound s wait_act 0 s.clock (rw (c.step-judged.ensures, c.code.ensures) at c.if-answer-code.false), c.from.ensures)
