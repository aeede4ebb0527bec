-- `texts::put_head` meets its contract: the five parts are put one after the other. Assumes nothing.
use Rattle.std.proofs.Common.{[], ◌∷◌, arith}
use Rattle.model.specs.Texts.{values_text, head_text}
use Rattle.text.proofs.Putting.{put_both, put_first, all_numbers}
use Rattle.trace.proofs.texts.put_head.Goals as goal

pub returns-clause-put : goal.returns-clause-put
unfolding head_text values_text
returns-clause-put c =
    let k = c.args.parameters in
    let all = all_numbers (k.b ∷ k.c ∷ []) (omega arith) in
    put_first c.put_text-i.ensures
    (put_both (rw all at c.put_numbers-j.ensures.put)
    (put_both c.put_text-k.ensures (put_both c.put_limits-l.ensures.put c.put_text-m.ensures)))
