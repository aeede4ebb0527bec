-- `texts::put_limit` meets its contract. Assumes nothing.
use mathlib.Core.List.{[], ◌∷◌}
use native.Mathlib.Omega.{arith}
use Rattle.text.proofs.Putting.{all_numbers}
use Rattle.trace.proofs.texts.put_limit.Goals as goal

pub returns : goal.returns
returns c =
    let all = all_numbers (c.args.limit ∷ []) (omega arith) in
    record { put = rw all at c.put_numbers.ensures.put; upper_bound = c.put_numbers.ensures.upper_bound }
