-- `statistics::soundness::waits_stand` meets its contract: no wait so far is past the bits of all; else each is looked at.
-- Assumes nothing.
use Rattle.std.proofs.Common.{leb, sym, ◌∙◌, arith, rules, tests, le-leb}
use Rattle.std.proofs.lemmas.Iterator.{YieldsList-from_slice}
use Rattle.std.proofs.lemmas.Iterator.Search.{all_from_yields_List}
use Rattle.values.proofs.Bits.{bits_above}
use Rattle.statistics.proofs.Laws.{all_few, waited_all}
use Rattle.statistics.proofs.soundness.waits_stand.Goals as goal

pub returns-then-bits_of-clock : goal.returns-then-bits_of-clock
returns-then-bits_of-clock c =
    let l = c.args.waited.now in
    le-leb _ _ c.if-bits_of-clock.true
    ∙ sym (all_few c.args.clock l (λ k. omega (arith, bits_above l k, c.bits_of.ensures, c.if-bits_of-clock.true)))

pub returns-else-bits_of-clock : goal.returns-else-bits_of-clock
returns-else-bits_of-clock c =
    let l = c.args.waited.now in
    all_from_yields_List (λ w. leb w c.args.clock) _ _ _ c.all.ensures.ran (YieldsList-from_slice l cc) (λ x b q k. search (rules, tests))
    ∙ waited_all c.args.clock l
