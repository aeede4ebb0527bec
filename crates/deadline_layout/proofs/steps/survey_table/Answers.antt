-- `deadline_layout::steps::survey_table` meets its contract: the parts that are lent are the values of a, the entries up to n and those above.
-- Assumes nothing.
use mathlib.Core.Path.{◌≡◌, sym, ◌∙◌}
use native.Mathlib.Omega.{arith}
use borrow.Author.Rules.{rules}
use borrow.Author.Tests.{eq-eqb, ne_eqb}
use lib.ListN.{length}
use Rattle.layout.proofs.Numbers.{limits_size}
use Rattle.layout.proofs.Surveys.{stand_few}
use Rattle.deadline_layout.proofs.Surveys.{standing_not, pass_opens, parts_reach, pass_is, above_is, pass_faulty, above_not, all_sound}
use Rattle.deadline_layout.proofs.steps.survey_table.Goals as goal

pub returns-then-not-numbers_stand : goal.returns-then-not-numbers_stand
returns-then-not-numbers_stand c =
    c.fault.ensures ∙ standing_not c.args.table.now c.args.acting (sym c.numbers_stand.ensures ∙ c.if-not-numbers_stand.true)

pub split_at-requires : goal.split_at-requires
split_at-requires c =
    let l = c.args.table.now in
    let long : length l ≡ 389 = search rules in
    let few = stand_few _ _ _ (sym c.numbers_stand.ensures ∙ c.if-not-numbers_stand.false) in
    parts_reach l c.args.acting long c.as_chunks.ensures.front few

pub survey_entries-found-requires-clause-own : goal.survey_entries-found-requires-clause-own
survey_entries-found-requires-clause-own c =
    let l = c.args.table.now in
    let long : length l ≡ 389 = search rules in
    let few = stand_few _ _ _ (sym c.numbers_stand.ensures ∙ c.if-not-numbers_stand.false) in
    rw c.scene_of.ensures (omega (arith, few, limits_size l (omega arith)))

pub survey_entries-found-requires-clause-opens : goal.survey_entries-found-requires-clause-opens
survey_entries-found-requires-clause-opens c =
    rw c.scene_of.ensures (pass_opens c.args.table.now (sym c.numbers_stand.ensures ∙ c.if-not-numbers_stand.false))

pub returns-then-found-ne0 : goal.returns-then-found-ne0
returns-then-found-ne0 c =
    let l = c.args.table.now in
    let long : length l ≡ 389 = search rules in
    let stand = sym c.numbers_stand.ensures ∙ c.if-not-numbers_stand.false in
    let passed =
    pass_is l c.args.acting long c.as_chunks.ensures.front (stand_few _ _ _ stand) c.split_at.ensures.front c.scene_of.ensures
    c.survey_entries-found.ensures in
    c.fault-then-found-ne0.ensures ∙ pass_faulty l c.args.acting stand passed c.if-found-ne0.true

pub returns-then-bits-ne0 : goal.returns-then-bits-ne0
returns-then-bits-ne0 c =
    let l = c.args.table.now in
    let long : length l ≡ 389 = search rules in
    let stand = sym c.numbers_stand.ensures ∙ c.if-not-numbers_stand.false in
    let passed =
    pass_is l c.args.acting long c.as_chunks.ensures.front (stand_few _ _ _ stand) c.split_at.ensures.front c.scene_of.ensures
    c.survey_entries-found.ensures in
    let zeros = above_is l c.args.acting long c.as_chunks.ensures.front c.bits.result c.split_at.ensures.back c.bits.ensures in
    c.fault-then-bits-ne0.ensures
    ∙ above_not l c.args.acting stand passed c.if-found-ne0.false (sym zeros ∙ ne_eqb c.bits.result 0 c.if-bits-ne0.true)

pub returns : goal.returns
returns c =
    let l = c.args.table.now in
    let long : length l ≡ 389 = search rules in
    let stand = sym c.numbers_stand.ensures ∙ c.if-not-numbers_stand.false in
    let passed =
    pass_is l c.args.acting long c.as_chunks.ensures.front (stand_few _ _ _ stand) c.split_at.ensures.front c.scene_of.ensures
    c.survey_entries-found.ensures in
    let zeros = above_is l c.args.acting long c.as_chunks.ensures.front c.bits.result c.split_at.ensures.back c.bits.ensures in
    all_sound l c.args.acting stand passed c.if-found-ne0.false (sym zeros ∙ eq-eqb c.bits.result 0 c.if-bits-ne0.false)
