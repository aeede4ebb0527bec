-- `layout::steps::survey_table` meets its contract: the numbers that stand, the entries up to n, and those above. Assumes nothing.
use Rattle.std.proofs.Common.{◌≡◌, length, sym, ◌∙◌, arith, rules}
use Rattle.layout.specs.Encodings.{table_length, table_parameters, clock_in, word_in}
use Rattle.layout.proofs.Surveys.{stand_few, above_is, standing_not, pass_faulty, above_not, all_sound}
use Rattle.layout.proofs.steps.survey_table.Goals as goal

pub returns-then-not-numbers_stand : goal.returns-then-not-numbers_stand
returns-then-not-numbers_stand c =
    let a = c.args in
    c.fault.ensures ∙ standing_not a.table.now a.acting (sym c.numbers_stand.ensures ∙ c.if-not-numbers_stand.true)

pub survey_entries-found-requires : goal.survey_entries-found-requires
survey_entries-found-requires c =
    let l = c.args.table.now in
    omega (arith, stand_few (table_parameters l) (clock_in l) (word_in l) (sym c.numbers_stand.ensures ∙ c.if-not-numbers_stand.false))

pub returns-then-found-ne0 : goal.returns-then-found-ne0
returns-then-found-ne0 c =
    let a = c.args in
    c.fault-then-found-ne0.ensures
    ∙ pass_faulty a.table.now a.acting (sym c.numbers_stand.ensures ∙ c.if-not-numbers_stand.false)
    (rw c.scene_of.ensures at c.survey_entries-found.ensures) c.if-found-ne0.true

pub place_of-requires : goal.place_of-requires
place_of-requires c =
    let l = c.args.table.now in
    omega (arith, stand_few (table_parameters l) (clock_in l) (word_in l) (sym c.numbers_stand.ensures ∙ c.if-not-numbers_stand.false))

pub offset_bounds-table-place_of : goal.offset_bounds-table-place_of
offset_bounds-table-place_of c =
    let l = c.args.table.now in
    let few = stand_few (table_parameters l) (clock_in l) (word_in l) (sym c.numbers_stand.ensures ∙ c.if-not-numbers_stand.false) in
    omega (arith, few, c.place_of.ensures)

pub slice_bounds-are_zero-count : goal.slice_bounds-are_zero-count
slice_bounds-are_zero-count c =
    let l = c.args.table.now in
    let few = stand_few (table_parameters l) (clock_in l) (word_in l) (sym c.numbers_stand.ensures ∙ c.if-not-numbers_stand.false) in
    omega (arith, few, c.place_of.ensures)

pub slice_bounds-are_zero-start : goal.slice_bounds-are_zero-start
slice_bounds-are_zero-start c =
    let l = c.args.table.now in
    let few = stand_few (table_parameters l) (clock_in l) (word_in l) (sym c.numbers_stand.ensures ∙ c.if-not-numbers_stand.false) in
    omega (arith, few, c.place_of.ensures)

pub returns-then-not-are_zero : goal.returns-then-not-are_zero
returns-then-not-are_zero c =
    let a = c.args in
    let long : length a.table.now ≡ table_length = search rules in
    c.fault-then-not-are_zero.ensures
    ∙ above_not a.table.now a.acting (sym c.numbers_stand.ensures ∙ c.if-not-numbers_stand.false)
    (rw c.scene_of.ensures at c.survey_entries-found.ensures) c.if-found-ne0.false
    (sym (above_is a.table.now a.acting long c.place_of.ensures c.are_zero.ensures) ∙ c.if-not-are_zero.true)

pub returns : goal.returns
returns c =
    let a = c.args in
    let long : length a.table.now ≡ table_length = search rules in
    all_sound a.table.now a.acting (sym c.numbers_stand.ensures ∙ c.if-not-numbers_stand.false)
    (rw c.scene_of.ensures at c.survey_entries-found.ensures) c.if-found-ne0.false
    (sym (above_is a.table.now a.acting long c.place_of.ensures c.are_zero.ensures) ∙ c.if-not-are_zero.false)
