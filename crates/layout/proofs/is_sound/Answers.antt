-- `layout::is_sound` meets its contract: too few numbers tell no table, and of enough the pass finds whether they tell a sound one.
-- Assumes nothing.
use Rattle.std.proofs.Common.{sym}
use Rattle.layout.proofs.Lending.{short_unsound, found_sound}
use Rattle.layout.proofs.is_sound.Goals as goal

pub returns-in_default : goal.returns-in_default
returns-in_default c = sym (short_unsound _ c.in_default.ensures.cases)

pub returns : goal.returns
returns c =
    found_sound _ c.in-Some.ensures.cases.enough 0 (rw c.in-Some.ensures.cases.same at c.survey_table-found.ensures)
