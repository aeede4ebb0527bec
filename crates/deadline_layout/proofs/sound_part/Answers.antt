-- `deadline_layout::sound_part` meets its contract: too few numbers tell no deadline table, and of enough the pass finds whether they tell a sound
-- one. Assumes nothing.
use Prim.Native.Nat.{◌<◌}
use mathlib.Core.Path.{sym, ◌∙◌}
use native.Mathlib.Omega.{arith}
use Rattle.std.proofs.lemmas.Grind.{common_steps}
use borrow.Author.Tests.{eq-eqb, ne_eqb}
use lib.ListN.{length}
use Rattle.deadline_layout.proofs.Lending.{short_unsound, found_sound}
use Rattle.deadline_layout.proofs.sound_part.Goals as goal

pub returns-in_err-whole : goal.returns-in_err-whole
returns-in_err-whole c =
    let short : length c.args.deadlines.now < 389 = grind (arith, common_steps) in
    rw c.from_residual.ensures (short_unsound _ short)

pub returns-then-found-ne0 : goal.returns-then-found-ne0
returns-then-found-ne0 c =
    let part = c.in_ok-whole.ensures.cases in
    sym (found_sound _ part.enough 0 (rw part.same at c.survey_table-found.ensures)) ∙ ne_eqb _ 0 c.if-found-ne0.true

pub returns : goal.returns
returns c =
    let part = c.in_ok-whole.ensures.cases in
    record {
      sound = sym (found_sound _ part.enough 0 (rw part.same at c.survey_table-found.ensures)) ∙ eq-eqb _ 0 c.if-found-ne0.false;
      is = part.same;
    }
