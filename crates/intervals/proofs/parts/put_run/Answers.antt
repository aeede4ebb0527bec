-- `intervals::parts::put_run` meets its contract: the names line, what the steps put, and the end of a line that is still begun.
-- Assumes nothing.
use Rattle.std.proofs.Common.{refl, sym, ◌∙◌}
use mathlib.Core.List.{append-nil}
use Rattle.text.proofs.Putting.{put_first}
use Rattle.text.proofs.Wholes.{after_names}
use Rattle.intervals.specs.Parts.{pass_text}
use Rattle.intervals.proofs.parts.put_run.Goals as goal

pub returns-then-steps : goal.returns-then-steps
unfolding pass_text
returns-then-steps c =
    let so_far = after_names c.put_text-names.ensures refl c.put_steps-steps.ensures.put in
    let opened = sym c.put_steps-steps.ensures.opened_value ∙ c.if-steps.true in
    rw opened (put_first so_far c.put_text.ensures)

pub returns : goal.returns
unfolding pass_text
returns c =
    let so_far = after_names c.put_text-names.ensures refl c.put_steps-steps.ensures.put in
    let opened = sym c.put_steps-steps.ensures.opened_value ∙ c.if-steps.false in
    rw (opened, append-nil) so_far
