-- The loop of `fields::word_at`: the words that are left read the text. Assumes nothing.
use Rattle.std.proofs.Common.{◌≡◌, drop}
use Rattle.model.specs.Texts.{words}
use Rattle.model.specs.Readings.{word_from, word_at}
use Rattle.text.proofs.fields.word_at.Given as goal

abbrev pub invariant-loop-action : goal.invariant-loop-action
invariant-loop-action l = word_from l.action (drop l.action words) l.s ≡ word_at l.s
