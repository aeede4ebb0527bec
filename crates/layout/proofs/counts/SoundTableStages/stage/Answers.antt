-- The stage of an entry of a `layout::counts::SoundTable`: that of the location that the entry tells; past all entries are none but in the
-- remainder. Assumes nothing.
use Rattle.std.proofs.Common.{◌≤◌, sym, ◌∙◌, arith}
use Rattle.layout.specs.Encodings.{count_in}
use Rattle.layout.proofs.Waiting.{few_processes, past_count, stage_read}
use Rattle.layout.proofs.counts.SoundTableStages.stage.Goals as goal

pub returns-then-i-ge96 : goal.returns-then-i-ge96
returns-then-i-ge96 c =
    let s = c.args.self.now in
    let few : count_in s.table.now ≤ 96 = few_processes s.table.now s.long s.sound in
    sym (past_count s.table.now s.long s.sound c.args.i (omega (arith, few)))

pub returns : goal.returns
returns c =
    let s = c.args.self.now in
    c.stage_in.ensures ∙ stage_read s.table.now s.long s.sound c.args.i
