-- The count of a `layout::counts::SoundTable`: the numbers of a sound table tell a sound state. Assumes nothing.
use Rattle.layout.proofs.Waiting.{few_processes, past_count}
use Rattle.layout.proofs.counts.SoundTableStages.count.Goals as goal

pub returns : goal.returns
returns c =
    let s = c.args.self.now in
    record { most = few_processes s.table.now s.long s.sound; rest = past_count s.table.now s.long s.sound }
