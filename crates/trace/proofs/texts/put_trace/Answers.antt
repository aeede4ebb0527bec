-- `texts::put_trace` meets its contract. Assumes nothing.
use Rattle.trace.proofs.Sizes.{put_sized}
use Rattle.trace.proofs.texts.put_trace.Goals as goal

pub returns : goal.returns
returns c = put_sized c.put_head-head.ensures.put c.put_events.ensures
