-- `local_log::passes::find_differences` meets its contract: the places passed and those left come to the whole pass. Assumes nothing.
use Rattle.std.proofs.Common.{◌≡◌}
use Rattle.std.specs.Slice.Iter.{iter_rest}
use Rattle.std.specs.Iterator.Adapters.{zip_first, zip_second}
use Rattle.local_log.specs.Passes.{differences, pass_from, pass_of}
use Rattle.local_log.proofs.passes.find_differences.Given as goal

abbrev pub invariant-loop-stamp : goal.invariant-loop-stamp
invariant-loop-stamp l =
    pass_from (differences l.smallest l.largest) (iter_rest (zip_first l.stamp-iterator)) (iter_rest (zip_second l.stamp-iterator))
    ≡ pass_of l.stamps l.times
