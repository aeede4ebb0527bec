-- `local_log::compare` meets its contract: the meaning allows one answer, which is the one that is worked out. Assumes nothing.
use Rattle.local_log.proofs.Worked.{compared_exactly}
use Rattle.local_log.proofs.compare.Goals as goal

pub returns-clause-equals : goal.returns-clause-equals
returns-clause-equals c =
    let a = c.args in
    rw c.from.ensures ((compared_exactly a.d a.e _ _ _).0 c.shift_between.ensures)
