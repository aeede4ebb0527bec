-- `execution::start` meets its contract: the state is fresh for the parameters that were found. Assumes nothing.
use Rattle.std.proofs.Common.{◌≡◌, Result, ap}
use Rattle.std.proofs.lemmas.Result.{err_from_is_err_and}
use Rattle.model.specs.declared.Fault.{Fault}
use Rattle.model.specs.declared.Found.{Found}
use Rattle.model.specs.Readings.{Lists, Scanned, scan_gave}
use Rattle.model.specs.Executions.{start_gave, started_from, started_of}
use Rattle.execution.proofs.start.Goals as goal

started : {m : Lists} {r : Result Found Fault} {x : Scanned} → scan_gave r m ≡ x
    → start_gave (started_from r) m ≡ start_gave (started_from x.scan) x.kept
started e = ap (λ (y : Scanned). start_gave (started_from y.scan) y.kept) e

pub returns-in_err-found : goal.returns-in_err-found
unfolding started_of
returns-in_err-found c =
    let p = err_from_is_err_and c.from_residual.result c.from_residual.ensures.1 in
    rw (p.1, p.2) (started (rw c.in_err-found.was at c.scan.ensures))

pub returns : goal.returns
unfolding started_of
returns c = rw c.fresh-made.ensures (started (rw c.in_ok-found.was at c.scan.ensures))
