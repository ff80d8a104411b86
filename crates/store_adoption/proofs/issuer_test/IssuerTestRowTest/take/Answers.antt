use Rattle.std.proofs.Common.{◌≡◌, Err, ap}
use Rattle.std.proofs.lemmas.Result.{err_from_is_err_and}
use Rattle.store_adoption.specs.Cells.{IsIssuerCells}
use Rattle.store_sql.specs.declared.fault.StoreFault.{StoreFault}
use Rattle.store_adoption.proofs.Following.{all_here}
use Rattle.store_adoption.proofs.issuer_test.IssuerTestRowTest.take.Goals as goal

pub returns-in_err-id-clause-refused : goal.returns-in_err-id-clause-refused
returns-in_err-id-clause-refused c =
    let p = err_from_is_err_and c.from_residual.result c.from_residual.ensures.1 in
    rw (p.1, p.2) (λ e rows later passed formed. c.in_err-id.ensures.schema (ap Err (let is : c.in_err-id.field-0.0 ≡ StoreFault.Schema = cc in is)) (all_here IsIssuerCells rows c.args.row.now later formed))
