use Rattle.std.proofs.Common.{◌≡◌, Err, ap}
use Rattle.std.proofs.lemmas.Result.{err_from_is_err_and}
use Rattle.store_sql.specs.declared.fault.StoreFault.{StoreFault}
use Rattle.store_adoption.proofs.Cells.{no_number}
use Rattle.store_adoption.proofs.cell.number.Goals as goal

pub returns-in_err-octets-clause-schema : goal.returns-in_err-octets-clause-schema
returns-in_err-octets-clause-schema c =
    let p = err_from_is_err_and c.from_residual.result c.from_residual.ensures.1 in
    rw (p.1, p.2) (λ e. no_number c.args.row.now c.args.at (c.in_err-octets.ensures.schema (ap Err (let is : c.in_err-octets.field-0.0 ≡ StoreFault.Schema = cc in is))))
