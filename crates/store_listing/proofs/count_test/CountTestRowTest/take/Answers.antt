use Rattle.std.proofs.Common.{◌≡◌, Err, ap}
use Rattle.std.proofs.lemmas.Result.{err_from_is_err_and}
use Rattle.store_sql.specs.declared.fault.StoreFault.{StoreFault}
use Rattle.store_adoption.proofs.Laws.{all_here}
use Rattle.store_listing.specs.Cells.{IsKeyRow}
use Rattle.store_listing.proofs.Counting.{never_full}
use Rattle.store_listing.proofs.count_test.CountTestRowTest.take.Goals as goal

pub returns-in_err-list-clause-refused : goal.returns-in_err-list-clause-refused
returns-in_err-list-clause-refused c =
    let p = err_from_is_err_and c.from_residual.result c.from_residual.ensures.1 in
    rw (p.1, p.2) (λ e rows later passed formed. c.in_err-list.ensures.schema (ap Err (let is : c.in_err-list.field-0.0 ≡ StoreFault.Schema = cc in is)) (all_here IsKeyRow rows c.args.row.now later formed.0))

pub returns-clause-refused : goal.returns-clause-refused
returns-clause-refused c e rows later passed formed =
    never_full c.args.self.now.counts rows later c.args.row.now c.in_ok-list.list passed.1 c.in_ok-list.ensures.ok.1 formed.1 (c.count_one.ensures.full e)
