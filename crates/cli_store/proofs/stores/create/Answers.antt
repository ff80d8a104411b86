use Rattle.std.proofs.Common.{◌≡◌, ◌∙◌, ap, sym}
use Rattle.std.specs.Prelude.{not}
use Rattle.relying_verdicts.specs.declared.fault.Fault.TheVariants.{Store as OfStore}
use Rattle.store_sql.specs.declared.fault.StoreFault.TheVariants.{Schema, Store}
use Rattle.cli_store.specs.Standing.{told_of}
use Rattle.cli_store.proofs.stores.create.Goals as goal

pub returns-in-Ok-clause-settled : goal.returns-in-Ok-clause-settled
returns-in-Ok-clause-settled g c = c.is_autocommit-settled.ensures.settled (c.is_autocommit-settled.ensures.value ∙ ap not c.in-Ok.store.idle)

-- over tables the refusal is never that they are none of a store
pub returns-in-Err-clause-tables : goal.returns-in-Err-clause-tables
returns-in-Err-clause-tables g c = λ has.
    let is = c.in-Err.ensures.tables has in
    c.not_made.ensures.told (λ schema. let both : Store ≡ Schema = sym is ∙ schema in cc) ∙ ap (λ fault. told_of (OfStore fault)) is
