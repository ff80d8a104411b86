use Rattle.statements_crl.proofs.EntryLaws.{entry_is_exact}
use Rattle.statements_crl.proofs.ListLaws.{list_is_exact, list_is_unique}
use Rattle.statements_crl.proofs.layout.list_laws.Goals as goal

pub returns-clause-exact : goal.returns-clause-exact
returns-clause-exact c = list_is_exact

pub returns-clause-unique : goal.returns-clause-unique
returns-clause-unique c = list_is_unique

pub returns-clause-entry : goal.returns-clause-entry
returns-clause-entry c = entry_is_exact
