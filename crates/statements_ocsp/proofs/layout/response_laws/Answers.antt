use Rattle.statements_ocsp.proofs.KindLaws.{kind_is_exact}
use Rattle.statements_ocsp.proofs.ResponseLaws.{response_is_exact, response_is_unique}
use Rattle.statements_ocsp.proofs.SingleLaws.{single_is_exact}
use Rattle.statements_ocsp.proofs.layout.response_laws.Goals as goal

pub returns-clause-exact : goal.returns-clause-exact
returns-clause-exact c = response_is_exact

pub returns-clause-unique : goal.returns-clause-unique
returns-clause-unique c = response_is_unique

pub returns-clause-single : goal.returns-clause-single
returns-clause-single c = single_is_exact

pub returns-clause-kind : goal.returns-clause-kind
returns-clause-kind c = kind_is_exact
