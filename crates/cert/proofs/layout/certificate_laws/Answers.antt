use Rattle.cert.proofs.CertificateLaws.{certificate_is_exact, certificate_is_unique}
use Rattle.cert.proofs.FieldLaws.{extensions_by_field}
use Rattle.cert.proofs.layout.certificate_laws.Goals as goal

pub returns-clause-exact : goal.returns-clause-exact
returns-clause-exact c = certificate_is_exact

pub returns-clause-unique : goal.returns-clause-unique
returns-clause-unique c = certificate_is_unique

pub returns-clause-by_field : goal.returns-clause-by_field
returns-clause-by_field c = extensions_by_field
