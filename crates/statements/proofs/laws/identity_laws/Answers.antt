use Rattle.statements.proofs.IssuerLaws.{issuer_decides}
use Rattle.statements.proofs.laws.identity_laws.Goals as goal

pub returns : goal.returns
returns c = issuer_decides
