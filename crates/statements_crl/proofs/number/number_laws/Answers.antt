use Rattle.statements_crl.proofs.Numbers.{test_finds, test_knows}
use Rattle.statements_crl.proofs.number.number_laws.Goals as goal

pub returns : goal.returns
returns c = record { found = test_finds; known = test_knows }
