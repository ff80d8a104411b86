use Rattle.der_stream.proofs.Shown.{one_shown, each_shown}
use Rattle.der_stream.proofs.front.front_laws.Goals as goal

pub returns-clause-one : goal.returns-clause-one
returns-clause-one c = one_shown

pub returns-clause-each : goal.returns-clause-each
returns-clause-each c = each_shown
