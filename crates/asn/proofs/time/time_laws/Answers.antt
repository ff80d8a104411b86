use Rattle.asn.proofs.TimeReading.{time_of, seconds_again}
use Rattle.asn.proofs.time.time_laws.Goals as goal

pub returns-clause-exact : goal.returns-clause-exact
returns-clause-exact c = λ tag text seconds. (time_of tag text seconds, seconds_again tag text seconds)
