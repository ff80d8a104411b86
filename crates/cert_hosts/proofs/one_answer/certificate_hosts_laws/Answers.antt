use Rattle.cert_hosts.proofs.WalkedHosts.{hosts_are_exact, refusals_are_exact, one_answer, either, one_refusal}
use Rattle.cert_hosts.proofs.FaultPlaces.{fault_is_within}
use Rattle.cert_hosts.proofs.OwnBases.{bases_are_its_own}
use Rattle.cert_hosts.proofs.one_answer.certificate_hosts_laws.Goals as goal

pub returns : goal.returns
returns c = record {
  one = one_answer;
  either = either;
  refusal = one_refusal;
  exact = hosts_are_exact;
  exact_refusal = refusals_are_exact;
  fault = fault_is_within;
  own = bases_are_its_own c.certificate_laws.ensures.by_field;
}
