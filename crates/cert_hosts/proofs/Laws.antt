-- The laws that other crates may cite.
pub use Rattle.cert_hosts.proofs.WalkedHosts.{hosts_are_exact, refusals_are_exact, one_answer, either, one_refusal}
pub use Rattle.cert_hosts.proofs.FaultPlaces.{fault_is_within}
pub use Rattle.cert_hosts.proofs.OwnBases.{bases_are_its_own}
