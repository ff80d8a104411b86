use Rattle.names.proofs.DomainLaws.{domain_test_is_exact, domain_inside_is_sound, shared_domains_are_nested}
use Rattle.names.proofs.dns.domain_laws.Goals as goal

pub returns : goal.returns
returns c = record { test = domain_test_is_exact; sound = domain_inside_is_sound; nested = shared_domains_are_nested }
