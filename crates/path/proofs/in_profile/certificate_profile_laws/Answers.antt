use Rattle.path.proofs.WideCertificates.{exact_under, unique_under, has_neither, differ, fault_is_wide}
use Rattle.path.proofs.in_profile.certificate_profile_laws.Goals as goal

pub returns-clause-exact : goal.returns-clause-exact
returns-clause-exact c = exact_under c.certificate_laws.ensures.exact c.point_layout_laws.ensures.certificate c.certificate_hosts_laws.ensures.exact

pub returns-clause-unique : goal.returns-clause-unique
returns-clause-unique c =
    λ profile. unique_under profile
    (exact_under c.certificate_laws.ensures.exact c.point_layout_laws.ensures.certificate c.certificate_hosts_laws.ensures.exact profile)

pub returns-clause-stated : goal.returns-clause-stated
returns-clause-stated c = has_neither c.certificate_laws.ensures.exact

pub returns-clause-wide : goal.returns-clause-wide
returns-clause-wide c = differ

pub returns-clause-fault : goal.returns-clause-fault
returns-clause-fault c = fault_is_wide c.certificate_laws.ensures.exact c.point_layout_laws.ensures.fault c.certificate_hosts_laws.ensures.fault
