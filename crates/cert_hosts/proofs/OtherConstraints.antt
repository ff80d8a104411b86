-- Certificates whose constraints on mail addresses and URIs are taken out of the others.
use Rattle.std.proofs.Common.{◌≡◌, Bool, true, false, List, [], ◌∷◌, map, Ok, refl, ap}
use Rattle.std.specs.Prelude.{filter}
use Rattle.cert.specs.Certificate.{Certificate}
use Rattle.cert.specs.CertificateHosts.{CertificateHosts}
use Rattle.cert.specs.NameConstraints.{NameConstraints}
use Rattle.cert_hosts.specs.HostsWalk.{certificate_hosts}
use Rattle.cert_hosts.specs.Taken.{HasTakenHosts, hosted, other_constraints}

abbrev with_constraints : Certificate → CertificateHosts → NameConstraints → Certificate
with_constraints c hosts constraints = record c { extensions = record c.extensions { name_constraints = constraints }; hosts = hosts }

pub has_taken : (c : Certificate) (hosts : CertificateHosts) (constraints : NameConstraints) → certificate_hosts c ≡ Ok hosts
    → constraints ≡ other_constraints c.extensions.name_constraints → HasTakenHosts c (with_constraints c hosts constraints)
has_taken c hosts constraints are_its is = record { hosts = hosts; are_its = are_its; is_taken = ap (with_constraints c hosts) is }

-- what is left by what elements are seen as
pub filter_seen : {C B : Type 0} (view : C → B) (test : B → Bool) (list : List C) → map view (filter (λ c. test (view c)) list) ≡ filter test (map view list)
filter_seen view test [] = refl
filter_seen view test (c ∷ cs) = by (test (view c)) refl (filter_seen view test cs)
  where
    by : (b : Bool) → test (view c) ≡ b → map view (filter (λ d. test (view d)) cs) ≡ filter test (map view cs) → map view (filter (λ d. test (view d)) (c ∷ cs)) ≡ filter test (map view (c ∷ cs))
    by true is rest = rw is (ap (λ l. view c ∷ l) rest)
    by false is rest = rw is rest
