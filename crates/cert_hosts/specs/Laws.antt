-- A certificate says one thing of mail addresses and hosts, or has one first fault in its bases.
use Rattle.std.specs.Prelude.{◌≡◌, ◌↔◌, ℕ, Ok, Err}
use Rattle.cert.specs.declared.fault.CertRule.{CertRule}
use Rattle.cert.specs.Certificate.{Certificate}
use Rattle.cert.specs.CertificateHosts.{CertificateHosts}
use Rattle.cert_hosts.specs.Reading.{SaysHosts, IsRefusedAt}
use Rattle.cert_hosts.specs.HostsWalk.{certificate_hosts}

abbrev pub HostsHaveOneAnswer : Type 0
HostsHaveOneAnswer = (c : Certificate) (one other : CertificateHosts) → SaysHosts c one → SaysHosts c other → one ≡ other

-- what is said is not refused
abbrev pub SaidIsNotRefused : Type 0
SaidIsNotRefused = (c : Certificate) (hosts : CertificateHosts) (rule : CertRule) (at : ℕ) → SaysHosts c hosts → ¬ IsRefusedAt c rule at

-- and what is refused is refused for one rule, at one place
abbrev pub RefusalIsOne : Type 0
RefusalIsOne =
    (c : Certificate) (one other : CertRule) (i j : ℕ) → IsRefusedAt c one i → IsRefusedAt c other j → (one ≡ other) × (i ≡ j)

-- the walk over the bases gives just what is said, and just the first fault

abbrev pub HostsAreExact : Type 0
HostsAreExact = (c : Certificate) (hosts : CertificateHosts) → ((certificate_hosts c ≡ Ok hosts) ↔ SaysHosts c hosts)

abbrev pub RefusalsAreExact : Type 0
RefusalsAreExact = (c : Certificate) (rule : CertRule) (at : ℕ) → ((certificate_hosts c ≡ Err (rule, at)) ↔ IsRefusedAt c rule at)
