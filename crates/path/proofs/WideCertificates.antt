-- Certificates that are read with their points and hosts.
use Rattle.std.proofs.Common.{◌≡◌, ◌⊎◌, ◌↔◌, ◌≤◌, ℕ, List, length, Option, Result, Ok, Err, is_ok, refl, sym, ap, ◌∙◌, subst, inl, inr}
use Rattle.asn.specs.DerLaws.{AreOctets}
use Rattle.asn.specs.Walk.{◌>>=◌}
use Rattle.asn.proofs.Laws.{bind_ok, ok_is}
use Rattle.statements_facts.specs.declared.profile.Profile.{Profile}
use Rattle.statements_facts.specs.declared.profile.Profile.TheVariants.{Stated, Wide}
use Rattle.cert.specs.declared.fault.CertFault.{CertFault}
use Rattle.cert.specs.declared.fault.CertFault.TheVariants.{Refused, Memory}
use Rattle.cert.specs.declared.fault.CertRule.{CertRule}
use Rattle.cert.specs.Fault.{FailsUnlessFull}
use Rattle.cert.specs.Certificate.{Certificate, certificate}
use Rattle.cert.specs.CertificateForms.{CertificateIsExact}
use Rattle.cert.specs.CertificateHosts.{CertificateHosts}
use Rattle.cert_hosts.specs.HostsWalk.{certificate_hosts}
use Rattle.cert_hosts.specs.Laws.{HostsAreExact}
use Rattle.cert_hosts.specs.Taken.{HasTakenHosts, HostFaultIsWithin, hosted}
use Rattle.cert_points.specs.DistributionPoint.{DistributionPoint}
use Rattle.cert_points.specs.PointReading.{certificate_points, PointsAreOfExtension}
use Rattle.cert_points.specs.Published.{HasTakenPoints}
use Rattle.cert_points.specs.Offsets.{IsOfPoints, PointFaultIsOfValue}
use Rattle.path.specs.InProfile.{pointed, with_points, with_hosts, widened, wide_certificate, IsWideCertificate, IsWidened, IsWideFault, CertificateIsExactIn, CertificateIsUniqueIn, AnswersAlike, ProfilesDifferInPointsAndHosts, StatedCertificateHasNeither, WideFaultIsOfPointsOrHosts}

abbrev Read : Type 0 → Type 0
Read A = Result A (CertRule × ℕ)

abbrev Points : Type 0
Points = Option (List DistributionPoint)

-- ---- one certificate

fails_first : {Y Z : Type 0} (fault : CertFault) (walk : Read Y) (next : Y → Read Z) → FailsUnlessFull fault walk → FailsUnlessFull fault (walk >>= next)
fails_first (Refused rule at) walk next fails = rw fails refl
fails_first Memory walk next fails = tt

-- no certificate
pub unread : (octets : List ℕ) (fault : CertFault) → FailsUnlessFull fault (certificate octets) → FailsUnlessFull fault (wide_certificate octets)
unfolding wide_certificate
unread octets fault fails = fails_first fault (certificate octets) (λ read. widened read) fails

pub refused_too : (octets : List ℕ) (fault : CertRule × ℕ) → certificate octets ≡ Err fault → wide_certificate octets ≡ Err fault
unfolding wide_certificate
refused_too octets fault e = rw e refl

-- one whose points are taken
pointed_is : (read between : Certificate) → HasTakenPoints read between → with_points read ≡ Ok between
unfolding with_points
pointed_is read between has = rw has.are_its (ap (λ (c : Certificate). Ok c) (sym has.is_taken))

hosted_is : (between taken : Certificate) → HasTakenHosts between taken → with_hosts between ≡ Ok taken
unfolding with_hosts
hosted_is between taken has = rw has.are_its (ap (λ (c : Certificate). Ok c) (sym has.is_taken))

-- one whose points are refused
pub points_refused : (octets : List ℕ) (read : Certificate) (fault : CertFault) → certificate octets ≡ Ok read → FailsUnlessFull fault (certificate_points read.extensions.values) → FailsUnlessFull fault (wide_certificate octets)
unfolding wide_certificate widened with_points
points_refused octets read fault e fails =
    rw e (fails_first fault (certificate_points read.extensions.values >>= λ points. Ok (pointed read points)) (λ between. with_hosts between)
    (fails_first fault (certificate_points read.extensions.values) (λ points. Ok (pointed read points)) fails))

-- one whose mail addresses and hosts are
pub hosts_refused : (octets : List ℕ) (read between : Certificate) (fault : CertFault) → certificate octets ≡ Ok read → HasTakenPoints read between → FailsUnlessFull fault (certificate_hosts between)
    → FailsUnlessFull fault (wide_certificate octets)
unfolding wide_certificate widened with_hosts
hosts_refused octets read between fault e has fails =
    rw (e, pointed_is read between has) (fails_first fault (certificate_hosts between) (λ hosts. Ok (hosted between hosts)) fails)

-- one of which all is taken
pub taken : (octets : List ℕ) (read between now : Certificate) → certificate octets ≡ Ok read → HasTakenPoints read between → HasTakenHosts between now → wide_certificate octets ≡ Ok now
unfolding wide_certificate widened
taken octets read between now e points hosts = rw (e, pointed_is read between points) (hosted_is between now hosts)

-- ---- and back

points_were : (read between : Certificate) → with_points read ≡ Ok between → HasTakenPoints read between
unfolding with_points
points_were read between e =
    let walk = bind_ok (certificate_points read.extensions.values) (λ points. Ok (pointed read points)) between e in
    record { points = walk.0; are_its = walk.1; is_taken = sym (ok_is {E = CertRule × ℕ} (pointed read walk.0) between walk.2) }

hosts_were : (between now : Certificate) → with_hosts between ≡ Ok now → HasTakenHosts between now
unfolding with_hosts
hosts_were between now e =
    let walk = bind_ok (certificate_hosts between) (λ hosts. Ok (hosted between hosts)) now e in
    record { hosts = walk.0; are_its = walk.1; is_taken = sym (ok_is {E = CertRule × ℕ} (hosted between walk.0) now walk.2) }

were_taken : (read now : Certificate) → widened read ≡ Ok now → IsWidened read now
unfolding widened
were_taken read now e =
    let walk = bind_ok (with_points read) (λ between. with_hosts between) now e in
    record { between = walk.0; points = points_were read walk.0 walk.1; hosts = hosts_were walk.0 now walk.2 }

pub was_read : (octets : List ℕ) (now : Certificate) → wide_certificate octets ≡ Ok now → (read : Certificate) × (certificate octets ≡ Ok read) × IsWidened read now
unfolding wide_certificate
was_read octets now e =
    let first = bind_ok (certificate octets) (λ read. widened read) now e in
    (first.0, first.1, were_taken first.0 now first.2)

-- what it was read as, but for its constraints and points
abbrev IsLike : Certificate → Certificate → Type 0
IsLike read now = now ≡ record read { extensions = now.extensions; points = now.points; hosts = now.hosts }

pub stated_too : (octets : List ℕ) (now : Certificate) → wide_certificate octets ≡ Ok now
    → (read : Certificate) × (certificate octets ≡ Ok read) × (now ≡ record read { extensions = now.extensions; points = now.points; hosts = now.hosts })
stated_too octets now e =
    let was = was_read octets now e in
    let points = was.2.points in
    let hosts = was.2.hosts in
    let whole : now ≡ hosted (pointed was.0 points.points) hosts.hosts = hosts.is_taken ∙ ap (λ (c : Certificate). hosted c hosts.hosts) points.is_taken in
    (was.0, was.1, subst (IsLike was.0) (sym whole) refl)

-- points say nothing of mail addresses and hosts
same_hosts : (c : Certificate) (points : Points) → certificate_hosts (pointed c points) ≡ certificate_hosts c
unfolding certificate_hosts
same_hosts c points = refl

-- what is refused behind the certificate
hosts_fault : (between : Certificate) (hosts : Read CertificateHosts) (fault : CertRule × ℕ) → (hosts >>= λ found. Ok (hosted between found)) ≡ Err fault → hosts ≡ Err fault
hosts_fault between (Ok found) fault e = absurd cc
hosts_fault between (Err first) fault e = cc

for_hosts : (between : Certificate) (fault : CertRule × ℕ) → with_hosts between ≡ Err fault → certificate_hosts between ≡ Err fault
unfolding with_hosts
for_hosts between fault e = hosts_fault between (certificate_hosts between) fault e

for_either : (read : Certificate) (fault : CertRule × ℕ) (points : Read Points) → certificate_points read.extensions.values ≡ points → ((points >>= λ found. Ok (pointed read found)) >>= λ between. with_hosts between) ≡ Err fault
    → IsWideFault read fault
for_either read fault (Ok found) is e = inr (ap is_ok is, sym (same_hosts read found) ∙ for_hosts (pointed read found) fault e)
for_either read fault (Err first) is e = inl (is ∙ cc)

own_fault : (read : Certificate) (fault : CertRule × ℕ) → widened read ≡ Err fault → IsWideFault read fault
unfolding widened with_points
own_fault read fault e = for_either read fault (certificate_points read.extensions.values) refl e

pub for_own : (octets : List ℕ) (read : Certificate) (fault : CertRule × ℕ) → certificate octets ≡ Ok read → wide_certificate octets ≡ Err fault → IsWideFault read fault
unfolding wide_certificate
for_own octets read fault e refusal = own_fault read fault (ap (λ (r : Read Certificate). r >>= λ c. widened c) (sym e) ∙ refusal)

-- ---- the laws

abbrev ReadsExactly : List ℕ → Certificate → Type 0
ReadsExactly octets fields = (wide_certificate octets ≡ Ok fields) ↔ IsWideCertificate octets fields

wide_is_exact : CertificateIsExact → PointsAreOfExtension → HostsAreExact → (octets : List ℕ) (fields : Certificate) → AreOctets octets → ReadsExactly octets fields
wide_is_exact exact say says octets fields fits = (is, again) where
  is : wide_certificate octets ≡ Ok fields → IsWideCertificate octets fields
  is e =
      let was = was_read octets fields e in
      let layout = (exact octets was.0 fits).0 was.1 in
      let points = was.2.points in
      let hosts = was.2.hosts in
      let same : was.2.between ≡ pointed was.0 points.points = points.is_taken in
      record {
        read = was.0;
        points = points.points;
        hosts = hosts.hosts;
        is_certificate = layout;
        say = (say octets was.0 points.points fits layout).0 points.are_its;
        says = (says was.0 hosts.hosts).0 (sym (same_hosts was.0 points.points) ∙ (ap certificate_hosts (sym same) ∙ hosts.are_its));
        fields_are = hosts.is_taken ∙ ap (λ (c : Certificate). hosted c hosts.hosts) same;
      }

  again : IsWideCertificate octets fields → wide_certificate octets ≡ Ok fields
  again it =
      taken octets it.read (pointed it.read it.points) fields ((exact octets it.read fits).1 it.is_certificate)
      record { points = it.points; are_its = (say octets it.read it.points fits it.is_certificate).1 it.say; is_taken = refl }
      record { hosts = it.hosts; are_its = same_hosts it.read it.points ∙ (says it.read it.hosts).1 it.says; is_taken = it.fields_are }

pub exact_under : CertificateIsExact → PointsAreOfExtension → HostsAreExact → (profile : Profile) → CertificateIsExactIn profile
exact_under exact say says Stated = exact
exact_under exact say says Wide = wide_is_exact exact say says

pub unique_under : (profile : Profile) → CertificateIsExactIn profile → CertificateIsUniqueIn profile
unique_under profile exact octets one other fits is also =
    ok_is {E = CertRule × ℕ} one other (sym ((exact octets one fits).1 is) ∙ (exact octets other fits).1 also)

pub has_neither : CertificateIsExact → StatedCertificateHasNeither
has_neither exact octets read fits e =
    let is = ((exact octets read fits).0 e).layout.fields_are in
    (ap (λ (c : Certificate). c.points) is, ap (λ (c : Certificate). c.hosts) is)

alike : (read : Certificate) (wide : Read Certificate) → widened read ≡ wide → AnswersAlike (Ok read) wide
alike read (Ok now) e = were_taken read now e
alike read (Err fault) e = own_fault read fault e

answered : (walk : Read Certificate) → AnswersAlike walk (walk >>= λ read. widened read)
answered (Ok read) = alike read (widened read) refl
answered (Err fault) = refl

pub differ : ProfilesDifferInPointsAndHosts
unfolding wide_certificate
differ octets = answered (certificate octets)

pub fault_is_wide : CertificateIsExact → PointFaultIsOfValue → HostFaultIsWithin → WideFaultIsOfPointsOrHosts
fault_is_wide exact points hosts octets read rule at fits e refusal = by (for_own octets read (rule, at) e refusal)
  where
    by : IsWideFault read (rule, at) → (IsOfPoints rule ⊎ (certificate_hosts read ≡ Err (rule, at))) × (at ≤ length octets)
    by (inl first) = let is = points octets read rule at fits ((exact octets read fits).0 e) first in (inl is.0, is.1)
    by (inr (read_points, second)) = (inr second, hosts octets read rule at fits ((exact octets read fits).0 e) second)
