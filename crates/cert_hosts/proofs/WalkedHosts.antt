-- The walk over a certificate gives what it says of mail addresses and hosts, or the first of its bases that is malformed.
use Rattle.std.proofs.Common.{◌≡◌, ◌↔◌, ℕ, List, map, Option, Result, Ok, Err, refl, sym, ap, subst, ◌∙◌}
use Rattle.asn.specs.Walk.{◌>>=◌}
use Rattle.asn.proofs.Laws.{bind_ok, ok_is}
use Rattle.cert.specs.declared.fault.CertFault.{CertFault}
use Rattle.cert.specs.declared.fault.CertFault.TheVariants.{Refused, Memory}
use Rattle.cert.specs.declared.fault.CertRule.{CertRule}
use Rattle.cert.specs.Certificate.{Certificate}
use Rattle.cert.specs.CertificateHosts.{CertificateHosts}
use Rattle.cert.specs.Fault.{FailsUnlessFull}
use Rattle.names_hosts.specs.Mail.{MailText}
use Rattle.names_hosts.specs.Uri.{uri_host}
use Rattle.cert_hosts.specs.BaseLists.{BaseLists}
use Rattle.cert_hosts.specs.Mailboxes.{mailbox_of}
use Rattle.cert_hosts.specs.OwnNames.{mail_values, uris}
use Rattle.cert_hosts.specs.Reading.{SaysHosts, IsRefusedAt, IsRefusedFor, lists_of}
use Rattle.cert_hosts.specs.HostsWalk.{base_lists, with_lists, certificate_hosts}
use Rattle.cert_hosts.specs.Laws.{HostsHaveOneAnswer, SaidIsNotRefused, RefusalIsOne, HostsAreExact, RefusalsAreExact}
use Rattle.cert_hosts.proofs.FoundNames.{mail_found, mail_is, hosts_found, hosts_are}
use Rattle.cert_hosts.proofs.WalkedBases.{lists_are_exact, lists_are_refused}

says : (c : Certificate) (lists : BaseLists) → base_lists c.extensions.values ≡ Ok lists → SaysHosts c (with_lists c lists)
says c lists e = record {
  mail = mail_found (mail_values c);
  uris = hosts_found (uris c);
  bases = (lists_are_exact c.extensions.values lists).0 e;
}

hosts_from : (c : Certificate) (hosts : CertificateHosts) → certificate_hosts c ≡ Ok hosts → SaysHosts c hosts
unfolding certificate_hosts
hosts_from c hosts e =
    let a = bind_ok (base_lists c.extensions.values) (λ lists. Ok (with_lists c lists)) hosts e in
    subst (SaysHosts c) (ok_is {E = CertRule × ℕ} (with_lists c a.0) hosts a.2) (says c a.0 a.1)

with_own : (c : Certificate) (hosts : CertificateHosts) → SaysHosts c hosts → with_lists c (lists_of hosts) ≡ hosts
with_own c hosts is =
    let mail : map mailbox_of (mail_values c) ≡ hosts.mail = mail_is (mail_values c) hosts.mail is.mail in
    let found : map uri_host (uris c) ≡ hosts.hosts = hosts_are (uris c) hosts.hosts is.uris in
    ap (λ (m : List (Option MailText)). record (with_lists c (lists_of hosts)) { mail = m }) mail
    ∙ ap (λ (h : List (Option (List ℕ))). record (with_lists c (lists_of hosts)) { mail = hosts.mail; hosts = h }) found

hosts_again : (c : Certificate) (hosts : CertificateHosts) → SaysHosts c hosts → certificate_hosts c ≡ Ok hosts
unfolding certificate_hosts
hosts_again c hosts is =
    rw ((lists_are_exact c.extensions.values (lists_of hosts)).1 is.bases) (ap (λ (h : CertificateHosts). Ok h) (with_own c hosts is))

pub hosts_are_exact : HostsAreExact
hosts_are_exact c hosts = (hosts_from c hosts, hosts_again c hosts)

refused_by : (c : Certificate) (r : Result BaseLists (CertRule × ℕ)) (fault : CertRule × ℕ) → (r >>= λ lists. Ok (with_lists c lists)) ≡ Err fault → r ≡ Err fault
refused_by c (Ok lists) fault e = absurd cc
refused_by c (Err other) fault e = let same : other ≡ fault = cc in ap (λ (f : CertRule × ℕ). Err f) same

pub refusals_are_exact : RefusalsAreExact
unfolding certificate_hosts
refusals_are_exact c rule at =
    let exact = lists_are_refused c.extensions.values rule at in (
      λ e. exact.0 (refused_by c (base_lists c.extensions.values) (rule, at) e),
      λ bad. rw (exact.1 bad) refl,
    )

pub one_answer : HostsHaveOneAnswer
one_answer c one other a b = ok_is {E = CertRule × ℕ} one other (sym (hosts_again c one a) ∙ hosts_again c other b)

pub either : SaidIsNotRefused
either c hosts rule at is bad =
    let never : ◌≡◌ {A = Result CertificateHosts (CertRule × ℕ)} (Ok hosts) (Err (rule, at)) = sym (hosts_again c hosts is) ∙ (refusals_are_exact c rule at).1 bad in absurd cc

pub one_refusal : RefusalIsOne
one_refusal c r s i j a b =
    let same : ◌≡◌ {A = Result CertificateHosts (CertRule × ℕ)} (Err (r, i)) (Err (s, j)) = sym ((refusals_are_exact c r i).1 a) ∙ (refusals_are_exact c s j).1 b in
    let pair : (r, i) ≡ (s, j) = cc in
    (ap (λ (p : CertRule × ℕ). p.0) pair, ap (λ (p : CertRule × ℕ). p.1) pair)

-- a fault of the walk over the bases is that of the certificate
pub gives_fault : (c : Certificate) (fault : CertFault) → FailsUnlessFull fault (base_lists c.extensions.values) → FailsUnlessFull fault (certificate_hosts c)
unfolding certificate_hosts
gives_fault c Memory e = tt
gives_fault c (Refused rule at) e = rw e refl

pub refused_for : (c : Certificate) (fault : CertFault) → FailsUnlessFull fault (certificate_hosts c) → IsRefusedFor c fault
refused_for c Memory e = tt
refused_for c (Refused rule at) e = (refusals_are_exact c rule at).0 e

-- what the code found of each is what the walk gives
pub gives_hosts : (c : Certificate) (lists : BaseLists) (mail : List (Option MailText)) (hosts : List (Option (List ℕ))) → base_lists c.extensions.values ≡ Ok lists
    → mail ≡ map mailbox_of (mail_values c) → hosts ≡ map uri_host (uris c) → certificate_hosts c ≡ Ok (record (with_lists c lists) { mail = mail; hosts = hosts })
unfolding certificate_hosts
gives_hosts c lists mail hosts e mail_is hosts_are =
    rw e (ap (λ (m : List (Option MailText)). Ok (record (with_lists c lists) { mail = m })) (sym mail_is)
    ∙ ap (λ (h : List (Option (List ℕ))). Ok (record (with_lists c lists) { mail = mail; hosts = h })) (sym hosts_are))

pub says_hosts : (c : Certificate) (hosts : CertificateHosts) → certificate_hosts c ≡ Ok hosts → SaysHosts c hosts
says_hosts = hosts_from
