-- The constraints behind one more certificate, by those that the fields of the code are seen as.
use Rattle.std.proofs.Common.{◌≡◌, ◌≤◌, ◌+◌, List, ◌++◌, length, map, Option, arith, ap, subst, ◌∙◌}
use Rattle.std.proofs.lemmas.List.{length-append, length-map}
use Rattle.names_hosts.specs.Hosts.{HostNames}
use Rattle.names_hosts.specs.Mail.{MailNames}
use Rattle.cert.specs.CertificateHosts.{CertificateHosts}
use Rattle.path_host_constraints.specs.Lists.{size_of}
use Rattle.path_host_constraints.specs.HostConstraints.{HostConstraints, Narrows}

pub narrows_from : (c : CertificateHosts) (old inside new : HostConstraints) → inside ≡ old → Narrows c inside new → Narrows c old new
narrows_from c old inside new is narrows = subst (λ (held : HostConstraints). Narrows c held new) is narrows

-- a list has no more bases than before and those that come
pub size_is : {B C : Type 0} (view : C → B) (old new change : Option (List B)) (given items : List C) → new ≡ change → size_of change ≤ size_of old + length given → given ≡ items
    → size_of new ≤ size_of old + length (map view items)
size_is view old new change given items new_is few given_is =
    let n = ap size_of new_is in
    let g = ap length given_is in
    let m = length-map items view in
    omega arith

-- and neither have all lists
pub few_more : (c : CertificateHosts) (old_mail new_mail : Option (List MailNames)) (old_hosts new_hosts : Option (List HostNames)) (old_excluded new_excluded : List MailNames) (before behind : List HostNames)
    → size_of new_mail ≤ size_of old_mail + length c.permitted_mail → size_of new_hosts ≤ size_of old_hosts + length c.permitted_hosts
    → new_excluded ≡ old_excluded ++ c.excluded_mail → behind ≡ before ++ c.excluded_hosts
    → size_of new_mail + size_of new_hosts + length new_excluded + length behind
    ≤ size_of old_mail + size_of old_hosts + length old_excluded + length before + (length c.permitted_mail + length c.permitted_hosts + length c.excluded_mail + length c.excluded_hosts)
few_more c old_mail new_mail old_hosts new_hosts old_excluded new_excluded before behind mail hosts mail_joined hosts_joined =
    let m = ap length mail_joined ∙ length-append old_excluded c.excluded_mail in
    let h = ap length hosts_joined ∙ length-append before c.excluded_hosts in
    omega arith
