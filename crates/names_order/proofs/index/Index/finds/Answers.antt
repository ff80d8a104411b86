use Rattle.std.proofs.Common.{◌∙◌, ◌<◌, sym, ap, List, arith, length}
use Rattle.std.proofs.lemmas.List.{length-map}
use Rattle.names.specs.GeneralView.{name_contents, subtree_base}
use Rattle.names.specs.Bases.{names_within}
use Rattle.names.specs.GeneralLayout.{SubtreeBase, dns_base, dns_name, directory_base, directory_name, ip_base, ip_address}
use Rattle.names.specs.GeneralCoverage.{is_base_inside, is_covered}
use Rattle.names_order.specs.Index.{lies_in_one, holds_name}
use Rattle.names_order.proofs.Members.{any_alike, directory_is, dns_is, addresses_are, others_are}
use Rattle.names_order.proofs.index.Index.finds.Goals as goal

pub returns-in-Directory : goal.returns-in-Directory
returns-in-Directory c =
    let name = name_contents c.in-Directory.name in
    rw c.in-Directory.is (c.holds.ensures ∙ any_alike (λ b. is_base_inside (directory_base name) b) (λ b. is_covered (directory_name name) b) (directory_is name) c.args.self.now)

pub returns-in-Dns : goal.returns-in-Dns
returns-in-Dns c =
    let name = c.in-Dns.name.now in
    rw c.in-Dns.is (c.holds-in-Dns.ensures ∙ any_alike (λ b. is_base_inside (dns_base (names_within name)) b) (λ b. is_covered (dns_name name) b) (dns_is name) c.args.self.now)

pub returns-in-Ip : goal.returns-in-Ip
returns-in-Ip c =
    let address = c.in-Ip.address.now in
    let many : 12 < length c.self.inside.all.items = omega (arith, ap length c.self.view_is, length-map c.self.inside.all.items subtree_base, c.requires) in
    rw c.in-Ip.is
    (c.holds-in-Ip.ensures
    ∙ (ap (λ (l : List SubtreeBase). lies_in_one l (ip_base (record { address = address; prefix = c.self.inside.longest }))) (sym c.self.view_is)
    ∙ (addresses_are address c.self.inside.longest c.self.inside.all.items (c.self.invariant many).no_longer
    ∙ ap (λ (l : List SubtreeBase). holds_name l (ip_address address)) c.self.view_is)))

pub returns-in-Other : goal.returns-in-Other
returns-in-Other c = rw c.in-Other.is (others_are c.in-Other.field-0 c.in-Other.field-1.now c.args.self.now)
