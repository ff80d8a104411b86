use Rattle.std.proofs.Common.{sym, subst}
use Rattle.asn.specs.Place.{seen_tlv}
use Rattle.names_hosts.specs.Hosts.{host_names}
use Rattle.cert_hosts.specs.BaseLists.{seen_lists}
use Rattle.cert_hosts.specs.Bases.{host_base}
use Rattle.cert_hosts.specs.Reading.{TellsWith}
use Rattle.cert_hosts.proofs.Told.{host_base_told}
use Rattle.cert_hosts.proofs.base_lists.BaseLists.take_host.Goals as goal

pub returns : goal.returns
returns c =
    subst (TellsWith (host_base c.args.permitted (seen_tlv c.args.value)) (seen_lists c.args.self.now)) (sym c.in_ok-push_host.ensures)
    (host_base_told c.args.permitted (seen_tlv c.args.value) (host_names c.in_ok-base.base) (seen_lists c.args.self.now) c.in_ok-base.ensures.reads)
