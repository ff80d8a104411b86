-- What general names and subtrees say, without where they lie in memory.
use Rattle.names_distinguished.specs.declared.name.Name.{Name}
use Rattle.names.specs.declared.general.General.{General}
use Rattle.names.specs.declared.general.General.TheVariants as G
use Rattle.names.specs.declared.subtree.Subtree.{Subtree}
use Rattle.names.specs.declared.subtree.Subtree.TheVariants as S
use Rattle.names_distinguished.specs.NameOctets.{raw_of, offset_of, rdns_of}
use Rattle.names.specs.Bases.{domain_names, address_range}
use Rattle.names.specs.GeneralLayout.{NameContents, GeneralName, SubtreeBase, directory_name, dns_name, ip_address, other_name, directory_base, dns_base, ip_base, other_base}

abbrev pub name_contents : Name → NameContents
name_contents name = record { octets = raw_of name; at = offset_of name; rdns = rdns_of name }

abbrev pub general_name : General → GeneralName
general_name (G.Directory name) = directory_name (name_contents name)
general_name (G.Dns name) = dns_name name.now
general_name (G.Ip address) = ip_address address.now
general_name (G.Other number contents) = other_name number contents.now

abbrev pub subtree_base : Subtree → SubtreeBase
subtree_base (S.Directory name) = directory_base (name_contents name)
subtree_base (S.Dns domain) = dns_base (domain_names domain)
subtree_base (S.Ip range) = ip_base (address_range range)
subtree_base (S.Other number contents) = other_base number contents.now
