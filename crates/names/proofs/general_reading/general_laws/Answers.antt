use Rattle.names.proofs.BaseLaws.{address_test_is_exact, range_of_base_is_exact, refused_base_is_exact}
use Rattle.names.proofs.GeneralLaws.{dns_name_test_is_exact, names_of_base_are_exact, general_names_are_read, subtree_bases_are_read}
use Rattle.names.proofs.general_reading.general_laws.Goals as goal

pub returns : goal.returns
returns c = record {
  general = general_names_are_read;
  base = subtree_bases_are_read;
  dns_name = dns_name_test_is_exact;
  dns_base = names_of_base_are_exact;
  address = address_test_is_exact;
  ip_base = range_of_base_is_exact;
  refused = refused_base_is_exact;
}
