use Rattle.cert.proofs.CertificateFaults.{name_fault_is_within, general_fault_is_within, subtree_fault_is_within, certificate_fault_is_within, extension_values_stand}
use Rattle.cert.proofs.offsets.offset_laws.Goals as goal

pub returns : goal.returns
returns c = record { name = name_fault_is_within; general = general_fault_is_within; subtree = subtree_fault_is_within; certificate = certificate_fault_is_within; values = extension_values_stand }
