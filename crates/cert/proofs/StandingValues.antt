-- The values of the extensions of a certificate stand in its octets.
use Rattle.std.proofs.Common.{◌≡◌, List, ℕ, Some}
use Rattle.asn.specs.DerLaws.{AreOctets}
use Rattle.asn.specs.Place.{Place, body}
use Rattle.asn.proofs.Laws.{IsEncodedPart, body_octets}
use Rattle.cert.specs.declared.extension_kind.ExtensionKind.{ExtensionKind}
use Rattle.cert.specs.Certificate.{Certificate}
use Rattle.cert.specs.CertificateForms.{IsCertificate}
use Rattle.cert.specs.ExtensionValues.{value_of}
use Rattle.cert.proofs.CertificateFaults.{extension_values_stand}
use Rattle.cert.proofs.CertificateLaws.{certificate_is_exact}
use Rattle.cert.proofs.FaultPlaces.{encoded_part, part_octets}

module _ (octets : List ℕ) (certificate : Certificate) (fits : AreOctets octets) (is : IsCertificate octets certificate) where
  pub value_stands : (kind : ExtensionKind) (value : Place) → value_of kind certificate.extensions.values ≡ Some value → IsEncodedPart octets value
  value_stands kind value kept =
      encoded_part octets value (extension_values_stand octets certificate kind value fits ((certificate_is_exact octets certificate fits).1 is) kept)

  pub value_octets : (kind : ExtensionKind) (value : Place) → value_of kind certificate.extensions.values ≡ Some value → AreOctets (body value)
  value_octets kind value kept =
      let stands = (value_stands kind value kept).stands in
      body_octets value (part_octets octets value.at value.octets fits stands)
