-- The certificates among the values that a response brings with it (RFC 6960, 4.2.1).
use Rattle.std.specs.Prelude.{◌≡◌, ◌≢◌, ◌<◌, ℕ, List, [], ◌∷◌, ◌++◌, length, Option, Some, None, Result, Ok, Err}
use Rattle.std.specs.List.{filter_map, AllByRecursion}
use Rattle.cert.specs.declared.fault.CertRule.{CertRule}
use Rattle.cert.specs.declared.certificate.Certificate as read
use Rattle.asn.specs.Place.{Place}
use Rattle.cert.specs.Certificate.{Certificate, certificate_at, seen_certificate}
use Rattle.statements_ocsp.specs.declared.certs.Certs as walk
use Rattle.statements_ocsp.specs.OcspResponse.{OcspResponse, certs_left}

-- the certificate that a value is, where it is one
abbrev pub read_of : Result Certificate (CertRule × ℕ) → Option Certificate
read_of (Ok c) = Some c
read_of (Err fault) = None

abbrev pub certificate_in : Place → Option Certificate
certificate_in value = read_of (certificate_at value)

-- the certificates among the values, in order; other values are passed over
abbrev pub certificates_in : OcspResponse → List Certificate
certificates_in response = filter_map certificate_in response.certs

abbrev pub certificates_left : walk.Certs → List Certificate
certificates_left walk = filter_map certificate_in (certs_left walk)

-- none is left, or the first is handed out, with which one value at least is gone
abbrev pub HandsOut : walk.Certs → walk.Certs → Option read.Certificate → Type 0
HandsOut old new None = certificates_left old ≡ []
HandsOut old new (Some c) =
    (certificates_left old ≡ seen_certificate c ∷ certificates_left new) × (length (certs_left new) < length (certs_left old))

-- the values are some that are no certificates, and then the others
abbrev pub PassesOver : List Place → List Place → Type 0
PassesOver values others = (passed : List Place) × (values ≡ passed ++ others) × AllByRecursion (λ value. certificate_in value ≡ None) passed

-- Nothing is left then; or what was left is some values that are no certificates, the one that is handed out, and what is left then.
abbrev pub PassesTo : List Place → List Place → Option read.Certificate → Type 0
PassesTo old new None = new ≡ []
PassesTo old new (Some c) = (value : Place) × (certificate_in value ≡ Some (seen_certificate c)) × PassesOver old (value ∷ new)

-- Only values that are no certificates are gone, and one is left, the one that was to be read.
abbrev pub StopsAtValue : List Place → List Place → Type 0
StopsAtValue old new = PassesOver old new × (new ≢ [])
