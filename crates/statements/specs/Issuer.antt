-- Whom certificates are of.
use Rattle.names.specs.NameKey.{name_key}
use Rattle.cert.specs.Certificate.{Certificate}
use Rattle.statements_facts.specs.Statement.{IssuerIdentity}

-- by the name and the key of the subject (RFC 5280, 4.1.2.6 and 4.1.2.7)
abbrev pub identity_of : Certificate → IssuerIdentity
identity_of certificate = record { name = name_key certificate.subject.rdns; key_info = certificate.key_info.value.octets }
