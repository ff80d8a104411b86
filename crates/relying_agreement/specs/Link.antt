-- Paths as revocation sees them (RFC 5280, 6.1 and 6.3): each certificate with the one above it, and the slots that speak of it.
use Rattle.std.specs.Prelude.{ℕ, suc, Bool, false, List, [], ◌∷◌, ◌++◌, Option, Some, None, if◌then◌else◌}
use Rattle.std.specs.List.{flat_map}
use Rattle.sha1.specs.Sha1.{sha1}
use Rattle.cert.specs.Place.{body}
use Rattle.cert.specs.BasicConstraints.{BasicConstraints}
use Rattle.cert.specs.Certificate.{Certificate}
use Rattle.statements_facts.specs.declared.scope.Scope.{Scope}
use Rattle.statements_facts.specs.declared.scope.Scope.TheVariants.{All, User, Ca}
use Rattle.statements_facts.specs.Statement.{IssuerIdentity, CrlSlot, OcspSlot, at_point}
use Rattle.path.specs.Query.{Query}
use Rattle.statements.specs.Issuer.{identity_of}

-- certificate j with certificate j - 1, which issued it; certificate 0 is the anchor
pub record Link : Type 0 where
  pub number : ℕ
  pub issuer : Certificate
  pub certificate : Certificate

abbrev pub links_from : ℕ → Certificate → List Certificate → List Link
links_from j issuer [] = []
links_from j issuer (certificate ∷ path) =
    record { number = j; issuer = issuer; certificate = certificate } ∷ links_from (suc j) certificate path

abbrev pub links_of : Query → List Link
links_of query = links_from 1 query.anchor query.certificates

-- basicConstraints is there with cA (4.2.1.9)
abbrev pub has_ca : Option BasicConstraints → Bool
has_ca None = false
has_ca (Some constraints) = constraints.ca

-- whether a certificate is a user's or an authority's, by its basicConstraints (5.2.5; 6.3.3 (b) (2))
abbrev pub own_scope : Certificate → Scope
own_scope certificate = if has_ca certificate.extensions.basic_constraints then Ca else User

-- of all certificates of an issuer, and of those of this one's kind
abbrev pub slots_under : Certificate → IssuerIdentity → List CrlSlot
slots_under certificate issuer =
    record { issuer = issuer; scope = All } ∷ record { issuer = issuer; scope = own_scope certificate } ∷ []

-- of the same lists that are published at points
abbrev pub slots_at : List (List ℕ) → Certificate → IssuerIdentity → List CrlSlot
slots_at points certificate issuer = flat_map (λ point. slots_under certificate (at_point point issuer)) points

-- The slots of the lists that say of a certificate of the issuer whether it is revoked, for whatever reason: of whole lists, and of those
-- that are published at its complete points, without reasons and without cRLIssuer (6.3.3 (b) (2) (i)).
abbrev pub complete_slots : IssuerIdentity → Certificate → List CrlSlot
complete_slots issuer certificate = slots_under certificate issuer ++ slots_at certificate.points.complete certificate issuer

-- The slots of the lists at its limited points, which have reasons, a cRLIssuer or both. What is revoked there is revoked, but such a list
-- does not say that nothing is revoked for a reason that the point does not have (4.2.1.13; 6.3.3 (d), (e) and (j)).
abbrev pub limited_slots : IssuerIdentity → Certificate → List CrlSlot
limited_slots issuer certificate = slots_at certificate.points.limited certificate issuer

abbrev pub complete_slots_of : Link → List CrlSlot
complete_slots_of link = complete_slots (identity_of link.issuer) link.certificate

abbrev pub limited_slots_of : Link → List CrlSlot
limited_slots_of link = limited_slots (identity_of link.issuer) link.certificate

-- The slots of all lists that may revoke a certificate, in the order in which they decide why it is revoked.
abbrev pub crl_slots_of : Link → List CrlSlot
crl_slots_of link = complete_slots_of link ++ limited_slots_of link

-- The slot of a whole list that speaks of the certificate: its issuer's, with the scope.
abbrev pub crl_slot_for : Link → Scope → CrlSlot
crl_slot_for link scope = record { issuer = identity_of link.issuer; scope = scope }

-- The slot of a response that speaks of it: its issuer's, with the SHA-1 of the issuer field as the certificate spells it, and the
-- serial number (RFC 6960, 4.1.1).
abbrev pub ocsp_slot_for : Link → OcspSlot
ocsp_slot_for link = record {
  issuer = identity_of link.issuer;
  name_hash = sha1 link.certificate.issuer.octets;
  serial = body link.certificate.serial;
}
