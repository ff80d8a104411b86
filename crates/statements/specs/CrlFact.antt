-- What a list says of its issuer's certificates (RFC 5280, 5.1 to 5.3, and 6.3.3 (f) and (g)).
use Rattle.std.specs.Prelude.{◌≡◌, ℕ, Bool, List, Result, Ok, IsTrue}
use Rattle.asn.specs.Integer.{binary_value}
use Rattle.names.specs.DistinguishedName.{NamesMatch, matching}
use Rattle.cert.specs.Certificate.{Certificate}
use Rattle.statements_crl.specs.CertificateList.{CertificateList}
use Rattle.statements_crl.specs.Entry.{reason_listed}
use Rattle.statements_facts.specs.declared.profile.Profile.{Profile}
use Rattle.statements_crl.specs.ListForms.{IsCertificateList, IsCertificateListUnder}
use Rattle.statements_parts.specs.declared.fault.StatementFault.{StatementFault}
use Rattle.statements_parts.specs.declared.fault.StatementFault.TheVariants.{OtherIssuer, BadSignature}
use Rattle.statements_facts.specs.Fact.{Fact, list_facts}
use Rattle.statements_facts.specs.Statement.{IssuerIdentity, CrlSlot, CrlFact, kept_for}
use Rattle.statements.specs.Issuer.{identity_of}
use Rattle.statements.specs.Genuine.{Accepts, ◌then◌, or_else}

-- the list is of the issuer by its name
abbrev pub IsNamed : Certificate → CertificateList → Type 0
IsNamed issuer list = NamesMatch list.issuer.rdns issuer.subject.rdns

-- and its signature is accepted under the issuer's key
abbrev pub is_signed : Accepts → Certificate → CertificateList → Bool
is_signed accepts issuer list =
    accepts list.algorithm.value.octets issuer.key_info.value.octets list.tbs.octets list.signature.octets

-- what a whole list is numbered within: the issuer and the scope
abbrev pub slot_of : Certificate → CertificateList → CrlSlot
slot_of issuer list = record { issuer = identity_of issuer; scope = list.scope }

-- A serial number that is listed twice counts once, with its first reason.
abbrev pub fact_of_list : CertificateList → CrlFact
fact_of_list list = record {
  number = binary_value list.number;
  window = record { from = list.this_update; until = list.next_update };
  reasons = reason_listed list.entries;
}

-- for whom it is kept: the issuer, or, if it is published at points, the issuer at each of them (5.2.5, 6.3.3 (b) (2))
abbrev pub issuers_of : Certificate → CertificateList → List IssuerIdentity
issuers_of issuer list = kept_for list.points (identity_of issuer)

-- its facts, one for each
abbrev pub crl_facts : Certificate → CertificateList → List Fact
crl_facts issuer list = list_facts list.scope (fact_of_list list) (issuers_of issuer list)

-- The octets are a list of the issuer, in a profile, and these are its facts. No moment is looked at.
pub record AreCrlFacts (profile : Profile) (accepts : Accepts) (issuer : Certificate) (octets : List ℕ) (facts : List Fact) : Type 0 where
  pub list : CertificateList
  pub is_list : IsCertificateListUnder profile octets list
  pub named : IsNamed issuer list
  pub signed : IsTrue (is_signed accepts issuer list)
  pub facts_are : facts ≡ crl_facts issuer list

-- The octets are a whole list of the issuer, which says this.
pub record IsCrlFact (accepts : Accepts) (issuer : Certificate) (octets : List ℕ) (slot : CrlSlot) (fact : CrlFact) : Type 0 where
  pub list : CertificateList
  pub is_list : IsCertificateList octets list
  pub named : IsNamed issuer list
  pub signed : IsTrue (is_signed accepts issuer list)
  pub slot_is : slot ≡ slot_of issuer list
  pub fact_is : fact ≡ fact_of_list list

-- the checks of the issuer in their order: its name, the signature
unfoldable pub of_issuer : Accepts → Certificate → CertificateList → Result (Unit {0}) StatementFault
of_issuer accepts issuer list =
    or_else (matching list.issuer.rdns issuer.subject.rdns) OtherIssuer then λ named. or_else (is_signed accepts issuer list) BadSignature

-- the facts of a list that was read, or why it is none of the issuer
abbrev pub list_said : Accepts → Certificate → CertificateList → Result (List Fact) StatementFault
list_said accepts issuer list = of_issuer accepts issuer list then λ is. Ok (crl_facts issuer list)
