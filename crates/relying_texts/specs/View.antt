-- What the code has at hand, as the definitions see it.
use Rattle.std.specs.Prelude.{◌&&◌, ℕ, Bool, List, [], ◌∷◌, map, Option, Some, None, if◌then◌else◌}
use Rattle.std.specs.List.{filter_map, flat_map, list_any}
use Rattle.std.specs.Str.{bytes_eq}
use denote.Ref.{Bor}
use Rattle.cert.specs.Certificate.{Certificate, seen_certificate}
use Rattle.cert.specs.declared.certificate.Certificate as certificate
use Rattle.path.specs.State.{CarryNoSubtrees}
use Rattle.path.specs.declared.query.Query as asked
use Rattle.statements_crl.specs.CertificateList.{seen_list}
use Rattle.statements_crl.specs.declared.list.Crl as list
use Rattle.statements_facts.specs.declared.scope.Scope.{Scope}
use Rattle.statements_facts.specs.Fact.{Fact, list_facts, slot_for}
use Rattle.statements_facts.specs.Single.{SingleFact}
use Rattle.statements_facts.specs.Statement.{IssuerIdentity, CrlSlot, CrlFact, OcspSlot, OcspFact, Holdings, empty_holdings, at_point, kept_for, same_crl_slot, same_issuer}
use Rattle.statements_facts.specs.Coming.{crl_for, ocsp_for}
use Rattle.statements_facts.specs.Newest.{newer_crl, newer_ocsp, newest_in}
use Rattle.statements.specs.Issuer.{identity_of}
use Rattle.statements.specs.CrlFact.{fact_of_list}
use Rattle.statements.specs.OcspFact.{fact_with}
use Rattle.relying_agreement.specs.Link.{Link}
use Rattle.relying_search.specs.View.{seen_link}
use Rattle.relying_search.specs.declared.link.Link as linked
use Rattle.relying_texts.specs.declared.contents.Contents.{Contents}
use Rattle.relying_texts.specs.declared.contents.Contents.TheVariants as C
use Rattle.relying_texts.specs.declared.contents.GenuineStatement as genuine

-- no certificate of the path carries a subtree of a processed form
abbrev pub CarriesNoSubtrees : asked.Query → Type 0
CarriesNoSubtrees query =
    CarryNoSubtrees query.anchor query.path.items query.moment query.purpose query.options

-- the issuers of links, in order
abbrev pub issuers_in : List linked.Link → List Certificate
issuers_in links = map (λ (link : Link). link.issuer) (map seen_link links)

-- what a list says
abbrev pub list_fact : list.Crl → CrlFact
list_fact list = fact_of_list (seen_list list)

-- the general names of the point where it is published; none of a whole list
abbrev pub points_of : list.Crl → List (List ℕ)
points_of list = (seen_list list).points

-- what genuine contents tell of the certificates of an issuer
abbrev pub facts_with : IssuerIdentity → Contents → List Fact
facts_with issuer (C.List list) = list_facts list.scope (list_fact list) (kept_for (points_of list) issuer)
facts_with issuer (C.Singles singles) = map (fact_with issuer) singles

abbrev pub facts_if_some : IssuerIdentity → Option Contents → List Fact
facts_if_some issuer None = []
facts_if_some issuer (Some contents) = facts_with issuer contents

-- whom a certificate is of
abbrev pub identity_seen : certificate.Certificate → IssuerIdentity
identity_seen certificate = identity_of (seen_certificate certificate)

abbrev pub facts_of_genuine : genuine.GenuineStatement → List Fact
facts_of_genuine statement = facts_with (identity_seen statement.issuer.now) statement.contents

-- all of them tell this
abbrev pub facts_in_all : List genuine.GenuineStatement → List Fact
facts_in_all statements = flat_map facts_of_genuine statements

abbrev pub list_fact_at : Bor list.Crl → CrlFact
list_fact_at list = list_fact list.now

-- the slot of the lists that an issuer publishes at a point; no octets stand for those that it publishes anywhere
abbrev pub crl_slot_of : certificate.Certificate → List ℕ → Scope → CrlSlot
crl_slot_of issuer point scope = record { issuer = at_point point (identity_seen issuer); scope = scope }

-- The point is one of these names; of a whole list there are none, and no octets stand for anywhere.
abbrev pub is_published_at : List (List ℕ) → List ℕ → Bool
is_published_at [] point = bytes_eq [] point
is_published_at (name ∷ names) point = list_any (λ other. bytes_eq other point) (name ∷ names)

-- a list of the one with these names is kept for the other at the point
abbrev pub is_kept_at : IssuerIdentity → List (List ℕ) → IssuerIdentity → List ℕ → Bool
is_kept_at one names other point = list_any (λ issuer. same_issuer issuer (at_point point other)) (kept_for names one)

-- a list of the issuer is kept in the slot
abbrev pub is_kept_in : IssuerIdentity → list.Crl → CrlSlot → Bool
is_kept_in issuer list slot = list_any (λ for. same_crl_slot (slot_for list.scope for) slot) (kept_for (points_of list) issuer)

abbrev pub ocsp_slot_of : certificate.Certificate → List ℕ → List ℕ → OcspSlot
ocsp_slot_of issuer name_hash serial = record { issuer = identity_seen issuer; name_hash = name_hash; serial = serial }

-- a single response, if it is that of the certificate
abbrev pub single_for : List ℕ → List ℕ → SingleFact → Option OcspFact
single_for name_hash serial single =
    if bytes_eq single.name_hash name_hash && bytes_eq single.serial serial then Some single.fact else None

abbrev pub singles_for : List ℕ → List ℕ → List SingleFact → List OcspFact
singles_for name_hash serial singles = filter_map (single_for name_hash serial) singles

-- what is held once these facts came to an empty store
abbrev pub held_of : List Fact → Holdings
held_of facts = record empty_holdings {
  crl = λ slot. newest_in newer_crl (filter_map (crl_for slot) facts);
  ocsp = λ slot. newest_in newer_ocsp (filter_map (ocsp_for slot) facts);
}
