-- Statements as the code has them, and the facts that they are.
use Rattle.std.specs.Prelude.{List, ◌∷◌, map}
use Rattle.statements_facts.specs.declared.scope.Scope.{Scope}
use Rattle.statements_facts.specs.declared.issuer.Issuer.{Issuer}
use Rattle.statements_facts.specs.declared.fact.CrlFacts.{CrlFacts}
use Rattle.statements_facts.specs.declared.fact.Facts.{Facts}
use Rattle.statements_facts.specs.declared.fact.Facts.TheVariants.{Crl, Ocsp}
use Rattle.statements_facts.specs.Listed.{first_reason}
use Rattle.statements_facts.specs.Single.{SingleFact}
use Rattle.statements_facts.specs.Statement.{IssuerIdentity, CrlSlot, CrlFact, OcspSlot, OcspFact}

abbrev pub seen_issuer : Issuer → IssuerIdentity
seen_issuer issuer = record { name = issuer.name; key_info = issuer.key_info.now }

-- a fact with the slot that it is for
pub data Fact : Type 0 where
  OfCrl : CrlSlot → CrlFact → Fact
  OfResponse : OcspSlot → OcspFact → Fact

-- for whom a list is kept: the first, and the others
abbrev pub other_issuers : CrlFacts → List IssuerIdentity
other_issuers facts = map seen_issuer facts.others.items

abbrev pub crl_issuers : CrlFacts → List IssuerIdentity
crl_issuers facts = seen_issuer facts.issuer ∷ other_issuers facts

-- the slot of a list of this scope that is kept for the issuer
abbrev pub slot_for : Scope → IssuerIdentity → CrlSlot
slot_for scope issuer = record { issuer = issuer; scope = scope }

-- the first slot of a list
abbrev pub crl_slot : CrlFacts → CrlSlot
crl_slot facts = slot_for facts.scope (seen_issuer facts.issuer)

-- what a list says, once for each of those that it is kept for
abbrev pub list_facts : Scope → CrlFact → List IssuerIdentity → List Fact
list_facts scope fact issuers = map (λ issuer. Fact.OfCrl (slot_for scope issuer) fact) issuers

abbrev pub crl_fact : CrlFacts → CrlFact
crl_fact facts = record {
  number = facts.number;
  window = record { from = facts.from; until = facts.until };
  reasons = first_reason facts.revoked;
}

abbrev pub ocsp_slot : IssuerIdentity → SingleFact → OcspSlot
ocsp_slot issuer single = record { issuer = issuer; name_hash = single.name_hash; serial = single.serial }

-- the facts of a list
abbrev pub facts_in_list : CrlFacts → List Fact
facts_in_list facts = list_facts facts.scope (crl_fact facts) (crl_issuers facts)

-- the facts of a statement, in order
abbrev pub facts_in : Facts → List Fact
facts_in (Crl facts) = facts_in_list facts
facts_in (Ocsp facts) = map (λ single. Fact.OfResponse (ocsp_slot (seen_issuer facts.issuer) single) single.fact) facts.singles
