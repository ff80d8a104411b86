-- A verdict by statements at hand: that of a party that began with nothing, and took each statement that is genuine for an issuer of the path.
use Rattle.std.specs.Prelude.{List, map}
use Rattle.std.specs.List.{flat_map}
use Rattle.cert.specs.Certificate.{Certificate}
use Rattle.statements_crl.specs.CertificateList.{CertificateList}
use Rattle.statements_facts.specs.declared.profile.Profile.{Profile}
use Rattle.statements_facts.specs.Fact.{Fact}
use Rattle.statements_facts.specs.Statement.{Holdings, empty_holdings}
use Rattle.statements_ocsp.specs.OcspResponse.{OcspResponse}
use Rattle.statements.specs.Statement.{Statement, statement_said}
use Rattle.path.specs.Query.{Query, Accepts}
use Rattle.relying_agreement.specs.declared.verdict.Verdict.{Verdict}
use Rattle.relying_agreement.specs.Link.{Link, links_of}
use Rattle.relying_agreement.specs.Status.{Evidence}
use Rattle.relying_agreement.specs.Run.{Party, facts_or_none, after_taking}
use Rattle.relying_agreement.specs.Verdict.{IsVerdict, evidence_on}

-- the issuers of a path, in order: the anchor, and each certificate but the last
abbrev pub issuers_of : Query → List Certificate
issuers_of query = map (λ (link : Link). link.issuer) (links_of query)

-- what a statement tells under an issuer; nothing if it is not genuine for it
abbrev pub facts_of : Accepts → Certificate → Statement → List Fact
facts_of accepts issuer statement = facts_or_none (statement_said accepts issuer statement)

abbrev pub facts_of_list : Accepts → Certificate → CertificateList → List Fact
facts_of_list accepts issuer list = facts_of accepts issuer (Statement.OfList list)

abbrev pub facts_of_response : Profile → Accepts → Certificate → OcspResponse → List Fact
facts_of_response profile accepts issuer response = facts_of accepts issuer (Statement.OfResponse profile response)

-- what it tells under each of several, in order
abbrev pub facts_under_each : Accepts → List Certificate → Statement → List Fact
facts_under_each accepts issuers statement =
    flat_map (λ issuer. facts_of accepts issuer statement) issuers

-- what the statements tell, one after the other
abbrev pub facts_told : Accepts → List Certificate → List Statement → List Fact
facts_told accepts issuers statements = flat_map (facts_under_each accepts issuers) statements

-- the party that began with nothing, and was told this
abbrev pub party_told : Accepts → Query → List Statement → Party
party_told accepts query statements = after_taking accepts empty_holdings (facts_told accepts (issuers_of query) statements)

-- what it holds when a path is asked about
abbrev pub held_for : Accepts → List Statement → Query → Holdings
held_for accepts statements query = (party_told accepts query statements).held

-- what bears on the certificates of the path by what it holds
abbrev pub evidence_told : Accepts → Query → List Statement → List Evidence
evidence_told accepts query statements = evidence_on (party_told accepts query statements).held query

-- its verdict
abbrev pub IsVerdictByStatements : Accepts → Query → List Statement → Verdict → Type 0
IsVerdictByStatements accepts query statements verdict =
    IsVerdict accepts query (party_told accepts query statements).held verdict
