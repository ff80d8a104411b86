-- Statements of both kinds: how they are read, and what one that is genuine says.
use Rattle.std.specs.Prelude.{◌≡◌, ◌↔◌, ◌⊎◌, ℕ, List, [], ◌∷◌, map, Result, Ok, if◌then◌else◌}
use Rattle.asn.specs.DerLaws.{AreOctets}
use Rattle.asn.specs.Outermost.{outermost}
use Rattle.asn.specs.Place.{Place}
use Rattle.asn.specs.Walk.{◌>>=◌}
use Rattle.cert.specs.Certificate.{Certificate}
use Rattle.statements_facts.specs.declared.profile.Profile.{Profile}
use Rattle.statements_facts.specs.declared.profile.Profile.TheVariants.{Stated, Wide}
use Rattle.statements_crl.specs.CertificateList.{CertificateList, certificate_list_at_under, seen_list}
use Rattle.statements_crl.specs.ListForms.{IsCertificateList, IsCertificateListUnder}
use Rattle.statements_ocsp.specs.Kind.{is_response}
use Rattle.statements_ocsp.specs.OcspResponse.{OcspResponse, ocsp_response_at, seen_response}
use Rattle.statements_ocsp.specs.ResponseForms.{IsOcspResponse}
use Rattle.statements_parts.specs.Fault.{as_statement_der}
use Rattle.statements_parts.specs.declared.fault.StatementFault.{StatementFault}
use Rattle.statements_parts.specs.declared.fault.StatementRule.{StatementRule}
use Rattle.statements_facts.specs.Fact.{Fact}
use Rattle.statements_facts.specs.Single.{SingleFact}
use Rattle.statements_facts.specs.Statement.{CrlSlot, CrlFact}
use Rattle.statements.specs.CrlFact.{AreCrlFacts, IsCrlFact, list_said}
use Rattle.statements.specs.Genuine.{Accepts, ◌then◌, as_refused}
use Rattle.statements.specs.Issuer.{identity_of}
use Rattle.statements.specs.OcspFact.{IsGenuineResponseUnder, IsGenuineResponse, fact_with, response_said}
use Rattle.statements.specs.declared.statement.Statement.{Statement as code}
use Rattle.statements.specs.declared.statement.Statement.TheVariants.{List as read_list, Response as read_response}

-- a list (RFC 5280, 5.1); or a response (RFC 6960, 4.2.1), with the profile in which it was read
pub data Statement : Type 0 where
  OfList : CertificateList → Statement
  OfResponse : Profile → OcspResponse → Statement

abbrev pub seen_statement : code → Statement
seen_statement (read_list list) = Statement.OfList (seen_list list)
seen_statement (read_response profile response) = Statement.OfResponse profile (seen_response response)

-- the value as a response, if the first value inside is an ENUMERATED, else as a list in a profile
unfoldable pub statement_at_under : Profile → Place → Result Statement (StatementRule × ℕ)
statement_at_under profile value =
    if is_response value then (ocsp_response_at value >>= λ response. Ok (Statement.OfResponse profile response))
    else (certificate_list_at_under profile value >>= λ list. Ok (Statement.OfList list))

unfoldable pub statement_under : Profile → List ℕ → Result Statement (StatementRule × ℕ)
statement_under profile octets = as_statement_der (outermost octets) >>= λ value. statement_at_under profile value

-- the same in the stated profile
abbrev pub statement_at : Place → Result Statement (StatementRule × ℕ)
statement_at = statement_at_under Stated

abbrev pub statement : List ℕ → Result Statement (StatementRule × ℕ)
statement = statement_under Stated

-- what is read is exactly what the standards call a list or a response
abbrev pub IsStatementUnder : Profile → List ℕ → Statement → Type 0
IsStatementUnder profile octets (Statement.OfList list) = IsCertificateListUnder profile octets list
IsStatementUnder profile octets (Statement.OfResponse own response) = (own ≡ profile) × IsOcspResponse octets response

abbrev pub StatementIsExactUnder : Profile → Type 0
StatementIsExactUnder profile =
    (octets : List ℕ) (read : Statement) → AreOctets octets →
    (statement_under profile octets ≡ Ok read) ↔ IsStatementUnder profile octets read

abbrev pub IsStatement : List ℕ → Statement → Type 0
IsStatement octets (Statement.OfList list) = IsCertificateList octets list
IsStatement octets (Statement.OfResponse own response) = (own ≡ Stated) × IsOcspResponse octets response

abbrev pub StatementIsExact : Type 0
StatementIsExact =
    (octets : List ℕ) (read : Statement) → AreOctets octets → (statement octets ≡ Ok read) ↔ IsStatement octets read

-- the same statement as the wide profile reads it
abbrev pub in_wide : Statement → Statement
in_wide (Statement.OfList list) = Statement.OfList list
in_wide (Statement.OfResponse profile response) = Statement.OfResponse Wide response

-- what is read in the stated profile is read as the same in the wide one
abbrev pub StatedStatementsAreReadWide : Type 0
StatedStatementsAreReadWide =
    (octets : List ℕ) (read : Statement) → AreOctets octets →
    statement octets ≡ Ok read → statement_under Wide octets ≡ Ok (in_wide read)

-- ---- what it says

-- The facts that a statement tells of its issuer's certificates, in order, or why it is none of the issuer.
abbrev pub statement_said : Accepts → Certificate → Statement → Result (List Fact) StatementFault
statement_said accepts issuer (Statement.OfList list) = list_said accepts issuer list
statement_said accepts issuer (Statement.OfResponse profile response) =
    response_said profile accepts issuer response then λ singles. Ok (map (fact_with (identity_of issuer)) singles)

-- The checks in their order: whether the octets are read in a profile, and what they say.
unfoldable pub genuine_statement_under : Profile → Accepts → Certificate → List ℕ → Result (List Fact) StatementFault
genuine_statement_under profile accepts issuer octets =
    as_refused (statement_under profile octets) then λ read. statement_said accepts issuer read

-- The same in the stated profile.
abbrev pub genuine_statement : Accepts → Certificate → List ℕ → Result (List Fact) StatementFault
genuine_statement = genuine_statement_under Stated

-- The octets are a list of the issuer in a profile, or a response that may answer for it, and tell these facts. No moment is looked at.
abbrev pub IsGenuineUnder : Profile → Accepts → Certificate → List ℕ → List Fact → Type 0
IsGenuineUnder profile accepts issuer octets facts =
    AreCrlFacts profile accepts issuer octets facts
    ⊎ ((singles : List SingleFact) × IsGenuineResponseUnder profile accepts issuer octets singles
    × (facts ≡ map (fact_with (identity_of issuer)) singles))

-- In the stated profile a list is whole: it says one thing.
abbrev pub IsGenuine : Accepts → Certificate → List ℕ → List Fact → Type 0
IsGenuine accepts issuer octets facts =
    ((slot : CrlSlot) × (fact : CrlFact) × IsCrlFact accepts issuer octets slot fact × (facts ≡ Fact.OfCrl slot fact ∷ []))
    ⊎ ((singles : List SingleFact) × IsGenuineResponse accepts issuer octets singles
    × (facts ≡ map (fact_with (identity_of issuer)) singles))

-- The checks succeed exactly there.
abbrev pub GenuineStatementsAreFactsUnder : Profile → Type 0
GenuineStatementsAreFactsUnder profile =
    (accepts : Accepts) (issuer : Certificate) (octets : List ℕ) (facts : List Fact) → AreOctets octets →
    (genuine_statement_under profile accepts issuer octets ≡ Ok facts) ↔ IsGenuineUnder profile accepts issuer octets facts

abbrev pub GenuineStatementsAreFacts : Type 0
GenuineStatementsAreFacts =
    (accepts : Accepts) (issuer : Certificate) (octets : List ℕ) (facts : List Fact) → AreOctets octets →
    (genuine_statement accepts issuer octets ≡ Ok facts) ↔ IsGenuine accepts issuer octets facts
