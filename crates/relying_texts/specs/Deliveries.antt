-- The same as deliveries to a relying party: each statement is delivered with the certificate of each issuer, in order.
use Rattle.std.specs.Prelude.{◌≡◌, ℕ, List, Result, Ok, Err, map}
use Rattle.std.specs.List.{flat_map}
use Rattle.cert.specs.Certificate.{Certificate, certificate}
use Rattle.path.specs.Query.{Query, Accepts}
use Rattle.statements_facts.specs.declared.profile.Profile.{Profile}
use Rattle.statements_facts.specs.Fact.{Fact}
use Rattle.statements_parts.specs.declared.fault.StatementFault.{StatementFault}
use Rattle.statements.specs.Statement.{Statement, statement_said}
use Rattle.relying_agreement.specs.Run.{Event, DeliveryAnswer, HasRun, genuine_facts}
use Rattle.relying_texts.specs.Reading.{AreStatementsReadUnder}
use Rattle.relying_texts.specs.Texts.{issuers_of, party_told}

-- each statement, with the octets of each issuer's certificate
abbrev pub deliveries : List (List ℕ) → List (List ℕ) → List Event
deliveries issuers statements = flat_map (λ statement. map (λ issuer. Event.Deliver issuer statement) issuers) statements

-- a delivery is taken if the statement is genuine, and else refused
abbrev pub delivery_answer : Result (List Fact) StatementFault → DeliveryAnswer
delivery_answer (Ok facts) = DeliveryAnswer.Taken
delivery_answer (Err fault) = DeliveryAnswer.Refused

abbrev pub delivery_answers : Accepts → List Certificate → List Statement → List DeliveryAnswer
delivery_answers accepts issuers statements =
    flat_map (λ statement. map (λ issuer. delivery_answer (statement_said accepts issuer statement)) issuers) statements

-- the certificates are what the octets are
abbrev pub AreRead : List (List ℕ) → List Certificate → Type 0
AreRead texts certificates = map certificate texts ≡ map (λ c. Ok c) certificates

-- So the party that a verdict by statements is of has run on these deliveries, and what is said of runs is said of it.
abbrev pub StatementsMakeARun : Type 0
StatementsMakeARun =
    (profile : Profile) (accepts : Accepts) (query : Query) (issuers texts : List (List ℕ)) (statements : List Statement) →
    AreRead issuers (issuers_of query) → AreStatementsReadUnder profile texts statements →
    HasRun (genuine_facts profile) (deliveries issuers texts) (delivery_answers accepts (issuers_of query) statements)
    (party_told accepts query statements)
