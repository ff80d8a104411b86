-- Checks one after the other: what the first that fails answers.
use Rattle.std.proofs.Common.{◌≡◌, ℕ, List, map, Result, Ok, Err, refl}
use Rattle.statements_parts.specs.Fault as reading
use Rattle.statements_parts.specs.declared.fault.ReadingFault.{ReadingFault}
use Rattle.statements_parts.specs.declared.fault.ReadingFault.TheVariants as read
use Rattle.statements_parts.specs.declared.fault.StatementRule.{StatementRule}
use Rattle.statements_parts.specs.declared.fault.StatementFault.{StatementFault}
use Rattle.statements_parts.specs.declared.fault.StatementFault.TheVariants.{Refused, OtherIssuer, BadSignature, NoSigner, NothingForIssuer, Memory}
use Rattle.cert.specs.Certificate.{Certificate}
use Rattle.statements_facts.specs.declared.profile.Profile.{Profile}
use Rattle.statements_ocsp.specs.OcspResponse.{OcspResponse}
use Rattle.statements_facts.specs.Statement.{IssuerIdentity}
use Rattle.statements_facts.specs.Single.{SingleFact, some_singles}
use Rattle.statements.specs.Issuer.{identity_of}
use Rattle.statements.specs.Responder.{Signer, signer_of}
use Rattle.statements.specs.OcspFact.{signer_or_fault, or_nothing, singles_of, response_said, fact_with}
use Rattle.statements.specs.Statement.{Statement, genuine_statement_under, statement_under, statement_said}
use Rattle.statements.specs.Genuine.{Accepts, ◌then◌, as_refused, RefusesUnlessFull, AnswersUnlessFull}

-- what is not read is refused so
pub unread : {Y Z : Type 0} (fault : ReadingFault) (walk : Result Y (StatementRule × ℕ)) (next : Y → Result Z StatementFault) → reading.StatementFailsUnlessFull fault walk → RefusesUnlessFull (reading.not_read fault) (as_refused walk then next)
unread (read.Refused rule at) walk next fails = rw fails refl
unread read.Memory walk next fails = tt

-- the first fails
pub first_fails : {Y Z : Type 0} (fault : StatementFault) (first : Result Y StatementFault) (next : Y → Result Z StatementFault) → RefusesUnlessFull fault first → RefusesUnlessFull fault (first then next)
first_fails (Refused rule at) first next fails = rw fails refl
first_fails OtherIssuer first next fails = rw fails refl
first_fails BadSignature first next fails = rw fails refl
first_fails NoSigner first next fails = rw fails refl
first_fails NothingForIssuer first next fails = rw fails refl
first_fails Memory first next fails = tt

-- what was read goes on
pub was_read : {Y : Type 0} (walk : Result Y (StatementRule × ℕ)) (x : Y) → walk ≡ Ok x → as_refused walk ≡ Ok x
was_read walk x e = rw e refl

-- the second fails
pub next_fails : {Y Z : Type 0} (fault : StatementFault) (first : Result Y StatementFault) (x : Y) (next : Y → Result Z StatementFault) → first ≡ Ok x → RefusesUnlessFull fault (next x) → RefusesUnlessFull fault (first then next)
next_fails fault first x next e fails = rw e fails

-- what is answered as it is
pub same_answer : {Y : Type 0} (answer walk : Result Y StatementFault) → walk ≡ answer → AnswersUnlessFull (λ x. x) answer walk
same_answer (Ok x) walk e = e
same_answer (Err (Refused rule at)) walk e = e
same_answer (Err OtherIssuer) walk e = e
same_answer (Err BadSignature) walk e = e
same_answer (Err NoSigner) walk e = e
same_answer (Err NothingForIssuer) walk e = e
same_answer (Err Memory) walk e = tt

-- ---- responses

pub signer_refused : (profile : Profile) (accepts : Accepts) (issuer : Certificate) (response : OcspResponse) (fault : StatementFault) → RefusesUnlessFull fault (signer_or_fault (signer_of accepts issuer response)) → RefusesUnlessFull fault (response_said profile accepts issuer response)
signer_refused profile accepts issuer response fault fails =
    first_fails fault (signer_or_fault (signer_of accepts issuer response)) (λ signer. or_nothing (some_singles (singles_of profile issuer response signer))) fails

pub singles_are : (profile : Profile) (accepts : Accepts) (issuer : Certificate) (response : OcspResponse) (signer : Signer) (singles : List SingleFact) → signer_or_fault (signer_of accepts issuer response) ≡ Ok signer → singles ≡ singles_of profile issuer response signer → response_said profile accepts issuer response ≡ or_nothing (some_singles singles)
singles_are profile accepts issuer response signer singles found are = rw (found, are) refl

-- ---- statements of both kinds

module _ (accepts : Accepts) (issuer : Certificate) where
  pub response_fails : (profile : Profile) (response : OcspResponse) (fault : StatementFault) → RefusesUnlessFull fault (response_said profile accepts issuer response) → RefusesUnlessFull fault (statement_said accepts issuer (Statement.OfResponse profile response))
  response_fails profile response fault fails = first_fails fault (response_said profile accepts issuer response) (λ singles. Ok (map (fact_with (identity_of issuer)) singles)) fails

  pub response_is : (profile : Profile) (response : OcspResponse) (identity : IssuerIdentity) (singles : List SingleFact) → response_said profile accepts issuer response ≡ Ok singles → identity ≡ identity_of issuer → statement_said accepts issuer (Statement.OfResponse profile response) ≡ Ok (map (fact_with identity) singles)
  response_is profile response identity singles said is = rw (said, is) refl

  -- ---- octets

  pub not_read_fails : (profile : Profile) (octets : List ℕ) (fault : ReadingFault) → reading.StatementFailsUnlessFull fault (statement_under profile octets) → RefusesUnlessFull (reading.not_read fault) (genuine_statement_under profile accepts issuer octets)
  unfolding genuine_statement_under
  not_read_fails profile octets fault fails = unread fault (statement_under profile octets) (λ read. statement_said accepts issuer read) fails

  pub read_says : (profile : Profile) (octets : List ℕ) (read : Statement) → statement_under profile octets ≡ Ok read → genuine_statement_under profile accepts issuer octets ≡ statement_said accepts issuer read
  unfolding genuine_statement_under
  read_says profile octets read is = rw is refl
