-- Deliveries of each statement with each issuer's certificate are a run.
use Rattle.std.proofs.Common.{◌≡◌, ℕ, List, [], ◌∷◌, ◌++◌, map, Result, Ok, Err, refl, sym, ap, ◌∙◌, append_assoc}
use Rattle.cert.specs.Certificate.{Certificate, certificate}
use Rattle.path.specs.Query.{Accepts}
use Rattle.statements_facts.specs.declared.profile.Profile.{Profile}
use Rattle.statements_facts.specs.Fact.{Fact}
use Rattle.statements_parts.specs.declared.fault.StatementFault.{StatementFault}
use Rattle.statements.specs.Statement.{Statement, genuine_statement_under, statement_under, statement_said}
use Rattle.relying_agreement.specs.Run.{Event, DeliveryAnswer, genuine_facts, facts_taken, facts_under, facts_or_none}
use Rattle.relying_texts.specs.Texts.{facts_of, facts_under_each, facts_told, issuers_of}
use Rattle.relying_texts.specs.Deliveries.{deliveries, delivery_answer, delivery_answers, AreRead, StatementsMakeARun}
use Rattle.relying_texts.specs.Reading.{AreStatementsReadUnder}

module _ (profile : Profile) (accepts : Accepts) where
  abbrev delivered : List (List ℕ) → List ℕ → List Event
  delivered issuers text = map (λ issuer. Event.Deliver issuer text) issuers

  abbrev answered : List Certificate → Statement → List DeliveryAnswer
  answered certificates read = map (λ issuer. delivery_answer (statement_said accepts issuer read)) certificates

  -- what octets tell is what the statement tells that they are
  said_so : (c : Certificate) (text : List ℕ) (read : Statement) → statement_under profile text ≡ Ok read → genuine_statement_under profile accepts c text ≡ statement_said accepts c read
  unfolding genuine_statement_under
  said_so c text read is = rw is refl

  -- one delivery: what is taken of it is what is told
  one_taken : (issuer text : List ℕ) (c : Certificate) (answer : Result (List Fact) StatementFault) (events : List Event) (answers : List DeliveryAnswer)
      → certificate issuer ≡ Ok c → genuine_statement_under profile accepts c text ≡ answer
      → facts_taken (genuine_facts profile) accepts (Event.Deliver issuer text ∷ events) (delivery_answer answer ∷ answers)
      ≡ facts_or_none answer ++ facts_taken (genuine_facts profile) accepts events answers
  one_taken issuer text c (Ok facts) events answers read said =
      ap (λ told. told ++ facts_taken (genuine_facts profile) accepts events answers)
      (ap (facts_under profile accepts text) read ∙ ap facts_or_none said)
  one_taken issuer text c (Err fault) events answers read said = refl

  first_read : (issuer : List ℕ) (c : Certificate) (issuers : List (List ℕ)) (certificates : List Certificate) → AreRead (issuer ∷ issuers) (c ∷ certificates) → (certificate issuer ≡ Ok c) × AreRead issuers certificates
  first_read issuer c issuers certificates read = (cc, cc)

  statement_taken : (issuers : List (List ℕ)) (certificates : List Certificate) (text : List ℕ) (read : Statement) (events : List Event) (answers : List DeliveryAnswer) → AreRead issuers certificates → statement_under profile text ≡ Ok read
      → facts_taken (genuine_facts profile) accepts (delivered issuers text ++ events) (answered certificates read ++ answers)
      ≡ facts_under_each accepts certificates read ++ facts_taken (genuine_facts profile) accepts events answers
  statement_taken [] [] text read events answers are is = refl
  statement_taken [] (c ∷ certificates) text read events answers are is = absurd cc
  statement_taken (issuer ∷ issuers) [] text read events answers are is = absurd cc
  statement_taken (issuer ∷ issuers) (c ∷ certificates) text read events answers are is =
      let first = first_read issuer c issuers certificates are in
      one_taken issuer text c (statement_said accepts c read) (delivered issuers text ++ events) (answered certificates read ++ answers) first.0 (said_so c text read is)
      ∙ ap (λ rest. facts_of accepts c read ++ rest) (statement_taken issuers certificates text read events answers first.1 is)
      ∙ sym (append_assoc (facts_of accepts c read) (facts_under_each accepts certificates read) (facts_taken (genuine_facts profile) accepts events answers))

  first_statement : (text : List ℕ) (read : Statement) (texts : List (List ℕ)) (statements : List Statement) → AreStatementsReadUnder profile (text ∷ texts) (read ∷ statements) → (statement_under profile text ≡ Ok read) × AreStatementsReadUnder profile texts statements
  first_statement text read texts statements are = (cc, cc)

  all_taken : (issuers : List (List ℕ)) (certificates : List Certificate) (texts : List (List ℕ)) (statements : List Statement) → AreRead issuers certificates → AreStatementsReadUnder profile texts statements
      → facts_taken (genuine_facts profile) accepts (deliveries issuers texts) (delivery_answers accepts certificates statements) ≡ facts_told accepts certificates statements
  all_taken issuers certificates [] [] are read = refl
  all_taken issuers certificates [] (one ∷ statements) are read = absurd cc
  all_taken issuers certificates (text ∷ texts) [] are read = absurd cc
  all_taken issuers certificates (text ∷ texts) (one ∷ statements) are read =
      let first = first_statement text one texts statements read in
      statement_taken issuers certificates text one (deliveries issuers texts) (delivery_answers accepts certificates statements) are first.0
      ∙ ap (λ rest. facts_under_each accepts certificates one ++ rest) (all_taken issuers certificates texts statements are first.1)

pub statements_make_a_run : StatementsMakeARun
statements_make_a_run profile accepts query issuers texts statements are read = record {
  taken = sym (all_taken profile accepts issuers (issuers_of query) texts statements are read);
  newest = record { profile = refl; crl = λ slot. refl; ocsp = λ slot. refl };
}
