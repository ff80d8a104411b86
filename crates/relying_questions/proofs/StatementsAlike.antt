-- Statements tell the same facts to verifiers that answer the questions about them alike.
use Rattle.std.proofs.Common.{◌≡◌, Bool, true, false, List, [], ◌∷◌, ◌++◌, Some, map, option_map, Result, Ok, if◌then◌else◌, refl, ap, ap₂}
use Rattle.std.specs.List.{find, flat_map}
use Rattle.names.specs.DistinguishedName.{matching}
use Rattle.cert.specs.Certificate.{Certificate}
use Rattle.path.specs.Query.{Accepts}
use Rattle.statements_crl.specs.CertificateList.{CertificateList}
use Rattle.statements_ocsp.specs.Certificates.{certificates_in}
use Rattle.statements_ocsp.specs.OcspResponse.{OcspResponse}
use Rattle.statements.specs.CrlFact.{crl_facts, of_issuer}
use Rattle.statements.specs.Genuine.{◌then◌}
use Rattle.statements.specs.Issuer.{identity_of}
use Rattle.statements.specs.OcspFact.{fact_with, response_said, signer_or_fault, or_nothing, singles_of}
use Rattle.statements.specs.Responder.{the_issuer, delegate, is_named_by, is_responder, may_respond, signs_itself, delegate_of, signer_of}
use Rattle.statements.specs.Statement.{Statement}
use Rattle.statements_facts.specs.declared.profile.Profile.{Profile}
use Rattle.statements_facts.specs.Single.{SingleFact, some_singles}
use Rattle.statements_parts.specs.declared.fault.StatementFault.{StatementFault}
use Rattle.relying_agreement.specs.Run.{facts_or_none}
use Rattle.relying_texts.specs.Texts.{facts_of, facts_told, facts_under_each}
use Rattle.relying_questions.specs.Questions.{asked_of_list, asked_of_issuer, asked_of_delegate, asked_of_response, asked_under, asked_of_statement, asked_of_statements}
use Rattle.relying_questions.proofs.Alike.{Alike, before, behind}

module _ (accepts other : Accepts) (issuer : Certificate) where
  -- ---- lists

  list_alike : (list : CertificateList) → Alike accepts other (asked_of_list issuer list) → of_issuer accepts issuer list ≡ of_issuer other issuer list
  unfolding of_issuer
  list_alike list alike = by (matching list.issuer.rdns issuer.subject.rdns) refl where
    by : (b : Bool) → matching list.issuer.rdns issuer.subject.rdns ≡ b → of_issuer accepts issuer list ≡ of_issuer other issuer list
    by true e = let alike = rw e at alike in rw (e, alike.0) refl
    by false e = rw e refl

  -- ---- responses

  itself_alike : (response : OcspResponse) → Alike accepts other (asked_of_issuer issuer response)
      → signs_itself accepts issuer response ≡ signs_itself other issuer response
  unfolding signs_itself
  itself_alike response alike = by (is_named_by response.responder issuer) refl where
    by : (b : Bool) → is_named_by response.responder issuer ≡ b → signs_itself accepts issuer response ≡ signs_itself other issuer response
    by true e = let alike = rw e at alike in rw (e, alike.0) refl
    by false e = rw e refl

  responder_alike : (response : OcspResponse) (c : Certificate) → Alike accepts other (asked_of_delegate issuer response c)
      → is_responder accepts issuer response c ≡ is_responder other issuer response c
  unfolding is_responder
  responder_alike response c alike = named (is_named_by response.responder c) refl where
    may : is_named_by response.responder c ≡ true → matching c.issuer.rdns issuer.subject.rdns ≡ true → (b : Bool) → may_respond c ≡ b
        → is_responder accepts issuer response c ≡ is_responder other issuer response c
    may named issued true e = let alike = rw (named, issued, e) at alike in rw (named, issued, e, alike.0, alike.1.0) refl
    may named issued false e = let alike = rw (named, issued, e) at alike in rw (named, issued, e, alike.0) refl

    issued : is_named_by response.responder c ≡ true → (b : Bool) → matching c.issuer.rdns issuer.subject.rdns ≡ b
        → is_responder accepts issuer response c ≡ is_responder other issuer response c
    issued named true e = may named e (may_respond c) refl
    issued named false e = rw (named, e) refl

    named : (b : Bool) → is_named_by response.responder c ≡ b → is_responder accepts issuer response c ≡ is_responder other issuer response c
    named true e = issued e (matching c.issuer.rdns issuer.subject.rdns) refl
    named false e = rw e refl

  found_alike : (response : OcspResponse) (cs : List Certificate) → Alike accepts other (flat_map (asked_of_delegate issuer response) cs)
      → find (is_responder accepts issuer response) cs ≡ find (is_responder other issuer response) cs
  found_alike response [] alike = refl
  found_alike response (c ∷ cs) alike =
      let first = before accepts other (asked_of_delegate issuer response c) (flat_map (asked_of_delegate issuer response) cs) alike in
      let later = behind accepts other (asked_of_delegate issuer response c) (flat_map (asked_of_delegate issuer response) cs) alike in
      ap₂ (λ b found. if b then Some c else found) (responder_alike response c first) (found_alike response cs later)

  signer_alike : (response : OcspResponse) → Alike accepts other (asked_of_response issuer response)
      → signer_of accepts issuer response ≡ signer_of other issuer response
  unfolding delegate_of
  signer_alike response alike =
      let own = before accepts other (asked_of_issuer issuer response) (flat_map (asked_of_delegate issuer response) (certificates_in response)) alike in
      let theirs = behind accepts other (asked_of_issuer issuer response) (flat_map (asked_of_delegate issuer response) (certificates_in response)) alike in
      ap₂ (λ itself found. if itself then Some the_issuer else option_map (λ c. delegate c) found) (itself_alike response own)
      (found_alike response (certificates_in response) theirs)

  said_alike : (profile : Profile) (response : OcspResponse) → Alike accepts other (asked_of_response issuer response)
      → response_said profile accepts issuer response ≡ response_said profile other issuer response
  said_alike profile response alike =
      ap (λ signer. signer_or_fault signer then λ by. or_nothing (some_singles (singles_of profile issuer response by))) (signer_alike response alike)

  -- ---- statements of both kinds

  statement_alike : (read : Statement) → Alike accepts other (asked_under read issuer) → facts_of accepts issuer read ≡ facts_of other issuer read
  statement_alike (Statement.OfList list) alike =
      ap (λ (is : Result (Unit {0}) StatementFault). facts_or_none (is then λ done. Ok (crl_facts issuer list))) (list_alike list alike)
  statement_alike (Statement.OfResponse profile response) alike =
      ap (λ (answer : Result (List SingleFact) StatementFault). facts_or_none (answer then λ singles. Ok (map (fact_with (identity_of issuer)) singles))) (said_alike profile response alike)

module _ (accepts other : Accepts) where
  under_each_alike : (issuers : List Certificate) (read : Statement) → Alike accepts other (asked_of_statement issuers read)
      → facts_under_each accepts issuers read ≡ facts_under_each other issuers read
  under_each_alike [] read alike = refl
  under_each_alike (issuer ∷ issuers) read alike =
      ap₂ (λ some more. some ++ more)
      (statement_alike accepts other issuer read (before accepts other (asked_under read issuer) (asked_of_statement issuers read) alike))
      (under_each_alike issuers read (behind accepts other (asked_under read issuer) (asked_of_statement issuers read) alike))

  pub told_alike : (issuers : List Certificate) (statements : List Statement) → Alike accepts other (asked_of_statements issuers statements)
      → facts_told accepts issuers statements ≡ facts_told other issuers statements
  told_alike issuers [] alike = refl
  told_alike issuers (read ∷ statements) alike =
      ap₂ (λ some more. some ++ more)
      (under_each_alike issuers read (before accepts other (asked_of_statement issuers read) (asked_of_statements issuers statements) alike))
      (told_alike issuers statements (behind accepts other (asked_of_statement issuers read) (asked_of_statements issuers statements) alike))
