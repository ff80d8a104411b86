-- A response says something exactly where it has a signer and speaks of the issuer's certificates.
use Rattle.std.proofs.Common.{◌≡◌, ◌≢◌, List, [], ◌∷◌, Option, Some, None, Result, Ok, refl, sym, ◌∙◌}
use Rattle.cert.specs.Certificate.{Certificate}
use Rattle.statements_ocsp.specs.OcspResponse.{OcspResponse}
use Rattle.statements_facts.specs.declared.profile.Profile.{Profile}
use Rattle.statements_facts.specs.Single.{SingleFact, some_singles}
use Rattle.statements_parts.specs.declared.fault.StatementFault.{StatementFault}
use Rattle.statements.specs.Genuine.{Accepts}
use Rattle.statements.specs.Responder.{IsSigner, Signer, signer_of}
use Rattle.statements.specs.OcspFact.{signer_or_fault, or_nothing, singles_of, response_said}
use Rattle.statements.proofs.Genuineness.{then_ok}
use Rattle.statements.proofs.Signers.{signers_are_found}

was_found : (o : Option Signer) (signer : Signer) → signer_or_fault o ≡ Ok signer → o ≡ Some signer
was_found (Some other) signer e = cc
was_found None signer e = absurd cc

pub were_some : (all singles : List SingleFact) → or_nothing (some_singles all) ≡ Ok singles → (singles ≡ all) × (singles ≢ [])
were_some [] singles e = absurd cc
were_some (one ∷ others) singles e =
    let same : singles ≡ one ∷ others = cc in
    (same, λ none. (let empty : one ∷ others ≡ [] = sym same ∙ none in absurd cc))

pub are_some : (singles : List SingleFact) → singles ≢ [] → or_nothing (some_singles singles) ≡ Ok singles
are_some [] some = absurd (some refl)
are_some (one ∷ others) some = refl

-- what a response says has a signer
pub record SaysBySigner (profile : Profile) (accepts : Accepts) (issuer : Certificate) (response : OcspResponse) (singles : List SingleFact) : Type 0 where
  pub signer : Signer
  pub is_signer : IsSigner accepts issuer response signer
  pub singles_are : singles ≡ singles_of profile issuer response signer
  pub some : singles ≢ []

module _ (profile : Profile) (accepts : Accepts) (issuer : Certificate) (response : OcspResponse) (singles : List SingleFact) where
  pub response_says : response_said profile accepts issuer response ≡ Ok singles → SaysBySigner profile accepts issuer response singles
  response_says e =
      let ends : Signer → Result (List SingleFact) StatementFault = λ signer. or_nothing (some_singles (singles_of profile issuer response signer)) in
      let signer = then_ok (signer_or_fault (signer_of accepts issuer response)) ends singles e in
      let said = were_some (singles_of profile issuer response signer.0) singles signer.2 in
      record {
        signer = signer.0;
        is_signer = signers_are_found.found accepts issuer response signer.0 (was_found (signer_of accepts issuer response) signer.0 signer.1);
        singles_are = said.0;
        some = said.1;
      }

  pub says_response : SaysBySigner profile accepts issuer response singles → response_said profile accepts issuer response ≡ Ok singles
  says_response is = rw (signers_are_found.only accepts issuer response is.signer is.is_signer, ← is.singles_are) (are_some singles is.some)
