-- A response with a signer other than the issuer brings at least one certificate.
use Rattle.std.proofs.Common.{◌≡◌, ◌≢◌, false, List, [], Result, Ok, Err}
use Rattle.cert.specs.Certificate.{Certificate}
use Rattle.statements_ocsp.specs.OcspResponse.{OcspResponse}
use Rattle.statements_facts.specs.declared.profile.Profile.{Profile}
use Rattle.statements_facts.specs.Single.{SingleFact, some_singles}
use Rattle.statements_parts.specs.declared.fault.StatementFault.{StatementFault}
use Rattle.statements_parts.specs.declared.fault.StatementFault.TheVariants.{Refused, OtherIssuer, BadSignature, NoSigner, NothingForIssuer, Memory}
use Rattle.statements.specs.Genuine.{Accepts, OnFull}
use Rattle.statements.specs.OcspFact.{or_nothing, response_said, signer_or_fault, singles_of}
use Rattle.statements.specs.Responder.{Signer, signer_of, signs_itself, delegate_of}
use Rattle.statements.proofs.Genuineness.{then_ok}

-- what holds holds if memory was refused
pub holds_on_full : {X : Type 0} (result : Result X StatementFault) (fact : Type 0) → fact → OnFull result fact
holds_on_full (Ok x) fact is = tt
holds_on_full (Err Memory) fact is = is
holds_on_full (Err (Refused rule at)) fact is = tt
holds_on_full (Err OtherIssuer) fact is = tt
holds_on_full (Err BadSignature) fact is = tt
holds_on_full (Err NoSigner) fact is = tt
holds_on_full (Err NothingForIssuer) fact is = tt

-- a response that the issuer did not sign has the certificate of its signer
pub found_needs_one : (accepts : Accepts) (issuer : Certificate) (response : OcspResponse) (signer : Signer) → signer_or_fault (signer_of accepts issuer response) ≡ Ok signer → signs_itself accepts issuer response ≡ false → response.certs ≢ []
unfolding delegate_of
found_needs_one accepts issuer response signer found isnt none =
    let found = rw isnt at found in
    let found = rw none at found in
    absurd cc

pub said_needs_one : (profile : Profile) (accepts : Accepts) (issuer : Certificate) (response : OcspResponse) (singles : List SingleFact) → response_said profile accepts issuer response ≡ Ok singles → signs_itself accepts issuer response ≡ false → response.certs ≢ []
said_needs_one profile accepts issuer response singles said =
    let signer = then_ok (signer_or_fault (signer_of accepts issuer response)) (λ signer. or_nothing (some_singles (singles_of profile issuer response signer))) singles said in
    found_needs_one accepts issuer response signer.0 signer.1
