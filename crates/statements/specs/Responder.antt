-- Who may sign a response, and when what it says counts (RFC 6960, 4.2.2).
use Rattle.std.specs.Prelude.{◌≡◌, ◌&&◌, ◌==◌, ℕ, Bool, true, false, not, List, [], ◌∷◌, ◌++◌, length, Option, Some, IsTrue, Contains, option_map, if◌then◌else◌}
use Rattle.std.specs.List.{find, list_any, AllByRecursion}
use Rattle.std.specs.Str.{bytes_eq}
use Rattle.sha1.specs.Sha1.{sha1}
use Rattle.names.specs.DistinguishedName.{NamesMatch, matching}
use Rattle.cert.specs.Certificate.{Certificate}
use Rattle.statements_ocsp.specs.Certificates.{certificates_in}
use Rattle.statements_ocsp.specs.OcspResponse.{OcspResponse}
use Rattle.statements_ocsp.specs.Responder.{Responder, by_name, by_key}
use Rattle.statements.specs.Genuine.{Accepts}

-- the SHA-1 of the key: of subjectPublicKey without tag, length and count of unused bits (RFC 6960, 4.1.1 and 4.2.1)
abbrev pub key_hash : Certificate → List ℕ
key_hash c = sha1 c.key_info.key.octets

-- the responder id names the certificate: by its subject, or by the hash of its key
abbrev pub IsNamedBy : Responder → Certificate → Type 0
IsNamedBy (by_name name) c = NamesMatch name.rdns c.subject.rdns
IsNamedBy (by_key hash) c = hash ≡ key_hash c

-- the response is signed under the certificate's key
abbrev pub signs : Accepts → OcspResponse → Certificate → Bool
signs accepts response c =
    accepts response.algorithm.value.octets c.key_info.value.octets response.tbs.octets response.signature.octets

-- id-kp-OCSPSigning (RFC 6960, 4.2.2.2): 1.3.6.1.5.5.7.3.9
abbrev pub ocsp_signing : List ℕ
ocsp_signing = 0x2B ∷ 0x06 ∷ 0x01 ∷ 0x05 ∷ 0x05 ∷ 0x07 ∷ 0x03 ∷ 0x09 ∷ []

-- A certificate of a delegate: the issuer issued it itself, for signing responses (4.2.2.2), and says that it need not be asked
-- whether it is revoked (4.2.2.2.1), which is a choice of the profile. As on a path, it needs no policy tree, and its critical
-- extensions are recognised.
pub record IsAuthorizedResponder (accepts : Accepts) (issuer : Certificate) (response : OcspResponse) (c : Certificate) : Type 0 where
  pub named : IsNamedBy response.responder c
  pub issued : NamesMatch c.issuer.rdns issuer.subject.rdns
  pub signed : IsTrue (accepts c.algorithm.value.octets issuer.key_info.value.octets c.tbs.octets c.signature.octets)
  pub purpose : Contains c.extensions.purposes ocsp_signing
  pub no_check : c.extensions.no_check ≡ true
  pub no_policy : c.extensions.needs_policy_processing ≡ false
  pub known : c.extensions.unrecognised ≡ []
  pub signs_it : IsTrue (signs accepts response c)

-- the issuer itself, or a delegate
pub data Signer : Type 0 where
  the_issuer : Signer
  delegate : Certificate → Signer

-- The issuer signs itself, where the responder id names it and its key signs; else the first of the certificates that is that of a
-- delegate does.
abbrev pub SignsItself : Accepts → Certificate → OcspResponse → Type 0
SignsItself accepts issuer response = IsNamedBy response.responder issuer × IsTrue (signs accepts response issuer)

abbrev pub IsSigner : Accepts → Certificate → OcspResponse → Signer → Type 0
IsSigner accepts issuer response the_issuer = SignsItself accepts issuer response
IsSigner accepts issuer response (delegate c) =
    ¬ (SignsItself accepts issuer response)
    × (before : List Certificate) × (after : List Certificate) × (certificates_in response ≡ before ++ c ∷ after)
    × IsAuthorizedResponder accepts issuer response c
    × AllByRecursion (λ other. ¬ IsAuthorizedResponder accepts issuer response other) before

-- ---- the same as tests

abbrev pub is_named_by : Responder → Certificate → Bool
is_named_by (by_name name) c = matching name.rdns c.subject.rdns
is_named_by (by_key hash) c = bytes_eq hash (key_hash c)

-- the issuer issued it
abbrev pub is_issued : Accepts → Certificate → Certificate → Bool
is_issued accepts issuer c =
    matching c.issuer.rdns issuer.subject.rdns && accepts c.algorithm.value.octets issuer.key_info.value.octets c.tbs.octets c.signature.octets

abbrev pub is_signing : List ℕ → Bool
is_signing purpose = bytes_eq purpose ocsp_signing

-- its extensions let it sign responses
abbrev pub may_respond : Certificate → Bool
may_respond c =
    list_any is_signing c.extensions.purposes
    && (c.extensions.no_check && (not c.extensions.needs_policy_processing && length c.extensions.unrecognised == 0))

unfoldable pub is_responder : Accepts → Certificate → OcspResponse → Certificate → Bool
is_responder accepts issuer response c =
    is_named_by response.responder c && (is_issued accepts issuer c && (may_respond c && signs accepts response c))

unfoldable pub signs_itself : Accepts → Certificate → OcspResponse → Bool
signs_itself accepts issuer response = is_named_by response.responder issuer && signs accepts response issuer

unfoldable pub delegate_of : Accepts → Certificate → OcspResponse → Option Certificate
delegate_of accepts issuer response = find (is_responder accepts issuer response) (certificates_in response)

abbrev pub signer_of : Accepts → Certificate → OcspResponse → Option Signer
signer_of accepts issuer response =
    if signs_itself accepts issuer response then Some the_issuer else option_map (λ c. delegate c) (delegate_of accepts issuer response)

-- what `signer_of` finds is the signer, and where it finds none there is none
pub record SignersAreFound : Type 0 where
  pub found : (accepts : Accepts) (issuer : Certificate) (response : OcspResponse) (signer : Signer) → signer_of accepts issuer response ≡ Some signer → IsSigner accepts issuer response signer
  pub only : (accepts : Accepts) (issuer : Certificate) (response : OcspResponse) (signer : Signer) → IsSigner accepts issuer response signer → signer_of accepts issuer response ≡ Some signer
