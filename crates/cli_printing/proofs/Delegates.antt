-- The lines of the certificates that come with a response, joined in order.
use Rattle.std.proofs.Common.{◌≡◌, ◌<◌, ◌+◌, ◌^◌, ℕ, Bool, List, ◌∷◌, ◌++◌, length, ap, sym, ◌∙◌, append_assoc, Option, Some, None, subst, arith}
use Rattle.std.proofs.lemmas.List.{length-map}
use Rattle.asn.specs.Members.{left, members_at}
use Rattle.asn.specs.Place.{remaining}
use Rattle.asn.specs.declared.tlv.Cursor.{Cursor}
use Rattle.asn.proofs.Laws.{values_count}
use Rattle.cert.specs.Certificate.{Certificate}
use Rattle.cert.specs.SubjectPublicKeyInfo.{SubjectPublicKeyInfo}
use Rattle.statements_ocsp.specs.OcspResponse.{OcspResponse, certs_in, certs_left}
use Rattle.statements_ocsp.specs.declared.certs.Certs.{Certs}
use Rattle.statements_ocsp.specs.Certificates.{HandsOut}
use Rattle.cert.specs.declared.certificate.Certificate as read
use Rattle.cli_printing.specs.FingerprintText.{both_lines, delegate_lines}

-- one certificate more is behind
pub delegates_more : (with_parts : Bool) (key_info : SubjectPublicKeyInfo) (response : OcspResponse) (n : ℕ) (all text : List ℕ) (c : Certificate) (old new : List Certificate) → old ≡ c ∷ new
    → all ≡ text ++ delegate_lines with_parts key_info response n old → all ≡ (text ++ both_lines with_parts key_info response n c) ++ delegate_lines with_parts key_info response (n + 1) new
delegates_more with_parts key_info response n all text c old new is whole =
    whole ∙ ap (λ cs. text ++ delegate_lines with_parts key_info response n cs) is ∙ sym (append_assoc text (both_lines with_parts key_info response n c) (delegate_lines with_parts key_info response (n + 1) new))

values_short : (cursor : Cursor) → length (certs_in (Some cursor)) < 2 ^ 64
unfolding members_at
values_short cursor =
    let n = length-map (left cursor).values (λ value. value.octets) in
    let c = values_count (remaining cursor) in
    let f = cursor.fits in
    omega arith

some_short : (members : Option Cursor) → length (certs_in members) < 2 ^ 64
some_short None = omega arith
some_short (Some cursor) = values_short cursor

-- no list of values is longer than a number can be
pub certs_short : (certs : Certs) → length (certs_left certs) < 2 ^ 64
certs_short certs = some_short certs.members

-- a certificate is handed out
pub handed : (old new : Certs) (next : Option read.Certificate) (c : read.Certificate) → next ≡ Some c → HandsOut old new next → HandsOut old new (Some c)
handed old new next c is given = subst (HandsOut old new) is given
