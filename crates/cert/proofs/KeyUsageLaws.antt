-- The walk of a key usage finds what the standard calls one, and nothing else.
use Rattle.std.proofs.Common.{◌≡◌, ℕ, List, [], ◌∷◌, Ok, refl, sym, ap, ◌∙◌, subst}
use Rattle.asn.specs.Value.{Value, primitive}
use Rattle.asn.specs.Contents.{IsBitString}
use Rattle.asn.specs.DerLaws.{AreOctets}
use Rattle.asn.specs.Place.{Place, tag, body, body_place}
use Rattle.asn.specs.Layout.{IsEncodingOf}
use Rattle.asn.proofs.Laws.{bind_ok, ok_is, is_a_ok, is_a_again, as_primitive}
use Rattle.cert.specs.declared.fault.CertRule.{CertRule}
use Rattle.cert.specs.declared.fault.CertRule.TheVariants.{ExtensionValue}
use Rattle.cert.specs.BitString.{bits_in}
use Rattle.cert.specs.KeyUsage.{key_usage, IsKeyUsage}
use Rattle.cert.proofs.ContainedValues.{contained_ok, contained_again, encoding_inside}

counted : (contents : List ℕ) → IsBitString contents → (unused : ℕ) × (contents ≡ unused ∷ bits_in contents)
counted [] is = absurd is
counted (unused ∷ bits) is = (unused, refl)

-- a BIT STRING has a count of unused bits
has_count : (value : Value) (place : Place) → IsEncodingOf value place → tag place ≡ 0x03 → (unused : ℕ) × (body place ≡ unused ∷ bits_in (body place))
has_count value place encoded is =
    let same : value ≡ primitive 0x03 (body place) = as_primitive encoded is refl in
    let encoded : IsEncodingOf (primitive 0x03 (body place)) place = subst (λ v. IsEncodingOf v place) same encoded in
    counted (body place) (encoded.encodes.3.2 refl)

pub is_key_usage : (octet_string : Place) (bits : List ℕ) → AreOctets (body octet_string) → key_usage octet_string ≡ Ok bits → IsKeyUsage octet_string bits
unfolding key_usage
is_key_usage octet_string bits fits e =
    let value = bind_ok _ _ bits e in
    let string = bind_ok _ _ bits value.2 in
    let held = contained_ok octet_string value.0 fits value.1 in
    let is : tag (body_place octet_string) ≡ 0x03 = subst (λ (p : Place). tag p ≡ 0x03) held.0 (is_a_ok _ _ _ _ string.1) in
    let encoded = encoding_inside octet_string held.1 in
    let count = has_count encoded.0 (body_place octet_string) encoded.1 is in
    let same : bits_in (body (body_place octet_string)) ≡ bits = ap (λ (p : Place). bits_in (body p)) (sym held.0) ∙ ok_is {E = CertRule × ℕ} (bits_in (body value.0)) bits string.2 in
    record {
      whole = held.1;
      unused = count.0;
      bit_string = is;
      contents = count.1 ∙ ap (λ (b : List ℕ). count.0 ∷ b) same;
    }

pub key_usage_is : (octet_string : Place) (bits : List ℕ) → IsKeyUsage octet_string bits → key_usage octet_string ≡ Ok bits
unfolding key_usage
key_usage_is octet_string bits is =
    rw (contained_again octet_string is.whole, is_a_again 0x03 ExtensionValue (body_place octet_string) is.bit_string, is.contents) refl
