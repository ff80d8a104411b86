-- The parts of certificates, lists and responses stand in the texts that they were read from.
use Rattle.std.proofs.Common.{◌≡◌, ◌+◌, true, ℕ, zero, suc, List, [], ◌∷◌, ◌++◌, length, take, Ok, refl, sym, ap, ◌∙◌, subst, append_assoc, length-append, arith}
use Rattle.std.specs.List.{AllByRecursion}
use Rattle.asn.specs.Identifier.{is_constructed}
use Rattle.asn.specs.DerLaws.{AreOctets}
use Rattle.asn.specs.Encoding.{Encodes}
use Rattle.asn.specs.Value.{Value}
use Rattle.asn.specs.Part.{IsPartOf, contents}
use Rattle.asn.specs.Place.{Place, tag, body, body_place}
use Rattle.asn.specs.Members.{members}
use Rattle.asn.proofs.Laws.{IsEncodedPart, AllParts, members_stand, contents_stand}
use Rattle.cert.specs.Certificate.{Certificate, certificate_at}
use Rattle.cert.specs.CertificateForms.{IsCertificateAt, IsSignature}
use Rattle.cert.specs.Offsets.{StandsIn}
use Rattle.cert.proofs.Laws.{certificate_is_exact, is_certificate_at}
use Rattle.statements_facts.specs.declared.profile.Profile.{Profile}
use Rattle.statements_crl.specs.CertificateList.{CertificateList}
use Rattle.statements_crl.specs.ListForms.{IsCertificateListUnder}
use Rattle.statements_ocsp.specs.OcspResponse.{OcspResponse}
use Rattle.statements_ocsp.specs.ResponseForms.{AreCerts, IsOcspResponse}
use Rattle.relying_questions.specs.Places.{IsPlaceIn, ListStands, ResponseStands, WasReadInSomeProfile, bits_at, HasParts}

none_behind : (xs : List ℕ) → xs ≡ xs ++ []
none_behind [] = refl
none_behind (x ∷ xs) = ap (λ more. x ∷ more) (none_behind xs)

-- a text stands in itself
itself : (text : List ℕ) → IsPartOf text 0 text
itself text = record { before = []; behind = []; joined = none_behind text; place = refl }

-- a SEQUENCE is constructed
is_sequence : (value : Place) → tag value ≡ 0x30 → is_constructed (tag value) ≡ true
is_sequence value is = ap is_constructed is

pub inside : (text : List ℕ) (value : Place) (values : List Place) → tag value ≡ 0x30 → (members value).values ≡ values → IsEncodedPart text value → AllParts text values
inside text value values sequence are whole = subst (AllParts text) are (members_stand text value (is_sequence value sequence) whole)

-- the same under an explicit tag [0]
pub inside_explicit : (text : List ℕ) (value : Place) (values : List Place) → tag value ≡ 0xA0 → (members value).values ≡ values → IsEncodedPart text value → AllParts text values
inside_explicit text value values explicit are whole = subst (AllParts text) are (members_stand text value (ap is_constructed explicit) whole)

-- an encoding is a part of itself
pub is_in_itself : (text : List ℕ) (value : Value) → Encodes text value → IsEncodedPart text (record { octets = text; at = 0 })
is_in_itself text value encodes = record { stands = itself text; depth = _; value = value; encodes = encodes }

after : (text : List ℕ) (some more : List Place) → AllParts text (some ++ more) → AllParts text more
after text [] more parts = parts
after text (place ∷ some) more parts = after text some more parts.1

-- what stands behind the first octets of a part
shorter : (text : List ℕ) (at : ℕ) (first rest : List ℕ) → IsPartOf text at (first ++ rest) → IsPartOf text (at + length first) rest
shorter text at first rest is = record {
  before = is.before ++ first;
  behind = is.behind;
  joined = is.joined ∙ ap (λ (t : List ℕ). t ++ is.behind) (sym (append_assoc is.before first rest));
  place = omega (arith, length-append is.before first, is.place);
}

pub bits_stand : (text : List ℕ) (value : Place) (octets : List ℕ) → IsSignature value octets → IsEncodedPart text value → IsPartOf text (bits_at value) octets
unfolding body_place contents
bits_stand text value octets is whole =
    let cut : body value ≡ (0 ∷ []) ++ octets = is.contents in
    let stands : IsPartOf text (body_place value).at ((0 ∷ []) ++ octets) = subst (IsPartOf text (body_place value).at) cut (contents_stand text value whole) in
    subst (λ first. IsPartOf text ((body_place value).at + length (take 1 first)) octets) (sym cut) (shorter text (body_place value).at (0 ∷ []) octets stands)

-- ---- certificates

-- the members of a certificate and of its signed part
in_text : (text : List ℕ) (value : Place) (c : Certificate) → IsCertificateAt value c → IsEncodedPart text value → HasParts text c
in_text text value c is whole =
    let parts = inside text value (is.signed ∷ is.algorithm ∷ is.signature.value ∷ []) is.sequence is.members_are whole in
    let tbs = is.signed_is in
    let fields = after text tbs.versions _ (inside text is.signed _ is.signed_sequence tbs.members_are parts.0) in
    subst (HasParts text) (sym is.fields_are) record {
      signed = record {
        message_stands = parts.0.stands;
        algorithm_stands = subst (IsPlaceIn text) (sym tbs.signature_is.whole) fields.1.0.stands;
        signature_stands = bits_stand text is.signature.value is.signature.octets is.signature_is parts.1.1.0;
      };
      key_info = subst (IsPlaceIn text) (sym tbs.key_info_is.whole) fields.1.1.1.1.1.0.stands;
    }

-- one that was read from its octets has its parts there, in whichever profile
pub has_parts : (c : Certificate) → WasReadInSomeProfile c → HasParts c.octets c
has_parts c was =
    let text : List ℕ = was.was_read.octets in
    let is = (certificate_is_exact text was.read was.was_read.are_octets).0 was.was_read.reads in
    let same : c.octets ≡ text = ap (λ (d : Certificate). d.octets) was.same ∙ ap (λ (d : Certificate). d.octets) is.layout.fields_are in
    let parts = in_text text (record { octets = text; at = 0 }) was.read is.layout (is_in_itself text is.value is.der) in
    subst (λ t. HasParts t c) (sym same) (subst (HasParts text) (sym was.same) (record { signed = parts.signed; key_info = parts.key_info }))

-- octets of a part are octets
front_octets : (part behind : List ℕ) → AreOctets (part ++ behind) → AreOctets part
front_octets [] behind are k = omega arith
front_octets (octet ∷ part) behind are zero = are zero
front_octets (octet ∷ part) behind are (suc k) = front_octets part behind (λ j. are (suc j)) k

behind_octets : (before part : List ℕ) → AreOctets (before ++ part) → AreOctets part
behind_octets [] part are = are
behind_octets (octet ∷ before) part are = behind_octets before part (λ k. are (suc k))

part_octets : (text : List ℕ) (at : ℕ) (part : List ℕ) → AreOctets text → IsPartOf text at part → AreOctets part
part_octets text at part are is = behind_octets is.before part (front_octets (is.before ++ part) is.behind (subst AreOctets is.joined are))

-- one that comes with a response has its parts in the text in which it stands
pub delegate_stands : (text : List ℕ) (value : Place) (c : Certificate) → StandsIn text value → certificate_at value ≡ Ok c → HasParts text c
delegate_stands text value c is reads =
    let octets = part_octets text value.at value.octets is.octets is.part in
    in_text text value c (is_certificate_at value c octets reads) (record { stands = is.part; depth = is.encoded.0; value = is.encoded.1; encodes = is.encoded.2 })

-- ---- statements

abbrev root_of : List ℕ → Place
root_of text = record { octets = text; at = 0 }

pub list_stands : (profile : Profile) (text : List ℕ) (list : CertificateList) → IsCertificateListUnder profile text list → ListStands text list
list_stands profile text list is =
    let layout = is.layout in
    let parts = inside text (root_of text) (layout.signed ∷ layout.algorithm ∷ layout.signature.value ∷ []) layout.sequence layout.members_are (is_in_itself text is.value is.der) in
    let fields = inside text layout.signed _ layout.signed_is.sequence layout.signed_is.members_are parts.0 in
    subst (ListStands text) (sym layout.fields_are) record {
      message_stands = parts.0.stands;
      algorithm_stands = subst (IsPlaceIn text) (sym layout.signed_is.signature_is.whole) fields.1.0.stands;
      signature_stands = bits_stand text layout.signature.value layout.signature.octets layout.signature_is parts.1.1.0;
    }

-- the response inside is an encoding that stands in the text
basic_part : (text : List ℕ) (response : Place) (basic : Value) → Encodes (body response) basic → IsEncodedPart text response → IsEncodedPart text (body_place response)
unfolding body_place contents
basic_part text response basic der whole = record { stands = contents_stand text response whole; depth = _; value = basic; encodes = der }

basic_stands : (text : List ℕ) (response : OcspResponse) (is : IsOcspResponse text response) → IsEncodedPart text (body_place is.layout.bytes_are.response)
basic_stands text response is =
    let layout = is.layout in
    let bytes = layout.bytes_are in
    let whole = inside text (root_of text) (layout.status ∷ layout.explicit ∷ []) layout.sequence layout.members_are (is_in_itself text is.value is.der) in
    let tagged = inside_explicit text layout.explicit (layout.bytes ∷ []) layout.tagged.explicit layout.tagged.members_are whole.1.0 in
    let members = inside text layout.bytes (bytes.kind ∷ bytes.response ∷ []) bytes.sequence bytes.members_are tagged.0 in
    basic_part text bytes.response bytes.basic bytes.der members.1.0

all_stand : (text : List ℕ) (places : List Place) → AreOctets text → AllParts text places → AllByRecursion (StandsIn text) places
all_stand text [] fits parts = tt
all_stand text (place ∷ places) fits parts =
    (record { octets = fits; part = parts.0.stands; encoded = (parts.0.depth, parts.0.value, parts.0.encodes) }, all_stand text places fits parts.1)

certs_stand : (text : List ℕ) (values certs : List Place) → AreOctets text → AllParts text values → AreCerts values certs → AllByRecursion (StandsIn text) certs
certs_stand text [] certs fits parts are = subst (AllByRecursion (StandsIn text)) (sym are) tt
certs_stand text (value ∷ []) certs fits parts (list, tagged, sequence, are) =
    let one = inside_explicit text value (list ∷ []) tagged.explicit tagged.members_are parts.0 in
    subst (AllByRecursion (StandsIn text)) (sym are) (all_stand text (members list).values fits (inside text list (members list).values sequence refl one.0))
certs_stand text (value ∷ other ∷ values) certs fits parts are = absurd are

pub response_stands : (text : List ℕ) (response : OcspResponse) → AreOctets text → IsOcspResponse text response → ResponseStands text response
response_stands text response fits is =
    let basic = is.layout.bytes_are.basic_is in
    let parts = inside text (body_place is.layout.bytes_are.response) (basic.signed ∷ basic.algorithm ∷ basic.behind.signature.value ∷ basic.certs) basic.sequence basic.members_are (basic_stands text response is) in
    subst (ResponseStands text) (sym basic.fields_are) record {
      signed = record {
        message_stands = parts.0.stands;
        algorithm_stands = subst (IsPlaceIn text) (sym basic.algorithm_is.whole) parts.1.0.stands;
        signature_stands = bits_stand text basic.behind.signature.value basic.behind.signature.octets basic.signature_is parts.1.1.0;
      };
      certs = certs_stand text basic.certs basic.behind.certs fits parts.1.1.1 basic.certs_are;
    }
