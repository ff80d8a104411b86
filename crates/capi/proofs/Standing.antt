-- The components of a certificate are parts of the text that it was read from.
use Rattle.std.proofs.Common.{◌≡◌, ℕ, List, [], ◌∷◌, ◌++◌, Ok, refl, sym, ap, subst}
use Rattle.std.proofs.lemmas.List.{append-nil}
use Rattle.asn.specs.Value.{Value}
use Rattle.asn.specs.Identifier.{is_constructed}
use Rattle.asn.specs.Encoding.{EncodesAt}
use Rattle.asn.specs.DerLaws.{AreOctets}
use Rattle.asn.specs.Part.{IsPartOf}
use Rattle.asn.specs.Place.{Place, body_place}
use Rattle.asn.proofs.Laws.{IsEncodedPart, AllParts, members_stand, contents_stand}
use Rattle.names.specs.GeneralLayout.{NameContents}
use Rattle.cert.specs.BitString.{BitString}
use Rattle.cert.specs.Certificate.{Certificate, certificate}
use Rattle.cert.specs.CertificateForms.{IsNameOf, IsCertificateAt}
use Rattle.cert.proofs.Laws.{certificate_is_exact}
use Rattle.relying_questions.specs.Places.{IsPlaceIn}
use Rattle.capi.specs.Fields.{ComponentsStandIn}

later : (text : List ℕ) (first others : List Place) → AllParts text (first ++ others) → AllParts text others
later text [] others parts = parts
later text (place ∷ first) others parts = later text first others parts.1

abbrev whole_text : List ℕ → Place
whole_text text = record { octets = text; at = 0 }

whole_stands : (text : List ℕ) (value : Value) → EncodesAt 1 text value → IsEncodedPart text (whole_text text)
whole_stands text value encodes = record {
  stands = record { before = []; behind = []; joined = sym (append-nil text); place = refl };
  depth = 1;
  value = value;
  encodes = encodes;
}

name_stands : (text : List ℕ) (place : Place) (name : NameContents) → IsPlaceIn text place → IsNameOf place name → IsPartOf text name.at name.octets
name_stands text place name stands is = subst (λ (n : NameContents). IsPartOf text n.at n.octets) (sym is.contents) stands

they_stand : (text : List ℕ) (fields : Certificate) (is : IsCertificateAt (whole_text text) fields) → IsEncodedPart text (whole_text text) → ComponentsStandIn text fields
they_stand text fields is whole =
    let tbs = is.signed_is in
    let outer = subst (AllParts text) is.members_are (members_stand text (whole_text text) (ap is_constructed is.sequence) whole) in
    let inner = later text tbs.versions _ (subst (AllParts text) tbs.members_are (members_stand text is.signed (ap is_constructed is.signed_sequence) outer.0)) in
    let behind_issuer = inner.1.1.1 in
    let key_info = behind_issuer.1.1.0 in
    let key = subst (AllParts text) tbs.key_info_is.members_are (members_stand text tbs.key_info (ap is_constructed tbs.key_info_is.sequence) key_info) in
    subst (ComponentsStandIn text) (sym is.fields_are) record {
      tbs = outer.0.stands;
      serial = contents_stand text is.tbs.head.serial inner.0;
      algorithm = subst (IsPlaceIn text) (sym tbs.signature_is.whole) inner.1.0.stands;
      issuer = name_stands text tbs.issuer is.tbs.head.issuer inner.1.1.0.stands tbs.issuer_is;
      subject = name_stands text tbs.subject is.tbs.subject.name behind_issuer.1.0.stands tbs.subject_is;
      key_info = subst (IsPlaceIn text) (sym tbs.key_info_is.whole) key_info.stands;
      key = subst (λ (b : BitString). IsPlaceIn text (body_place b.value)) (sym tbs.key_info_is.bits) (contents_stand text tbs.key_info_is.key key.1.0);
      signature = contents_stand text is.signature.value outer.1.1.0;
    }

-- the components of a certificate that was read
pub components_stand : (text : List ℕ) (fields : Certificate) → AreOctets text → certificate text ≡ Ok fields → ComponentsStandIn text fields
components_stand text fields octets e =
    let is = (certificate_is_exact text fields octets).0 e in
    they_stand text fields is.layout (whole_stands text is.value is.der)
