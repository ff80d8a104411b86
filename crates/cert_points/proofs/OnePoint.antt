-- The walk of a distribution point finds what the standard calls one, and nothing else.
use Rattle.std.proofs.Common.{◌≡◌, ◌≢◌, ◌⊎◌, ◌||◌, ◌==◌, ℕ, Bool, true, false, List, [], ◌∷◌, ◌++◌, append-nil, Option, Some, None, is_some, Result, Ok, refl, sym, ap, ◌∙◌, subst, inl, inr}
use Rattle.asn.specs.Members.{Members, members, begins, begins_in}
use Rattle.asn.specs.Place.{Place, tag}
use Rattle.asn.specs.Walk.{optional}
use Rattle.asn.proofs.Laws.{bind_ok, ok_is, check_ok, check_again, is_a_ok, is_a_again, TakesOptional, optional_is, optional_there, optional_absent, ended_ok, ended_again}
use Rattle.cert.specs.declared.fault.CertRule.{CertRule}
use Rattle.cert.specs.declared.fault.CertRule.TheVariants.{ExtensionValue}
use Rattle.cert_points.specs.GeneralNames.{general_names, AreGeneralNames}
use Rattle.cert_points.specs.PointName.{point_name, IsPointName}
use Rattle.cert_points.specs.ReasonFlags.{reason_flags, AreReasonFlags}
use Rattle.cert_points.specs.DistributionPoint.{DistributionPoint, read_found, read_optional, point_members, is_told, distribution_point, IsOptional, IsDistributionPoint}
use Rattle.cert_points.proofs.ListedNames.{are_names, names_are}
use Rattle.cert_points.proofs.ChosenNames.{is_point_name, point_name_is}
use Rattle.cert_points.proofs.ReasonBits.{are_reasons, reasons_are}

-- a field that may be left out
record TakesField {X : Type 0} (identifier : ℕ) (Is : Place → X → Type 0) (left : Members) (field : Option X) (others : Members) : Type 0 where
  taken : List Place
  values : left.values ≡ taken ++ others.values
  is : IsOptional identifier Is taken field

of_optional : {X : Type 0} (identifier : ℕ) (read : Place → Result X (CertRule × ℕ)) (Is : Place → X → Type 0) → ((value : Place) (x : X) → read value ≡ Ok x → Is value x)
    → (left : Members) (found : Option Place) (others : Members) (y : Option X × Members) → TakesOptional identifier left found others → read_found read found others ≡ Ok y → TakesField identifier Is left y.0 y.1
of_optional {X} identifier read Is reads left None others y took e =
    let P : Option X × Members → Type 0 = λ z. TakesField identifier Is left z.0 z.1 in
    subst P (ok_is {E = CertRule × ℕ} (None, others) y e) record { taken = []; values = sym (ap (λ (m : Members). m.values) took.0); is = refl }
of_optional {X} identifier read Is reads left (Some value) others y took e =
    let x = bind_ok _ _ y e in
    let P : Option X × Members → Type 0 = λ z. TakesField identifier Is left z.0 z.1 in
    subst P (ok_is {E = CertRule × ℕ} (Some x.0, others) y x.2) record { taken = value ∷ []; values = took.values; is = (x.0, took.tag_is, reads value x.0 x.1, refl) }

field_ok : {X : Type 0} (identifier : ℕ) (read : Place → Result X (CertRule × ℕ)) (Is : Place → X → Type 0) → ((value : Place) (x : X) → read value ≡ Ok x → Is value x)
    → (left : Members) (y : Option X × Members) → read_optional identifier read left ≡ Ok y → TakesField identifier Is left y.0 y.1
unfolding read_optional
field_ok identifier read Is reads left y e = of_optional identifier read Is reads left (optional identifier left).0 (optional identifier left).1 y (optional_is identifier left) e

field_again : {X : Type 0} (identifier : ℕ) (read : Place → Result X (CertRule × ℕ)) (Is : Place → X → Type 0) → ((value : Place) (x : X) → Is value x → read value ≡ Ok x)
    → (left : Members) (taken others : List Place) (field : Option X) → left.values ≡ taken ++ others → IsOptional identifier Is taken field → begins_in identifier others ≡ false
    → read_optional identifier read left ≡ Ok (field, record { values = others; end = left.end })
unfolding read_optional begins
field_again identifier read Is reads left [] others field e is none = rw (optional_absent identifier left (ap (begins_in identifier) e ∙ none), is, ← e) refl
field_again identifier read Is reads left (value ∷ []) others field e (x, tagged, is, field_is) none = rw (optional_there identifier left value others e tagged, reads value x is, field_is) refl
field_again identifier read Is reads left (value ∷ other ∷ taken) others field e is none = absurd is

-- no field begins with the tag of another
begins_with : {X : Type 0} (identifier other : ℕ) (Is : Place → X → Type 0) (taken others : List Place) (field : Option X) → IsOptional other Is taken field
    → (other == identifier) ≡ false → begins_in identifier others ≡ false → begins_in identifier (taken ++ others) ≡ false
begins_with identifier other Is [] others field is differs none = none
begins_with identifier other Is (value ∷ []) others field (x, tagged, is, field_is) differs none = rw tagged differs
begins_with identifier other Is (value ∷ another ∷ taken) others field is differs none = absurd is

-- a name or an issuer is there
is_some_not : {X : Type 0} (field : Option X) → is_some field ≡ true → field ≢ None
is_some_not None e = absurd cc
is_some_not (Some x) e = λ none. absurd cc

not_is_some : {X : Type 0} (field : Option X) → (field ≢ None) → is_some field ≡ true
not_is_some None there = absurd (there refl)
not_is_some (Some x) there = refl

either_of : (a b : Bool) → (a || b) ≡ true → (a ≡ true) ⊎ (b ≡ true)
either_of true b e = inl refl
either_of false b e = inr e

or_first : (a b : Bool) → a ≡ true → (a || b) ≡ true
or_first true b e = refl
or_first false b e = absurd cc

or_second : (a b : Bool) → b ≡ true → (a || b) ≡ true
or_second true b e = refl
or_second false b e = e

abbrev IsTold : DistributionPoint → Type 0
IsTold point = (point.name ≢ None) ⊎ (point.issuer ≢ None)

told_ok : (point : DistributionPoint) → is_told point ≡ true → IsTold point
told_ok point e = elim (either_of (is_some point.name) (is_some point.issuer) e) [
  | inl name ↦ inl (is_some_not point.name name)
  | inr issuer ↦ inr (is_some_not point.issuer issuer)
]

told_again : (point : DistributionPoint) → IsTold point → is_told point ≡ true
told_again point (inl name) = or_first (is_some point.name) (is_some point.issuer) (not_is_some point.name name)
told_again point (inr issuer) = or_second (is_some point.name) (is_some point.issuer) (not_is_some point.issuer issuer)

-- the values in order
record AreMembers (value : Place) (point : DistributionPoint) : Type 0 where
  names : List Place
  reasons : List Place
  issuers : List Place
  sequence : tag value ≡ 0x30
  members_are : (members value).values ≡ names ++ (reasons ++ issuers)
  name_is : IsOptional 0xA0 IsPointName names point.name
  reasons_are : IsOptional 0x81 AreReasonFlags reasons point.reasons
  issuer_is : IsOptional 0xA2 AreGeneralNames issuers point.issuer

members_ok : (value : Place) (point : DistributionPoint) → point_members value ≡ Ok point → AreMembers value point
unfolding point_members
members_ok value point e =
    let sequence = bind_ok _ _ point e in
    let name = bind_ok _ _ point sequence.2 in
    let reasons = bind_ok _ _ point name.2 in
    let issuer = bind_ok _ _ point reasons.2 in
    let done = bind_ok _ _ point issuer.2 in
    let first = field_ok 0xA0 point_name IsPointName is_point_name (members value) name.0 name.1 in
    let second = field_ok 0x81 reason_flags AreReasonFlags are_reasons name.0.1 reasons.0 reasons.1 in
    let third = field_ok 0xA2 general_names AreGeneralNames are_names reasons.0.1 issuer.0 issuer.1 in
    let end = ended_ok _ _ _ done.1 in
    let last : issuer.0.1.values ≡ [] = end in
    let behind : name.0.1.values ≡ second.taken ++ third.taken =
    second.values ∙ ap (λ (vs : List Place). second.taken ++ vs) (third.values ∙ ap (λ (vs : List Place). third.taken ++ vs) last ∙ append-nil third.taken) in
    subst (AreMembers value) (ok_is {E = CertRule × ℕ} _ point done.2) record {
      names = first.taken;
      reasons = second.taken;
      issuers = third.taken;
      sequence = is_a_ok _ _ _ _ sequence.1;
      members_are = first.values ∙ ap (λ (vs : List Place). first.taken ++ vs) behind;
      name_is = first.is;
      reasons_are = second.is;
      issuer_is = third.is;
    }

members_again : (value : Place) (point : DistributionPoint) → AreMembers value point → point_members value ≡ Ok point
unfolding point_members
members_again value point are =
    let left : List Place → Members = λ values. record { values = values; end = (members value).end } in
    let no_issuer : (identifier : ℕ) → (0xA2 == identifier) ≡ false → begins_in identifier are.issuers ≡ false =
    λ identifier differs. subst (λ (vs : List Place). begins_in identifier vs ≡ false) (append-nil are.issuers) (begins_with identifier 0xA2 AreGeneralNames are.issuers [] point.issuer are.issuer_is differs refl) in
    let no_name : begins_in 0xA0 (are.reasons ++ are.issuers) ≡ false = begins_with 0xA0 0x81 AreReasonFlags are.reasons are.issuers point.reasons are.reasons_are refl (no_issuer 0xA0 refl) in
    rw (
      is_a_again 0x30 ExtensionValue value are.sequence,
      field_again 0xA0 point_name IsPointName point_name_is (members value) are.names (are.reasons ++ are.issuers) point.name are.members_are are.name_is no_name,
      field_again 0x81 reason_flags AreReasonFlags reasons_are (left (are.reasons ++ are.issuers)) are.reasons are.issuers point.reasons refl are.reasons_are (no_issuer 0x81 refl),
      field_again 0xA2 general_names AreGeneralNames names_are (left are.issuers) are.issuers [] point.issuer (sym (append-nil are.issuers)) are.issuer_is refl,
      ended_again ExtensionValue (left []) refl,
    ) refl

pub is_point : (value : Place) (point : DistributionPoint) → distribution_point value ≡ Ok point → IsDistributionPoint value point
unfolding distribution_point
is_point value point e =
    let read = bind_ok _ _ point e in
    let told = bind_ok _ _ point read.2 in
    let are = members_ok value read.0 read.1 in
    subst (IsDistributionPoint value) (ok_is {E = CertRule × ℕ} read.0 point told.2) record {
      names = are.names;
      reasons = are.reasons;
      issuers = are.issuers;
      sequence = are.sequence;
      members_are = are.members_are;
      name_is = are.name_is;
      reasons_are = are.reasons_are;
      issuer_is = are.issuer_is;
      told = told_ok read.0 (check_ok _ _ _ _ told.1);
    }

pub point_is : (value : Place) (point : DistributionPoint) → IsDistributionPoint value point → distribution_point value ≡ Ok point
unfolding distribution_point
point_is value point is =
    let are : AreMembers value point = record {
      names = is.names;
      reasons = is.reasons;
      issuers = is.issuers;
      sequence = is.sequence;
      members_are = is.members_are;
      name_is = is.name_is;
      reasons_are = is.reasons_are;
      issuer_is = is.issuer_is;
    } in
    rw (members_again value point are, check_again (is_told point) ExtensionValue value.at (told_again point is.told)) refl
