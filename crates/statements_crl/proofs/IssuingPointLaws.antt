-- What an issuingDistributionPoint is read as, in a profile, is what the standard says, and nothing else.
use Rattle.std.proofs.Common.{◌≡◌, ◌⊎◌, ℕ, Bool, true, false, List, [], ◌∷◌, ◌++◌, Option, Some, None, Result, Ok, Err, if◌then◌else◌, arith, refl, sym, ap, ◌∙◌, subst, inl, inr}
use Rattle.std.specs.Prelude.{option_map}
use Rattle.std.specs.Str.{bytes_eq}
use Rattle.std.proofs.lemmas.Slice.Eq.{bytes_eq-Decides}
use Rattle.asn.specs.DerLaws.{AreOctets}
use Rattle.asn.specs.Value.{primitive, constructed, none, more}
use Rattle.asn.specs.Identifier.{is_refused, is_constructed}
use Rattle.asn.specs.Contents.{IsContents}
use Rattle.asn.specs.Encoding.{encoding_of, Encodes}
use Rattle.asn.specs.Rule.{Rule}
use Rattle.asn.specs.Part.{contents}
use Rattle.asn.specs.Place.{Place, tag, body, body_place, values, ends, front, behind}
use Rattle.asn.specs.Members.{Members, members, members_at, octets_of_each}
use Rattle.asn.specs.Walk.{◌>>=◌, is_a, next_or, or_fault}
use Rattle.asn.specs.Outermost.{nested}
use Rattle.asn.proofs.Laws.{bind_ok, ok_is, is_a_ok, is_a_again, next_or_ok, next_or_again, nested_ok, nested_again}
use Rattle.cert.specs.declared.fault.CertRule.{CertRule}
use Rattle.cert.specs.declared.fault.CertRule.TheVariants.{ExtensionValue}
use Rattle.statements_facts.specs.declared.profile.Profile.{Profile}
use Rattle.statements_facts.specs.declared.profile.Profile.TheVariants.{Stated, Wide}
use Rattle.cert.specs.Extension.{Extension}
use Rattle.cert_points.specs.PointName.{PointName, full_name, relative, point_name, IsPointName}
use Rattle.cert_points.proofs.Laws.{is_point_name, point_name_is}
use Rattle.statements_facts.specs.declared.scope.Scope.{Scope}
use Rattle.statements_facts.specs.declared.scope.Scope.TheVariants as S
use Rattle.statements_crl.specs.IssuerScope.{user_certificates, ca_certificates, scope_in}
use Rattle.statements_crl.specs.IssuingPoint.{IssuingPoint, only_users, only_authorities, scope_of_flag, scope_of_flags, names_in, full_names, published, answer_of, published_at, published_in, whole_list, or_published, issuing_point}
use Rattle.statements_crl.specs.ListForms.{HasScope, IsPublished, flags_of, HasIssuingPoint, IssuingPointIsExact}
use Rattle.statements_crl.proofs.ExtensionTypes.{some_where}
use Rattle.statements_crl.proofs.ReasonLaws.{some_is}

-- the octets of the two scopes
encodes_flag : (identifier : ℕ) (octets : List ℕ) → is_refused identifier ≡ false → is_constructed identifier ≡ false → IsContents identifier (0xFF ∷ []) → octets ≡ 0x30 ∷ 3 ∷ identifier ∷ 1 ∷ 0xFF ∷ [] → Encodes octets (constructed 0x30 (more (primitive identifier (0xFF ∷ [])) none))
encodes_flag identifier octets served flat contents e =
    (omega arith, refl, refl, (identifier ∷ 1 ∷ 0xFF ∷ [], (identifier ∷ 1 ∷ 0xFF ∷ [], [], refl, (omega arith, served, flat, contents, omega arith, refl), refl), omega arith, e))

flag_encoded : (identifier : ℕ) (octets : List ℕ) → Encodes octets (constructed 0x30 (more (primitive identifier (0xFF ∷ [])) none)) → octets ≡ 0x30 ∷ 3 ∷ identifier ∷ 1 ∷ 0xFF ∷ []
flag_encoded identifier octets is =
    let inside = is.3.1 in
    let same : is.3.0 ≡ identifier ∷ 1 ∷ 0xFF ∷ [] = inside.2 ∙ ap (λ (front : List ℕ). front ++ inside.1) inside.3.5 ∙ ap (λ (rest : List ℕ). (identifier ∷ 1 ∷ 0xFF ∷ []) ++ rest) inside.4 in
    is.3.3 ∙ ap (encoding_of 0x30) same

chosen_scope : (a b : Bool) (one : Extension) (scope : Scope) → bytes_eq (body one.value) user_certificates ≡ a → bytes_eq (body one.value) ca_certificates ≡ b → (if a then Some S.User else (if b then Some S.Ca else None)) ≡ Some scope → HasScope one scope
chosen_scope true b one scope user ca e =
    subst (HasScope one) (some_where true S.User scope e).1
    (encodes_flag 0x81 (body one.value) refl refl (λ i. absurd cc, λ i. absurd cc, λ i. absurd cc, λ i. absurd cc, λ i. absurd cc, λ i. absurd cc) ((bytes_eq-Decides (body one.value) user_certificates).0 user))
chosen_scope false true one scope user ca e =
    subst (HasScope one) (some_where true S.Ca scope e).1
    (encodes_flag 0x82 (body one.value) refl refl (λ i. absurd cc, λ i. absurd cc, λ i. absurd cc, λ i. absurd cc, λ i. absurd cc, λ i. absurd cc) ((bytes_eq-Decides (body one.value) ca_certificates).0 ca))
chosen_scope false false one scope user ca e = absurd cc

scope_ok : (one : Extension) (scope : Scope) → scope_in (body one.value) ≡ Some scope → HasScope one scope
unfolding scope_in
scope_ok one scope e = chosen_scope (bytes_eq (body one.value) user_certificates) (bytes_eq (body one.value) ca_certificates) one scope refl refl e

scope_read : (one : Extension) (scope : Scope) → HasScope one scope → scope_in (body one.value) ≡ Some scope
unfolding scope_in
scope_read one S.All is = absurd is
scope_read one S.User is = ap scope_in (flag_encoded 0x81 (body one.value) is)
scope_read one S.Ca is = ap scope_in (flag_encoded 0x82 (body one.value) is)

-- the flag behind the name of a point
chosen_flag : (a b : Bool) (octets : List ℕ) (scope : Scope) → bytes_eq octets only_users ≡ a → bytes_eq octets only_authorities ≡ b → (if a then Some S.User else (if b then Some S.Ca else None)) ≡ Some scope → octets ∷ [] ≡ flags_of scope
chosen_flag true b octets scope user ca e =
    subst (λ s. octets ∷ [] ≡ flags_of s) (some_where true S.User scope e).1 (ap (λ (o : List ℕ). o ∷ []) ((bytes_eq-Decides octets only_users).0 user))
chosen_flag false true octets scope user ca e =
    subst (λ s. octets ∷ [] ≡ flags_of s) (some_where true S.Ca scope e).1 (ap (λ (o : List ℕ). o ∷ []) ((bytes_eq-Decides octets only_authorities).0 ca))
chosen_flag false false octets scope user ca e = absurd cc

flag_ok : (octets : List ℕ) (scope : Scope) → scope_of_flag octets ≡ Some scope → octets ∷ [] ≡ flags_of scope
unfolding scope_of_flag
flag_ok octets scope e = chosen_flag (bytes_eq octets only_users) (bytes_eq octets only_authorities) octets scope refl refl e

flags_ok : (flags : List Place) (scope : Scope) → scope_of_flags flags ≡ Some scope → octets_of_each flags ≡ flags_of scope
flags_ok [] scope e = subst (λ s. octets_of_each [] ≡ flags_of s) (some_where true S.All scope e).1 refl
flags_ok (flag ∷ []) scope e = flag_ok flag.octets scope e
flags_ok (flag ∷ other ∷ values) scope e = absurd cc

one_flag : (octets : List ℕ) (flag : List ℕ) → octets ∷ [] ≡ flag ∷ [] → octets ≡ flag
one_flag octets flag e = cc

flags_read : (flags : List Place) (scope : Scope) → octets_of_each flags ≡ flags_of scope → scope_of_flags flags ≡ Some scope
unfolding scope_of_flag
flags_read [] S.All e = refl
flags_read [] S.User e = absurd cc
flags_read [] S.Ca e = absurd cc
flags_read (flag ∷ []) S.All e = absurd cc
flags_read (flag ∷ []) S.User e = ap scope_of_flag (one_flag flag.octets only_users e)
flags_read (flag ∷ []) S.Ca e = ap scope_of_flag (one_flag flag.octets only_authorities e)
flags_read (flag ∷ other ∷ values) S.All e = absurd cc
flags_read (flag ∷ other ∷ values) S.User e = absurd cc
flags_read (flag ∷ other ∷ values) S.Ca e = absurd cc

-- the name of the point
names_ok : (name : PointName) (names : List (List ℕ)) → names_in name ≡ Some names → name ≡ full_name names
names_ok (full_name found) names e = ap full_name (some_where true found names e).1
names_ok relative names e = absurd cc

full_ok : (value : Place) (names : List (List ℕ)) → full_names value ≡ Ok names → IsPointName value (full_name names)
unfolding full_names
full_ok value names e =
    let name = bind_ok {A = PointName} (point_name value) (λ name. or_fault (names_in name) ExtensionValue value.at) names e in
    let found = some_is (names_in name.0) ExtensionValue value.at names name.2 in
    subst (IsPointName value) (names_ok name.0 names found) (is_point_name value name.0 name.1)

full_read : (value : Place) (names : List (List ℕ)) → IsPointName value (full_name names) → full_names value ≡ Ok names
unfolding full_names
full_read value names is = rw (point_name_is value (full_name names) is) refl

-- the SEQUENCE of both
record Publishes (value : Place) (point : IssuingPoint) : Type 0 where
  name : Place
  flags : List Place
  sequence : tag value ≡ 0x30
  members_are : (members value).values ≡ name ∷ flags
  full : IsPointName name (full_name point.points)
  flags_are : octets_of_each flags ≡ flags_of point.scope

abbrev point_of : List (List ℕ) → Scope → IssuingPoint
point_of names scope = record { scope = scope; points = names }

published_ok : (value : Place) (point : IssuingPoint) → published value ≡ Ok point → Publishes value point
unfolding published
published_ok value point e =
    let sequence = bind_ok {A = Unit {0}} (is_a 0x30 ExtensionValue value) _ point e in
    let name = bind_ok {A = Place × Members} (next_or ExtensionValue (members value)) _ point sequence.2 in
    let names = bind_ok {A = List (List ℕ)} (full_names name.0.0) _ point name.2 in
    let scope = bind_ok {A = Scope} (or_fault (scope_of_flags name.0.1.values) ExtensionValue value.at) _ point names.2 in
    let found = point_of names.0 scope.0 in
    subst (Publishes value) {x = found} (ok_is {E = CertRule × ℕ} found point scope.2) record {
      name = name.0.0;
      flags = name.0.1.values;
      sequence = is_a_ok 0x30 ExtensionValue value sequence.0 sequence.1;
      members_are = (next_or_ok ExtensionValue (members value) name.0 name.1).values;
      full = full_ok name.0.0 names.0 names.1;
      flags_are = flags_ok name.0.1.values scope.0 (some_is (scope_of_flags name.0.1.values) ExtensionValue value.at scope.0 scope.1);
    }

published_read : (value : Place) (point : IssuingPoint) → Publishes value point → published value ≡ Ok point
unfolding published
published_read value point is =
    rw (
      is_a_again 0x30 ExtensionValue value is.sequence,
      next_or_again ExtensionValue (members value) is.name is.flags is.members_are,
      full_read is.name point.points is.full,
      flags_read is.flags point.scope is.flags_are,
    ) refl

answered : (r : Result IssuingPoint (CertRule × ℕ)) (point : IssuingPoint) → answer_of r ≡ Some point → r ≡ Ok point
answered (Ok found) point e = ap (λ (p : IssuingPoint). Ok p) (some_where true found point e).1
answered (Err fault) point e = absurd cc

is_published : (octet_string : Place) (point : IssuingPoint) → AreOctets (body octet_string) → published_in octet_string ≡ Some point → IsPublished octet_string point.scope point.points
unfolding published_in
is_published octet_string point fits e = by (nested octet_string) refl e where
  by : (r : Result Place (Rule × ℕ)) → nested octet_string ≡ r → published_at r ≡ Some point → IsPublished octet_string point.scope point.points
  by (Err fault) inner says = absurd cc
  by (Ok value) inner says =
      let whole = nested_ok octet_string value fits inner in
      let is = subst (λ v. Publishes v point) whole.0 (published_ok value point (answered (published value) point says)) in
      record {
        name = is.name;
        flags = is.flags;
        whole = whole.1;
        sequence = is.sequence;
        members_are = is.members_are;
        full_name = is.full;
        flags_are = is.flags_are;
      }

published_is : (octet_string : Place) (point : IssuingPoint) → IsPublished octet_string point.scope point.points → published_in octet_string ≡ Some point
unfolding published_in
published_is octet_string point is =
    let publishes : Publishes (body_place octet_string) point = record {
      name = is.name;
      flags = is.flags;
      sequence = is.sequence;
      members_are = is.members_are;
      full = is.full_name;
      flags_are = is.flags_are;
    } in
    rw (nested_again octet_string is.whole, published_read (body_place octet_string) point publishes) refl

-- either profile
scope_is : (one : Extension) (found : Scope) (point : IssuingPoint) → scope_in (body one.value) ≡ Some found → Some (whole_list found) ≡ Some point → HasScope one point.scope × (point.points ≡ [])
scope_is one found point is e =
    let P : IssuingPoint → Type 0 = λ p. HasScope one p.scope × (p.points ≡ []) in
    subst P (some_where true (whole_list found) point e).1 (scope_ok one found is, refl)

pub point_ok : (profile : Profile) (one : Extension) (point : IssuingPoint) → AreOctets (body one.value) → issuing_point profile one.value ≡ Some point → HasIssuingPoint profile one point.scope point.points
point_ok Stated one point fits e = by (scope_in (body one.value)) refl e where
  by : (found : Option Scope) → scope_in (body one.value) ≡ found → option_map whole_list found ≡ Some point → HasScope one point.scope × (point.points ≡ [])
  by None is says = absurd cc
  by (Some found) is says = scope_is one found point is says
point_ok Wide one point fits e = by (scope_in (body one.value)) refl e where
  by : (found : Option Scope) → scope_in (body one.value) ≡ found → or_published found (published_in one.value) ≡ Some point → (HasScope one point.scope × (point.points ≡ [])) ⊎ IsPublished one.value point.scope point.points
  by None is says = inr (is_published one.value point fits says)
  by (Some found) is says = inl (scope_is one found point is says)

whole_read : (one : Extension) (point : IssuingPoint) → HasScope one point.scope → point.points ≡ [] → (scope_in (body one.value) ≡ Some point.scope) × (whole_list point.scope ≡ point)
whole_read one point has whole = (scope_read one point.scope has, ap (λ (names : List (List ℕ)). point_of names point.scope) (sym whole))

-- the name of a point is another value than a flag
first_tag : List Place → ℕ
first_tag [] = 0
first_tag (value ∷ values) = tag value

flag_first : (at identifier : ℕ) → first_tag (members (record { octets = 0x30 ∷ 3 ∷ identifier ∷ 1 ∷ 0xFF ∷ []; at = at })).values ≡ identifier
unfolding members_at values ends front behind body_place first_tag
flag_first at identifier = refl

named_first : (value name : Place) (flags : List Place) (identifier : ℕ) → value.octets ≡ 0x30 ∷ 3 ∷ identifier ∷ 1 ∷ 0xFF ∷ [] → (members value).values ≡ name ∷ flags → tag name ≡ identifier
unfolding first_tag
named_first value name flags identifier e inside =
    let at : (members value).values ≡ (members (record { octets = 0x30 ∷ 3 ∷ identifier ∷ 1 ∷ 0xFF ∷ []; at = value.at })).values =
    ap (λ (octets : List ℕ). (members (record { octets = octets; at = value.at })).values) e in
    ap first_tag (sym inside ∙ at) ∙ flag_first value.at identifier

not_flag : (octet_string : Place) (scope : Scope) (points : List (List ℕ)) (identifier : ℕ) → IsPublished octet_string scope points → body octet_string ≡ 0x30 ∷ 3 ∷ identifier ∷ 1 ∷ 0xFF ∷ [] → identifier ≡ 0xA0
unfolding body_place contents
not_flag octet_string scope points identifier is e =
    sym (named_first (body_place octet_string) is.name is.flags identifier e is.members_are) ∙ is.full_name.explicit

unscoped : (a b : Bool) (octet_string : Place) (scope : Scope) (points : List (List ℕ)) → IsPublished octet_string scope points → bytes_eq (body octet_string) user_certificates ≡ a → bytes_eq (body octet_string) ca_certificates ≡ b → (if a then Some S.User else (if b then Some S.Ca else None)) ≡ None
unscoped true b octet_string scope points is user ca =
    let same : ◌≡◌ {A = ℕ} 0x81 0xA0 = not_flag octet_string scope points 0x81 is ((bytes_eq-Decides (body octet_string) user_certificates).0 user) in absurd (omega (arith, same))
unscoped false true octet_string scope points is user ca =
    let same : ◌≡◌ {A = ℕ} 0x82 0xA0 = not_flag octet_string scope points 0x82 is ((bytes_eq-Decides (body octet_string) ca_certificates).0 ca) in absurd (omega (arith, same))
unscoped false false octet_string scope points is user ca = refl

no_scope : (octet_string : Place) (scope : Scope) (points : List (List ℕ)) → IsPublished octet_string scope points → scope_in (body octet_string) ≡ None
unfolding scope_in
no_scope octet_string scope points is =
    unscoped (bytes_eq (body octet_string) user_certificates) (bytes_eq (body octet_string) ca_certificates) octet_string scope points is refl refl

pub point_read : (profile : Profile) (one : Extension) (point : IssuingPoint) → AreOctets (body one.value) → HasIssuingPoint profile one point.scope point.points → issuing_point profile one.value ≡ Some point
point_read Stated one point fits has =
    let whole = whole_read one point has.0 has.1 in
    rw (whole.0) (ap (λ (p : IssuingPoint). Some p) whole.1)
point_read Wide one point fits (inl has) =
    let whole = whole_read one point has.0 has.1 in
    rw (whole.0) (ap (λ (p : IssuingPoint). Some p) whole.1)
point_read Wide one point fits (inr is) =
    rw (no_scope one.value point.scope point.points is) (published_is one.value point is)

pub issuing_point_is_exact : IssuingPointIsExact
issuing_point_is_exact profile one scope points fits =
    let point : IssuingPoint = record { scope = scope; points = points } in
    (point_ok profile one point fits, point_read profile one point fits)
