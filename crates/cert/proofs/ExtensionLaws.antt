-- The walk of an extension finds what the standard calls one, and nothing else.
use Rattle.std.proofs.Common.{◌≡◌, ℕ, Bool, false, List, [], ◌∷◌, ◌++◌, Ok, refl, sym, ap, ◌∙◌, subst}
use Rattle.asn.specs.Value.{Value, primitive, constructed, none, more}
use Rattle.asn.specs.Place.{Place, tag, body}
use Rattle.asn.specs.Members.{Members, members, begins_in}
use Rattle.asn.specs.Layout.{IsEncodingOf, with_default_false}
use Rattle.asn.proofs.Laws.{bind_ok, ok_is, is_a_ok, is_a_again, required_ok, required_again, default_false_ok, default_false_again, ended_ok, ended_again, as_constructed, as_more, as_none, as_primitive, as_default_false, of_constructed, of_more, of_none, of_primitive, of_default_false}
use Rattle.cert.specs.Extension.{Extension, extension, IsExtension, extension_of, ShowsExtension}

pub is_extension : {F : Type 0} (layout : F) (value : Place) (fields : Extension) → extension layout value ≡ Ok fields → IsExtension value fields
unfolding extension
is_extension {F = F} layout value fields e =
    let sequence = bind_ok _ _ fields e in
    let oid = bind_ok _ _ fields sequence.2 in
    let critical = bind_ok _ _ fields oid.2 in
    let content = bind_ok _ _ fields critical.2 in
    let done = bind_ok _ _ fields content.2 in
    let first = required_ok _ _ _ _ oid.1 in
    let flag = default_false_ok _ _ _ critical.1 in
    let last = required_ok _ _ _ _ content.1 in
    let end = ended_ok _ _ _ done.1 in
    subst (IsExtension value) (ok_is {E = F × ℕ} _ fields done.2) record {
      id = oid.0.0;
      flags = flag.flags;
      sequence = is_a_ok _ _ _ _ sequence.1;
      members_are = first.values ∙ ap (◌∷◌ oid.0.0) (flag.values ∙ ap (◌++◌ flag.flags) (last.values ∙ ap (◌∷◌ content.0.0) end));
      identifier = first.tag_is;
      critical = flag.is_flag;
      octet_string = last.tag_is;
      whole = refl;
      oid = refl;
    }

no_flag : (value : Place) → tag value ≡ 0x04 → begins_in 0x01 (value ∷ []) ≡ false
no_flag value is = rw is refl

pub extension_is : {F : Type 0} (layout : F) (value : Place) (fields : Extension) → IsExtension value fields → extension layout value ≡ Ok fields
unfolding extension
extension_is layout value fields is =
    let left : List Place → Members = λ values. record { values = values; end = (members value).end } in
    let content = fields.value ∷ [] in
    rw (is_a_again 0x30 layout value is.sequence, required_again 0x06 layout (members value) is.id (is.flags ++ content) is.members_are is.identifier, default_false_again layout (left (is.flags ++ content)) is.flags content fields.critical refl is.critical (no_flag fields.value is.octet_string), required_again 0x04 layout (left content) fields.value [] refl is.octet_string, ended_again layout (left []) refl, ← is.whole, ← is.oid) refl

pub as_extension : {value : Value} {place : Place} {fields : Extension} → IsEncodingOf value place → IsExtension place fields → value ≡ extension_of fields.oid fields.critical (body fields.value)
as_extension {fields = fields} encoded is =
    let inside = as_constructed encoded is.sequence refl in
    let first = as_more inside.2 is.members_are in
    let flag = as_default_false fields.critical is.flags first.4 refl is.critical in
    let last = as_more flag.2 refl in
    let oid = as_primitive first.3 is.identifier refl ∙ ap (primitive 0x06) (sym is.oid) in
    let content = as_primitive last.3 is.octet_string refl in
    inside.1 ∙ ap (constructed 0x30) (first.2 ∙ ap (λ v. more v first.1) oid ∙ ap (more (primitive 0x06 fields.oid)) (flag.1 ∙ ap (with_default_false fields.critical) (last.2 ∙ ap (λ v. more v last.1) content ∙ ap (more (primitive 0x04 (body fields.value))) (as_none last.4 refl))))

pub of_extension : {value : Value} {place : Place} (oid : List ℕ) (critical : Bool) (contents : List ℕ) → IsEncodingOf value place → value ≡ extension_of oid critical contents → (fields : Extension) × IsExtension place fields × ShowsExtension fields oid critical contents
of_extension {place = place} oid critical contents encoded e =
    let inside = of_constructed encoded e in
    let first = of_more inside.1 refl in
    let flag = of_default_false critical (more (primitive 0x04 contents) none) first.4 refl in
    let last = of_more flag.4 refl in
    let id = of_primitive first.3 refl in
    let content = of_primitive last.3 refl in
    let fields : Extension = record { whole = place; oid = oid; critical = critical; value = last.0 } in (
      fields,
      record {
        id = first.0;
        flags = flag.0;
        sequence = inside.0;
        members_are = first.2 ∙ ap (◌∷◌ first.0) (flag.2 ∙ ap (◌++◌ flag.0) (last.2 ∙ ap (◌∷◌ last.0) (of_none last.4 refl)));
        identifier = id.0;
        critical = flag.3;
        octet_string = content.0;
        whole = refl;
        oid = sym id.1;
      },
      record { oid_is = refl; critical_is = refl; contents_are = content.1 },
    )

pub shown : (fields : Extension) (oid : List ℕ) (critical : Bool) (contents : List ℕ) → ShowsExtension fields oid critical contents → extension_of fields.oid fields.critical (body fields.value) ≡ extension_of oid critical contents
shown fields oid critical contents shows = ap (λ o. extension_of o fields.critical (body fields.value)) shows.oid_is ∙ ap (λ b. extension_of oid b (body fields.value)) shows.critical_is ∙ ap (extension_of oid critical) shows.contents_are
