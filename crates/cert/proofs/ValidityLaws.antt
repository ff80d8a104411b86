-- The walk of a validity finds what the standard calls one, and nothing else.
use Rattle.std.proofs.Common.{◌≡◌, ℕ, List, [], ◌∷◌, Ok, refl, ap, ◌∙◌, subst}
use Rattle.asn.specs.Value.{Value, constructed, more}
use Rattle.asn.specs.Place.{Place}
use Rattle.asn.specs.Members.{Members, members}
use Rattle.asn.specs.Layout.{IsEncodingOf}
use Rattle.asn.proofs.Laws.{bind_ok, ok_is, is_a_ok, is_a_again, time_ok, time_again, as_time, of_time, ended_ok, ended_again, as_constructed, as_more, as_none, of_constructed, of_more, of_none}
use Rattle.cert.specs.declared.fault.CertRule.{CertRule}
use Rattle.cert.specs.declared.fault.CertRule.TheVariants.{Layout, Time}
use Rattle.cert.specs.Validity.{Validity, validity, IsValidity, HasValidityLayout}

pub is_validity : (value : Place) (fields : Validity) → validity value ≡ Ok fields → IsValidity value fields
unfolding validity
is_validity value fields e =
    let sequence = bind_ok _ _ fields e in
    let before = bind_ok _ _ fields sequence.2 in
    let after = bind_ok _ _ fields before.2 in
    let done = bind_ok _ _ fields after.2 in
    let first = time_ok _ _ _ before.0 before.1 in
    let second = time_ok _ _ _ after.0 after.1 in
    let none_left = ended_ok _ _ _ done.1 in
    subst (IsValidity value) (ok_is {E = CertRule × ℕ} _ fields done.2) record {
      first = first.0;
      second = second.0;
      sequence = is_a_ok _ _ _ _ sequence.1;
      members_are = first.1.next.values ∙ ap (◌∷◌ first.0) (second.1.next.values ∙ ap (◌∷◌ second.0) none_left);
      not_before = first.1.is_time;
      not_after = second.1.is_time;
    }

pub validity_is : (value : Place) (fields : Validity) → IsValidity value fields → validity value ≡ Ok fields
unfolding validity
validity_is value fields is =
    let left : List Place → Members = λ values. record { values = values; end = (members value).end } in
    rw (is_a_again 0x30 Layout value is.sequence, time_again Layout Time (members value) is.first (is.second ∷ []) fields.not_before is.members_are is.not_before, time_again Layout Time (left (is.second ∷ [])) is.second [] fields.not_after refl is.not_after, ended_again Layout (left []) refl) refl

pub has_validity : (value : Value) (place : Place) (fields : Validity) → IsEncodingOf value place → IsValidity place fields → HasValidityLayout value fields
has_validity value place fields encoded is =
    let inside = as_constructed encoded is.sequence refl in
    let first = as_more inside.2 is.members_are in
    let second = as_more first.4 refl in
    let end = as_none second.4 refl in
    record {
      first = first.0;
      second = second.0;
      sequence = inside.1 ∙ ap (constructed 0x30) (first.2 ∙ ap (more first.0) (second.2 ∙ ap (more second.0) end));
      not_before = as_time first.3 is.not_before;
      not_after = as_time second.3 is.not_after;
    }

pub validity_has : (value : Value) (place : Place) (fields : Validity) → IsEncodingOf value place → HasValidityLayout value fields → IsValidity place fields
validity_has value place fields encoded has =
    let inside = of_constructed encoded has.sequence in
    let first = of_more inside.1 refl in
    let second = of_more first.4 refl in
    let end = of_none second.4 refl in
    record {
      first = first.0;
      second = second.0;
      sequence = inside.0;
      members_are = first.2 ∙ ap (◌∷◌ first.0) (second.2 ∙ ap (◌∷◌ second.0) end);
      not_before = of_time first.3 has.not_before;
      not_after = of_time second.3 has.not_after;
    }
