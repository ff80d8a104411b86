-- The walk of an algorithm identifier finds what the standard calls one, and nothing else.
use Rattle.std.proofs.Common.{◌≡◌, ℕ, Ok, refl, sym, ap, ◌∙◌, subst}
use Rattle.asn.specs.Value.{Value, primitive, constructed, more}
use Rattle.asn.specs.Place.{Place}
use Rattle.asn.specs.Members.{Members, members}
use Rattle.asn.specs.Walk.{any}
use Rattle.asn.specs.Layout.{IsEncodingOf}
use Rattle.asn.proofs.Laws.{bind_ok, ok_is, is_a_ok, is_a_again, required_ok, required_again, any_ok, any_again, ended_ok, ended_again, as_constructed, as_more, as_primitive, as_at_most_one, of_constructed, of_more, of_primitive, of_at_most_one}
use Rattle.cert.specs.AlgorithmIdentifier.{AlgorithmIdentifier, algorithm_identifier, IsAlgorithmIdentifier, HasAlgorithmLayout}

pub is_algorithm : {F : Type 0} (layout : F) (value : Place) (fields : AlgorithmIdentifier) → algorithm_identifier layout value ≡ Ok fields → IsAlgorithmIdentifier value fields
unfolding algorithm_identifier
is_algorithm {F = F} layout value fields e =
    let sequence = bind_ok _ _ fields e in
    let oid = bind_ok _ _ fields sequence.2 in
    let done = bind_ok _ _ fields oid.2 in
    let took = required_ok _ _ _ _ oid.1 in
    subst (IsAlgorithmIdentifier value) (ok_is {E = F × ℕ} _ fields done.2) record {
      algorithm = oid.0.0;
      parameters = oid.0.1.values;
      sequence = is_a_ok _ _ _ _ sequence.1;
      members_are = took.values;
      identifier = took.tag_is;
      optional = any_ok oid.0.1 (ended_ok _ _ _ done.1);
      whole = refl;
      oid = refl;
    }

pub algorithm_is : {F : Type 0} (layout : F) (value : Place) (fields : AlgorithmIdentifier) → IsAlgorithmIdentifier value fields → algorithm_identifier layout value ≡ Ok fields
unfolding algorithm_identifier
algorithm_is layout value fields is =
    let rest : Members = record { values = is.parameters; end = (members value).end } in
    rw (is_a_again 0x30 layout value is.sequence, required_again 0x06 layout (members value) is.algorithm is.parameters is.members_are is.identifier, ended_again layout (any rest).1 (any_again rest is.optional), ← is.whole, ← is.oid) refl

pub has_algorithm : (value : Value) (place : Place) (fields : AlgorithmIdentifier) → IsEncodingOf value place → IsAlgorithmIdentifier place fields → HasAlgorithmLayout value fields.oid
has_algorithm value place fields encoded is =
    let inside = as_constructed encoded is.sequence refl in
    let first = as_more inside.2 is.members_are in
    let oid = as_primitive first.3 is.identifier refl in
    record {
      parameters = first.1;
      sequence = inside.1 ∙ ap (constructed 0x30) (first.2 ∙ ap (λ v. more v first.1) (oid ∙ ap (primitive 0x06) (sym is.oid)));
      optional = as_at_most_one first.4 is.optional;
    }

pub algorithm_has : (value : Value) (place : Place) (fields : AlgorithmIdentifier) → IsEncodingOf value place → fields.value ≡ place → HasAlgorithmLayout value fields.oid → IsAlgorithmIdentifier place fields
algorithm_has value place fields encoded whole has =
    let inside = of_constructed encoded has.sequence in
    let first = of_more inside.1 refl in
    let oid = of_primitive first.3 refl in
    record {
      algorithm = first.0;
      parameters = first.1;
      sequence = inside.0;
      members_are = first.2;
      identifier = oid.0;
      optional = of_at_most_one first.4 has.optional;
      whole = whole;
      oid = sym oid.1;
    }
