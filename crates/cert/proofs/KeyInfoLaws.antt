-- The walk of a public key finds what the standard calls one, and nothing else.
use Rattle.std.proofs.Common.{◌≡◌, ℕ, List, [], ◌∷◌, Ok, refl, ap, ◌∙◌, subst}
use Rattle.asn.specs.Place.{Place}
use Rattle.asn.specs.Members.{Members, members}
use Rattle.asn.proofs.Laws.{bind_ok, ok_is, is_a_ok, is_a_again, required_ok, required_again, next_or_ok, next_or_again, ended_ok, ended_again}
use Rattle.cert.specs.declared.fault.CertRule.{CertRule}
use Rattle.cert.specs.declared.fault.CertRule.TheVariants.{Layout}
use Rattle.cert.specs.SubjectPublicKeyInfo.{SubjectPublicKeyInfo, key_info, IsSubjectPublicKeyInfo}
use Rattle.cert.proofs.AlgorithmLaws.{is_algorithm, algorithm_is}

pub is_key_info : (value : Place) (fields : SubjectPublicKeyInfo) → key_info value ≡ Ok fields → IsSubjectPublicKeyInfo value fields
unfolding key_info
is_key_info value fields e =
    let sequence = bind_ok _ _ fields e in
    let algorithm = bind_ok _ _ fields sequence.2 in
    let read = bind_ok _ _ fields algorithm.2 in
    let key = bind_ok _ _ fields read.2 in
    let done = bind_ok _ _ fields key.2 in
    let first = next_or_ok _ _ _ algorithm.1 in
    let last = required_ok _ _ _ _ key.1 in
    subst (IsSubjectPublicKeyInfo value) (ok_is {E = CertRule × ℕ} _ fields done.2) record {
      algorithm = algorithm.0.0;
      key = key.0.0;
      sequence = is_a_ok _ _ _ _ sequence.1;
      members_are = first.values ∙ ap (◌∷◌ algorithm.0.0) (last.values ∙ ap (◌∷◌ key.0.0) (ended_ok _ _ _ done.1));
      algorithm_is = is_algorithm _ _ _ read.1;
      bit_string = last.tag_is;
      whole = refl;
      bits = refl;
    }

pub key_info_is : (value : Place) (fields : SubjectPublicKeyInfo) → IsSubjectPublicKeyInfo value fields → key_info value ≡ Ok fields
unfolding key_info
key_info_is value fields is =
    let left : List Place → Members = λ values. record { values = values; end = (members value).end } in
    rw (is_a_again 0x30 Layout value is.sequence, next_or_again Layout (members value) is.algorithm (is.key ∷ []) is.members_are, algorithm_is Layout is.algorithm fields.algorithm is.algorithm_is, required_again 0x03 Layout (left (is.key ∷ [])) is.key [] refl is.bit_string, ended_again Layout (left []) refl, ← is.whole, ← is.bits) refl
