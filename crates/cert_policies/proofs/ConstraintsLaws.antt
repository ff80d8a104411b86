-- The walk of policy constraints finds what the standard calls them, and nothing else.
use Rattle.std.proofs.Common.{◌≡◌, ◌≢◌, ℕ, ◌&&◌, Bool, true, false, not, min, List, [], ◌∷◌, ◌++◌, append-nil, Option, Some, None, Ok, refl, sym, ap, ◌∙◌, subst}
use Rattle.std.specs.List.{AllByRecursion}
use Rattle.asn.specs.DerLaws.{AreOctets}
use Rattle.asn.specs.Integer.{binary_value}
use Rattle.asn.specs.Place.{Place, tag, body, body_place}
use Rattle.asn.specs.Members.{Members, members, begins, begins_in}
use Rattle.asn.specs.Walk.{optional}
use Rattle.asn.proofs.Laws.{bind_ok, ok_is, is_a_ok, is_a_again, check_ok, check_again, TakesOptional, optional_is, optional_there, optional_absent, some_ok, some_again, ended_ok, ended_again, body_octets, members_octets}
use Rattle.cert.specs.declared.fault.CertRule.{CertRule}
use Rattle.cert.specs.declared.fault.CertRule.TheVariants.{ExtensionValue}
use Rattle.cert.specs.BasicConstraints.{is_negative, saturated}
use Rattle.cert_policies.specs.Number.{is_shortest}
use Rattle.cert_policies.specs.PolicyConstraints.{PolicyConstraints, is_skip_count, skip_count, skip_certs_in, skip_certs, policy_constraints, IsSkipCerts, AreSkipCerts, ArePolicyConstraints}
use Rattle.cert_policies.proofs.ContainedValues.{contained_ok, contained_again, inner_octets}
use Rattle.cert_policies.proofs.Places.{Octets, all_behind}
use Rattle.cert_policies.proofs.Numbers.{value_of_clear, clear_of_value, saturated_is, saturated_again, integer_of_shortest, shortest_of_integer}

both : (x y : Bool) → (x && not y) ≡ true → (x ≡ true) × (y ≡ false)
both true true e = absurd cc
both true false e = (refl, refl)
both false y e = absurd cc

-- the number under a tag
count_ok : (identifier : ℕ) (value : Place) (count : ℕ) → tag value ≡ identifier → skip_count value ≡ Ok count → IsSkipCerts identifier value (Some count)
unfolding skip_count
count_ok identifier value count is e =
    let checked = bind_ok _ _ count e in
    let parts = both (is_shortest (body value)) (is_negative (body value)) (check_ok _ _ _ _ checked.1) in
    let same : saturated (body value) ≡ count = ok_is {E = CertRule × ℕ} _ count checked.2 in
    record {
      number = binary_value (body value);
      tagged = is;
      integer = integer_of_shortest (body value) parts.0;
      value_is = value_of_clear (body value) parts.1;
      count_is = ap (λ (n : ℕ). Some n) (sym same ∙ saturated_is (body value));
    }

count_again : (identifier : ℕ) (value : Place) (count : Option ℕ) → AreOctets value.octets → (is : IsSkipCerts identifier value count) → skip_count value ≡ Ok (min is.number 4294967295)
unfolding skip_count
count_again identifier value count fits is =
    let clear = clear_of_value (body value) is.number (body_octets value fits) is.value_is in
    let checked : is_skip_count (body value) ≡ true = rw (shortest_of_integer (body value) is.integer, clear) refl in
    rw (check_again (is_skip_count (body value)) ExtensionValue value.at checked, saturated_again (body value) is.number clear is.value_is) refl

-- SkipCerts OPTIONAL
record TakesSkipCerts (identifier : ℕ) (left : Members) (count : Option ℕ) (others : Members) : Type 0 where
  taken : List Place
  values : left.values ≡ taken ++ others.values
  are : AreSkipCerts identifier taken count

of_optional : (identifier : ℕ) (left : Members) (found : Option Place) (others : Members) (x : Option ℕ × Members) → TakesOptional identifier left found others → skip_certs_in found others ≡ Ok x → TakesSkipCerts identifier left x.0 x.1
of_optional identifier left None others x took e =
    let P : Option ℕ × Members → Type 0 = λ y. TakesSkipCerts identifier left y.0 y.1 in
    subst P (ok_is {E = CertRule × ℕ} (None, others) x e) record { taken = []; values = sym (ap (λ (m : Members). m.values) took.0); are = refl }
of_optional identifier left (Some value) others x took e =
    let count = bind_ok _ _ x e in
    let P : Option ℕ × Members → Type 0 = λ y. TakesSkipCerts identifier left y.0 y.1 in
    subst P (ok_is {E = CertRule × ℕ} (Some count.0, others) x count.2) record { taken = value ∷ []; values = took.values; are = count_ok identifier value count.0 took.tag_is count.1 }

skip_certs_ok : (identifier : ℕ) (left : Members) (x : Option ℕ × Members) → skip_certs identifier left ≡ Ok x → TakesSkipCerts identifier left x.0 x.1
unfolding skip_certs
skip_certs_ok identifier left x e = of_optional identifier left (optional identifier left).0 (optional identifier left).1 x (optional_is identifier left) e

skip_certs_again : (identifier : ℕ) (left : Members) (taken others : List Place) (count : Option ℕ) → AllByRecursion Octets left.values → left.values ≡ taken ++ others → AreSkipCerts identifier taken count → begins_in identifier others ≡ false
    → skip_certs identifier left ≡ Ok (count, record { values = others; end = left.end })
unfolding skip_certs begins
skip_certs_again identifier left [] others count fits e are none = rw (optional_absent identifier left (ap (begins_in identifier) e ∙ none), are, ← e) refl
skip_certs_again identifier left (value ∷ []) others count fits e are none =
    let here = (subst (AllByRecursion Octets) e fits).0 in
    rw (optional_there identifier left value others e are.tagged, count_again identifier value count here are, are.count_is) refl
skip_certs_again identifier left (value ∷ other ∷ taken) others count fits e are none = absurd are

no_explicit : (mappings : List Place) (count : Option ℕ) → AreSkipCerts 0x81 mappings count → begins_in 0x80 mappings ≡ false
no_explicit [] count are = refl
no_explicit (value ∷ []) count are = rw are.tagged refl
no_explicit (value ∷ other ∷ values) count are = absurd are

pub are_constraints : (octet_string : Place) (fields : PolicyConstraints) → AreOctets (body octet_string) → policy_constraints octet_string ≡ Ok fields → ArePolicyConstraints octet_string fields
unfolding policy_constraints
are_constraints octet_string fields fits e =
    let value = bind_ok _ _ fields e in
    let sequence = bind_ok _ _ fields value.2 in
    let one = bind_ok _ _ fields sequence.2 in
    let explicit = bind_ok _ _ fields one.2 in
    let mapping = bind_ok _ _ fields explicit.2 in
    let done = bind_ok _ _ fields mapping.2 in
    let held = contained_ok octet_string value.0 fits value.1 in
    let some = some_ok _ _ _ one.1 in
    let first = skip_certs_ok 0x80 (members value.0) explicit.0 explicit.1 in
    let second = skip_certs_ok 0x81 explicit.0.1 mapping.0 mapping.1 in
    let end = ended_ok _ _ _ done.1 in
    let inside : (members (body_place octet_string)).values ≡ (members value.0).values = ap (λ (p : Place). (members p).values) (sym held.0) in
    subst (ArePolicyConstraints octet_string) (ok_is {E = CertRule × ℕ} _ fields done.2) record {
      whole = held.1;
      explicits = first.taken;
      mappings = second.taken;
      sequence = subst (λ (p : Place). tag p ≡ 0x30) held.0 (is_a_ok _ _ _ _ sequence.1);
      members_are = inside ∙ first.values ∙ ap (λ (vs : List Place). first.taken ++ vs) (second.values ∙ ap (λ (vs : List Place). second.taken ++ vs) end ∙ append-nil second.taken);
      some = λ none. let no : some.0 ∷ some.1 ≡ [] = sym (inside ∙ some.2) ∙ none in absurd cc;
      require_explicit_policy = first.are;
      inhibit_policy_mapping = second.are;
    }

first_of : (values : List Place) → values ≢ [] → (value : Place) × (others : List Place) × (values ≡ value ∷ others)
first_of [] some = absurd (some refl)
first_of (value ∷ others) some = (value, others, refl)

pub constraints_are : (octet_string : Place) (fields : PolicyConstraints) → AreOctets (body octet_string) → ArePolicyConstraints octet_string fields → policy_constraints octet_string ≡ Ok fields
unfolding policy_constraints
constraints_are octet_string fields fits is =
    let inner : Members = members (body_place octet_string) in
    let left : List Place → Members = λ values. record { values = values; end = inner.end } in
    let octets = members_octets (body_place octet_string) (inner_octets octet_string fits) in
    let behind = all_behind Octets is.explicits is.mappings (subst (AllByRecursion Octets) is.members_are octets) in
    let first = first_of inner.values is.some in
    rw (
      contained_again octet_string is.whole,
      is_a_again 0x30 ExtensionValue (body_place octet_string) is.sequence,
      some_again ExtensionValue inner first.0 first.1 first.2,
      skip_certs_again 0x80 inner is.explicits is.mappings fields.require_explicit_policy octets is.members_are is.require_explicit_policy (no_explicit is.mappings fields.inhibit_policy_mapping is.inhibit_policy_mapping),
      skip_certs_again 0x81 (left is.mappings) is.mappings [] fields.inhibit_policy_mapping behind (sym (append-nil is.mappings)) is.inhibit_policy_mapping refl,
      ended_again ExtensionValue (left []) refl,
    ) refl
