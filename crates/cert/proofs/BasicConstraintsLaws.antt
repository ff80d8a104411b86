-- The walk of basic constraints finds what the standard calls them, and nothing else.
use Rattle.std.proofs.Common.{◌≡◌, min, pos, ℕ, Bool, true, false, List, [], ◌∷◌, ◌++◌, Option, Some, None, Ok, refl, sym, ap, ◌∙◌, subst}
use Rattle.asn.specs.DerLaws.{AreOctets}
use Rattle.asn.specs.Place.{Place, tag, body, body_place}
use Rattle.asn.specs.Members.{Members, members, begins, begins_in}
use Rattle.asn.specs.Walk.{optional}
use Rattle.asn.specs.Integer.{binary_value, integer_value}
use Rattle.asn.proofs.Laws.{bind_ok, ok_is, is_a_ok, is_a_again, default_false_ok, default_false_again, TakesOptional, optional_is, optional_there, optional_absent, ended_ok, ended_again}
use Rattle.cert.specs.declared.fault.CertRule.{CertRule}
use Rattle.cert.specs.declared.fault.CertRule.TheVariants.{ExtensionValue}
use Rattle.cert.specs.BasicConstraints.{BasicConstraints, is_negative, saturated, path_length_in, path_length, basic_constraints, IsPathLength, IsBasicConstraints}
use Rattle.cert.proofs.ContainedValues.{contained_ok, contained_again}
use Rattle.cert.proofs.AddedItems.{none_behind}
use Rattle.cert.proofs.PathLengths.{value_of_clear, clear_of_value, AllOctets, contents_octets, members_octets, last_octets}

saturated_is : (octets : List ℕ) → Some (saturated octets) ≡ Some (min (binary_value octets) 4294967295)
unfolding saturated
saturated_is octets = refl

-- a path length is the next value, or nothing
pub record TakesPathLength (left : Members) (number : Option ℕ) (others : Members) : Type 0 where
  pub numbers : List Place
  pub values : left.values ≡ numbers ++ others.values
  pub is_length : IsPathLength numbers number

of_number : (left : Members) (found : Option Place) (others : Members) (x : Option ℕ × Members) → TakesOptional 0x02 left found others → path_length_in found others ≡ Ok x → TakesPathLength left x.0 x.1
of_number left None others x took e =
    let P : Option ℕ × Members → Type 0 = λ y. TakesPathLength left y.0 y.1 in
    subst P (ok_is {E = CertRule × ℕ} (None, others) x e) record { numbers = []; values = sym (ap (λ (m : Members). m.values) took.0); is_length = refl }
of_number left (Some number) others x took e = by (is_negative (body number)) refl e where
  by : (b : Bool) → is_negative (body number) ≡ b → path_length_in (Some number) others ≡ Ok x → TakesPathLength left x.0 x.1
  by true is e = let e = rw is at e in absurd cc
  by false is e =
      let P : Option ℕ × Members → Type 0 = λ y. TakesPathLength left y.0 y.1 in
      let e = rw is at e in
      let same : (Some (saturated (body number)), others) ≡ x = cc in
      subst P same record { numbers = number ∷ []; values = took.values; is_length = record { number = binary_value (body number); integer = took.tag_is; value_is = value_of_clear (body number) is; length_is = saturated_is (body number) } }

path_length_ok : (left : Members) (x : Option ℕ × Members) → path_length left ≡ Ok x → TakesPathLength left x.0 x.1
unfolding path_length
path_length_ok left x e = of_number left (optional 0x02 left).0 (optional 0x02 left).1 x (optional_is 0x02 left) e

saturated_again : (octets : List ℕ) (number : ℕ) → is_negative octets ≡ false → integer_value octets ≡ pos number → saturated octets ≡ min number 4294967295
unfolding saturated
saturated_again octets number clear value =
    let same : pos (binary_value octets) ≡ pos number = sym (value_of_clear octets clear) ∙ value in
    let same : binary_value octets ≡ number = cc in
    ap (λ (n : ℕ). min n 4294967295) same

-- where nothing stands behind it
path_length_again : (left : Members) (numbers : List Place) (number : Option ℕ) → AllOctets numbers → left.values ≡ numbers → IsPathLength numbers number → path_length left ≡ Ok (number, record { values = []; end = left.end })
unfolding path_length begins
path_length_again left [] number octets e is = rw (optional_absent 0x02 left (ap (begins_in 0x02) e), is, ← e) refl
path_length_again left (value ∷ []) number octets e is =
    let clear = clear_of_value (body value) is.number (contents_octets value octets.0) is.value_is in
    rw (optional_there 0x02 left value [] e is.integer, clear, saturated_again (body value) is.number clear is.value_is, is.length_is) refl
path_length_again left (value ∷ other ∷ values) number octets e is = absurd is

-- nor does it begin with a BOOLEAN
no_flag : (numbers : List Place) (number : Option ℕ) → IsPathLength numbers number → begins_in 0x01 numbers ≡ false
no_flag [] number is = refl
no_flag (value ∷ []) number is = rw is.integer refl
no_flag (value ∷ other ∷ values) number is = absurd is

pub are_basic_constraints : (octet_string : Place) (fields : BasicConstraints) → AreOctets (body octet_string) → basic_constraints octet_string ≡ Ok fields → IsBasicConstraints octet_string fields
unfolding basic_constraints
are_basic_constraints octet_string fields fits e =
    let value = bind_ok _ _ fields e in
    let sequence = bind_ok _ _ fields value.2 in
    let ca = bind_ok _ _ fields sequence.2 in
    let number = bind_ok _ _ fields ca.2 in
    let done = bind_ok _ _ fields number.2 in
    let held = contained_ok octet_string value.0 fits value.1 in
    let flag = default_false_ok _ _ _ ca.1 in
    let last = path_length_ok _ _ number.1 in
    let end = ended_ok _ _ _ done.1 in
    subst (IsBasicConstraints octet_string) (ok_is {E = CertRule × ℕ} _ fields done.2) record {
      whole = held.1;
      flags = flag.flags;
      numbers = last.numbers;
      sequence = subst (λ (p : Place). tag p ≡ 0x30) held.0 (is_a_ok _ _ _ _ sequence.1);
      members_are = ap (λ (p : Place). (members p).values) (sym held.0) ∙ flag.values ∙ ap (λ (vs : List Place). flag.flags ++ vs) (last.values ∙ none_behind last.numbers number.0.1.values end);
      ca = flag.is_flag;
      path_length = last.is_length;
    }

pub basic_constraints_are : (octet_string : Place) (fields : BasicConstraints) → AreOctets (body octet_string) → IsBasicConstraints octet_string fields → basic_constraints octet_string ≡ Ok fields
unfolding basic_constraints
basic_constraints_are octet_string fields fits is =
    let inner : Members = members (body_place octet_string) in
    let left : List Place → Members = λ values. record { values = values; end = inner.end } in
    let octets = last_octets is.flags is.numbers (subst AllOctets is.members_are (members_octets octet_string fits)) in
    rw (contained_again octet_string is.whole, is_a_again 0x30 ExtensionValue (body_place octet_string) is.sequence, default_false_again ExtensionValue inner is.flags is.numbers fields.ca is.members_are is.ca (no_flag is.numbers fields.path_length is.path_length), path_length_again (left is.numbers) is.numbers fields.path_length octets refl is.path_length, ended_again ExtensionValue (left []) refl) refl
