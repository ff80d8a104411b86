-- The walk of inhibitAnyPolicy finds what the standard calls it, and nothing else.
use Rattle.std.proofs.Common.{◌≡◌, ℕ, false, not, Ok, refl, sym, ap, ◌∙◌, subst}
use Rattle.std.proofs.lemmas.Bool.{not-true}
use Rattle.asn.specs.DerLaws.{AreOctets}
use Rattle.asn.specs.Integer.{binary_value}
use Rattle.asn.specs.Place.{Place, tag, body, body_place}
use Rattle.asn.proofs.Laws.{bind_ok, ok_is, is_a_ok, is_a_again, check_ok, check_again, body_octets}
use Rattle.cert.specs.declared.fault.CertRule.{CertRule}
use Rattle.cert.specs.declared.fault.CertRule.TheVariants.{ExtensionValue}
use Rattle.cert.specs.BasicConstraints.{is_negative, saturated}
use Rattle.cert_policies.specs.InhibitAnyPolicy.{inhibit_any_policy, IsInhibitAnyPolicy}
use Rattle.cert_policies.proofs.ContainedValues.{contained_ok, contained_again, inner_octets}
use Rattle.cert_policies.proofs.Numbers.{value_of_clear, clear_of_value, saturated_is, saturated_again}

pub is_inhibit_any_policy : (octet_string : Place) (count : ℕ) → AreOctets (body octet_string) → inhibit_any_policy octet_string ≡ Ok count → IsInhibitAnyPolicy octet_string count
unfolding inhibit_any_policy
is_inhibit_any_policy octet_string count fits e =
    let value = bind_ok _ _ count e in
    let integer = bind_ok _ _ count value.2 in
    let done = bind_ok _ _ count integer.2 in
    let held = contained_ok octet_string value.0 fits value.1 in
    let clear : is_negative (body (body_place octet_string)) ≡ false = subst (λ (p : Place). is_negative (body p) ≡ false) held.0 (not-true (is_negative (body value.0)) (check_ok _ _ _ _ done.1)) in
    let same : saturated (body value.0) ≡ count = ok_is {E = CertRule × ℕ} _ count done.2 in
    record {
      whole = held.1;
      number = binary_value (body (body_place octet_string));
      integer = subst (λ (p : Place). tag p ≡ 0x02) held.0 (is_a_ok _ _ _ _ integer.1);
      value_is = value_of_clear (body (body_place octet_string)) clear;
      count_is = sym same ∙ ap (λ (p : Place). saturated (body p)) held.0 ∙ saturated_is (body (body_place octet_string));
    }

pub inhibit_any_policy_is : (octet_string : Place) (count : ℕ) → AreOctets (body octet_string) → IsInhibitAnyPolicy octet_string count → inhibit_any_policy octet_string ≡ Ok count
unfolding inhibit_any_policy
inhibit_any_policy_is octet_string count fits is =
    let inner = body (body_place octet_string) in
    let clear = clear_of_value inner is.number (body_octets (body_place octet_string) (inner_octets octet_string fits)) is.value_is in
    rw (contained_again octet_string is.whole, is_a_again 0x02 ExtensionValue (body_place octet_string) is.integer, check_again (not (is_negative inner)) ExtensionValue (body_place octet_string).at (ap not clear), saturated_again inner is.number clear is.value_is, ← is.count_is) refl
