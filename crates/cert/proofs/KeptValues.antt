-- Values that are kept, and where they stand.
use Rattle.std.proofs.Common.{◌≡◌, ◌↔◌, ◌==◌, ℕ, Bool, true, false, List, Option, Some, None, Result, Ok, if◌then◌else◌, refl, sym, subst}
use Rattle.asn.specs.Place.{Place}
use Rattle.asn.proofs.Laws.{IsEncodedPart, ok_is}
use Rattle.cert.specs.declared.extension_kind.ExtensionKind.{ExtensionKind}
use Rattle.cert.specs.declared.extension_kind.ExtensionKind.TheVariants as Kind
use Rattle.cert.specs.declared.fault.CertRule.{CertRule}
use Rattle.cert.specs.ExtensionValues.{ExtensionValues, SaysIfThere, kept, kept_if, kind_number, no_values, read_if_there, value_of}

-- each of them stands in the text
abbrev pub AllStand : List ℕ → ExtensionValues → Type 0
AllStand text values = (kind : ExtensionKind) (value : Place) → value_of kind values ≡ Some value → IsEncodedPart text value

the_value : (one other : Place) → Some one ≡ Some other → one ≡ other
the_value one other same = cc

pub none_stand : (text : List ℕ) → AllStand text no_values
none_stand text Kind.KeyUsage value is = absurd cc
none_stand text Kind.AlternativeNames value is = absurd cc
none_stand text Kind.BasicConstraints value is = absurd cc
none_stand text Kind.NameConstraints value is = absurd cc
none_stand text Kind.DistributionPoints value is = absurd cc
none_stand text Kind.Policies value is = absurd cc
none_stand text Kind.PolicyMappings value is = absurd cc
none_stand text Kind.PolicyConstraints value is = absurd cc
none_stand text Kind.Purposes value is = absurd cc
none_stand text Kind.InhibitAnyPolicy value is = absurd cc
none_stand text Kind.NoCheck value is = absurd cc
none_stand text Kind.Other value is = absurd cc

module _ (text : List ℕ) (said : ExtensionKind) (new : Place) (stands : IsEncodedPart text new) where
  kept_stands : (kind : ExtensionKind) (before : Option Place) (value : Place) → ((value : Place) → before ≡ Some value → IsEncodedPart text value)
      → kept_if kind said new before ≡ Some value → IsEncodedPart text value
  kept_stands kind before value stood = by (kind_number said == kind_number kind)
    where
      by : (same : Bool) → (if same then Some new else before) ≡ Some value → IsEncodedPart text value
      by true is = subst (IsEncodedPart text) (the_value new value is) stands
      by false is = stood value is

  pub all_kept : (before : ExtensionValues) → AllStand text before → AllStand text (kept said new before)
  all_kept before stood Kind.KeyUsage value is = kept_stands Kind.KeyUsage before.key_usage value (stood Kind.KeyUsage) is
  all_kept before stood Kind.AlternativeNames value is = kept_stands Kind.AlternativeNames before.alternative_names value (stood Kind.AlternativeNames) is
  all_kept before stood Kind.BasicConstraints value is = kept_stands Kind.BasicConstraints before.basic_constraints value (stood Kind.BasicConstraints) is
  all_kept before stood Kind.NameConstraints value is = kept_stands Kind.NameConstraints before.name_constraints value (stood Kind.NameConstraints) is
  all_kept before stood Kind.DistributionPoints value is = kept_stands Kind.DistributionPoints before.distribution_points value (stood Kind.DistributionPoints) is
  all_kept before stood Kind.Policies value is = kept_stands Kind.Policies before.policies value (stood Kind.Policies) is
  all_kept before stood Kind.PolicyMappings value is = kept_stands Kind.PolicyMappings before.policy_mappings value (stood Kind.PolicyMappings) is
  all_kept before stood Kind.PolicyConstraints value is = kept_stands Kind.PolicyConstraints before.policy_constraints value (stood Kind.PolicyConstraints) is
  all_kept before stood Kind.Purposes value is = kept_stands Kind.Purposes before.purposes value (stood Kind.Purposes) is
  all_kept before stood Kind.InhibitAnyPolicy value is = kept_stands Kind.InhibitAnyPolicy before.inhibit_any_policy value (stood Kind.InhibitAnyPolicy) is
  all_kept before stood Kind.NoCheck value is = absurd cc
  all_kept before stood Kind.Other value is = absurd cc

-- what is read of a value that may be there is what it says, if that is so where it is there
module _ {X : Type 0} (Says : Place → X → Type 0) (read : Place → Result X (CertRule × ℕ)) (nothing field : X) where
  pub says_if_there : (value : Option Place) → ((there : Place) → value ≡ Some there → (read there ≡ Ok field) ↔ Says there field)
      → (read_if_there nothing read value ≡ Ok field) ↔ SaysIfThere value Says nothing field
  says_if_there None exact =
      (λ e. sym (ok_is {E = CertRule × ℕ} nothing field e), λ same. subst (λ (x : X). ◌≡◌ {A = Result X (CertRule × ℕ)} (Ok nothing) (Ok x)) (sym same) refl)
  says_if_there (Some there) exact = exact there refl
