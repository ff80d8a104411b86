-- The values of the extensions of a certificate, by their kinds (RFC 5280, 4.2.1).
use Rattle.std.specs.Prelude.{◌≡◌, ℕ, ◌==◌, Option, Some, None, Result, Ok, if◌then◌else◌}
use Rattle.asn.specs.Place.{Place, seen_tlv}
use Rattle.asn.specs.Walk.{seen}
use Rattle.cert.specs.declared.extension_kind.ExtensionKind.{ExtensionKind}
use Rattle.cert.specs.declared.extension_kind.ExtensionKind.TheVariants as Kind
use Rattle.cert.specs.declared.extension_values.ExtensionValues as code

-- the OCTET STRING of each extension whose kind has one type
pub record ExtensionValues : Type 0 where
  pub key_usage : Option Place
  pub alternative_names : Option Place
  pub basic_constraints : Option Place
  pub name_constraints : Option Place
  pub distribution_points : Option Place
  pub policies : Option Place
  pub policy_mappings : Option Place
  pub policy_constraints : Option Place
  pub purposes : Option Place
  pub inhibit_any_policy : Option Place

abbrev pub no_values : ExtensionValues
no_values = record {
  key_usage = None;
  alternative_names = None;
  basic_constraints = None;
  name_constraints = None;
  distribution_points = None;
  policies = None;
  policy_mappings = None;
  policy_constraints = None;
  purposes = None;
  inhibit_any_policy = None;
}

-- kinds are told apart by their numbers here
abbrev pub kind_number : ExtensionKind → ℕ
kind_number Kind.KeyUsage = 0
kind_number Kind.AlternativeNames = 1
kind_number Kind.BasicConstraints = 2
kind_number Kind.NameConstraints = 3
kind_number Kind.DistributionPoints = 4
kind_number Kind.Policies = 5
kind_number Kind.PolicyMappings = 6
kind_number Kind.PolicyConstraints = 7
kind_number Kind.Purposes = 8
kind_number Kind.InhibitAnyPolicy = 9
kind_number Kind.NoCheck = 10
kind_number Kind.Other = 11

-- the value of an extension of the second kind settles what is known of those of the first, if the two are one
abbrev pub kept_if : ExtensionKind → ExtensionKind → Place → Option Place → Option Place
kept_if kind said value before = if kind_number said == kind_number kind then Some value else before

-- what is known once an extension of that kind was read
abbrev pub kept : ExtensionKind → Place → ExtensionValues → ExtensionValues
kept said value before = record {
  key_usage = kept_if Kind.KeyUsage said value before.key_usage;
  alternative_names = kept_if Kind.AlternativeNames said value before.alternative_names;
  basic_constraints = kept_if Kind.BasicConstraints said value before.basic_constraints;
  name_constraints = kept_if Kind.NameConstraints said value before.name_constraints;
  distribution_points = kept_if Kind.DistributionPoints said value before.distribution_points;
  policies = kept_if Kind.Policies said value before.policies;
  policy_mappings = kept_if Kind.PolicyMappings said value before.policy_mappings;
  policy_constraints = kept_if Kind.PolicyConstraints said value before.policy_constraints;
  purposes = kept_if Kind.Purposes said value before.purposes;
  inhibit_any_policy = kept_if Kind.InhibitAnyPolicy said value before.inhibit_any_policy;
}

abbrev pub value_of : ExtensionKind → ExtensionValues → Option Place
value_of Kind.KeyUsage values = values.key_usage
value_of Kind.AlternativeNames values = values.alternative_names
value_of Kind.BasicConstraints values = values.basic_constraints
value_of Kind.NameConstraints values = values.name_constraints
value_of Kind.DistributionPoints values = values.distribution_points
value_of Kind.Policies values = values.policies
value_of Kind.PolicyMappings values = values.policy_mappings
value_of Kind.PolicyConstraints values = values.policy_constraints
value_of Kind.Purposes values = values.purposes
value_of Kind.InhibitAnyPolicy values = values.inhibit_any_policy
value_of Kind.NoCheck values = None
value_of Kind.Other values = None

-- what a value says if it is there, and what is so without one
abbrev pub read_if_there : {X F : Type 0} → X → (Place → Result X F) → Option Place → Result X F
read_if_there nothing read None = Ok nothing
read_if_there nothing read (Some value) = read value

-- The field is what the value says; without one, it is as without the extension.
abbrev pub SaysIfThere : {X : Type 0} → Option Place → (Place → X → Type 0) → X → X → Type 0
SaysIfThere None Says nothing field = field ≡ nothing
SaysIfThere (Some value) Says nothing field = Says value field

abbrev pub seen_values : code.ExtensionValues → ExtensionValues
seen_values read = record {
  key_usage = seen seen_tlv read.key_usage;
  alternative_names = seen seen_tlv read.alternative_names;
  basic_constraints = seen seen_tlv read.basic_constraints;
  name_constraints = seen seen_tlv read.name_constraints;
  distribution_points = seen seen_tlv read.distribution_points;
  policies = seen seen_tlv read.policies;
  policy_mappings = seen seen_tlv read.policy_mappings;
  policy_constraints = seen seen_tlv read.policy_constraints;
  purposes = seen seen_tlv read.purposes;
  inhibit_any_policy = seen seen_tlv read.inhibit_any_policy;
}
