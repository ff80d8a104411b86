-- What an extension says is what its value is by its kind, in both directions.
use Rattle.std.proofs.Common.{◌≡◌, ℕ, Ok, true, refl, ap, subst}
use Rattle.asn.specs.DerLaws.{AreOctets}
use Rattle.asn.specs.Place.{Place, body}
use Rattle.asn.proofs.Laws.{bind_ok, ok_is}
use Rattle.cert.specs.declared.fault.CertRule.{CertRule}
use Rattle.cert.specs.declared.extension_kind.ExtensionKind.{ExtensionKind}
use Rattle.cert.specs.declared.extension_kind.ExtensionKind.TheVariants as Kind
use Rattle.cert.specs.Extension.{Extension}
use Rattle.cert.specs.Extensions.{Saying, key_usage_is, alternative_names_are, basic_constraints_are, name_constraints_are, purposes_are, policies_are_processed, need_not_be_checked, says_nothing, is_only_kept, is_policy_kind, kind_of_extension, saying_of}
use Rattle.cert.specs.ExtensionForms.{Says}
use Rattle.cert.proofs.KeyUsageLaws as usage
use Rattle.cert.proofs.AlternativeNamesLaws as names
use Rattle.cert.proofs.BasicConstraintsLaws as basic
use Rattle.cert.proofs.NameConstraintsLaws as constraints
use Rattle.cert.proofs.PurposesLaws as purposes

pub saying_ok : (e : Extension) (kind : ExtensionKind) (s : Saying) → AreOctets (body e.value) → kind_of_extension e.oid ≡ kind → saying_of kind e.value ≡ Ok s → Says e s
saying_ok e Kind.KeyUsage s fits is r =
    let read = bind_ok _ _ s r in
    subst (Says e) (ok_is {E = CertRule × ℕ} (key_usage_is read.0) s read.2) (is, usage.is_key_usage e.value read.0 fits read.1)
saying_ok e Kind.AlternativeNames s fits is r =
    let read = bind_ok _ _ s r in
    subst (Says e) (ok_is {E = CertRule × ℕ} (alternative_names_are read.0) s read.2) (is, names.are_alternative_names e.value read.0 fits read.1)
saying_ok e Kind.BasicConstraints s fits is r =
    let read = bind_ok _ _ s r in
    subst (Says e) (ok_is {E = CertRule × ℕ} (basic_constraints_are read.0) s read.2) (is, basic.are_basic_constraints e.value read.0 fits read.1)
saying_ok e Kind.NameConstraints s fits is r =
    let read = bind_ok _ _ s r in
    subst (Says e) (ok_is {E = CertRule × ℕ} (name_constraints_are read.0) s read.2) (is, constraints.are_name_constraints e.value read.0 fits read.1)
saying_ok e Kind.Purposes s fits is r =
    let read = bind_ok _ _ s r in
    subst (Says e) (ok_is {E = CertRule × ℕ} (purposes_are read.0) s read.2) (is, purposes.are_purposes e.value read.0 fits read.1)
saying_ok e Kind.DistributionPoints s fits is r = subst (Says e) (ok_is {E = CertRule × ℕ} says_nothing s r) (ap is_only_kept is)
saying_ok e Kind.Policies s fits is r = subst (Says e) (ok_is {E = CertRule × ℕ} says_nothing s r) (ap is_only_kept is)
saying_ok e Kind.PolicyMappings s fits is r = subst (Says e) (ok_is {E = CertRule × ℕ} policies_are_processed s r) (ap is_policy_kind is)
saying_ok e Kind.PolicyConstraints s fits is r = subst (Says e) (ok_is {E = CertRule × ℕ} policies_are_processed s r) (ap is_policy_kind is)
saying_ok e Kind.InhibitAnyPolicy s fits is r = subst (Says e) (ok_is {E = CertRule × ℕ} policies_are_processed s r) (ap is_policy_kind is)
saying_ok e Kind.NoCheck s fits is r = subst (Says e) (ok_is {E = CertRule × ℕ} need_not_be_checked s r) is
saying_ok e Kind.Other s fits is r = subst (Says e) (ok_is {E = CertRule × ℕ} says_nothing s r) (ap is_only_kept is)

processed_again : (kind : ExtensionKind) (value : Place) → is_policy_kind kind ≡ true → saying_of kind value ≡ Ok policies_are_processed
processed_again Kind.KeyUsage value is = absurd cc
processed_again Kind.AlternativeNames value is = absurd cc
processed_again Kind.BasicConstraints value is = absurd cc
processed_again Kind.NameConstraints value is = absurd cc
processed_again Kind.DistributionPoints value is = absurd cc
processed_again Kind.Policies value is = absurd cc
processed_again Kind.PolicyMappings value is = refl
processed_again Kind.PolicyConstraints value is = refl
processed_again Kind.Purposes value is = absurd cc
processed_again Kind.InhibitAnyPolicy value is = refl
processed_again Kind.NoCheck value is = absurd cc
processed_again Kind.Other value is = absurd cc

kept_again : (kind : ExtensionKind) (value : Place) → is_only_kept kind ≡ true → saying_of kind value ≡ Ok says_nothing
kept_again Kind.KeyUsage value is = absurd cc
kept_again Kind.AlternativeNames value is = absurd cc
kept_again Kind.BasicConstraints value is = absurd cc
kept_again Kind.NameConstraints value is = absurd cc
kept_again Kind.DistributionPoints value is = refl
kept_again Kind.Policies value is = refl
kept_again Kind.PolicyMappings value is = absurd cc
kept_again Kind.PolicyConstraints value is = absurd cc
kept_again Kind.Purposes value is = absurd cc
kept_again Kind.InhibitAnyPolicy value is = absurd cc
kept_again Kind.NoCheck value is = absurd cc
kept_again Kind.Other value is = refl

pub saying_again : (e : Extension) (s : Saying) → AreOctets (body e.value) → Says e s → saying_of (kind_of_extension e.oid) e.value ≡ Ok s
saying_again e (key_usage_is bits) fits says = rw (says.0, usage.key_usage_is e.value bits says.1) refl
saying_again e (alternative_names_are list) fits says = rw (says.0, names.alternative_names_are e.value list says.1) refl
saying_again e (basic_constraints_are fields) fits says = rw (says.0, basic.basic_constraints_are e.value fields fits says.1) refl
saying_again e (name_constraints_are fields) fits says = rw (says.0, constraints.name_constraints_are e.value fields says.1) refl
saying_again e (purposes_are list) fits says = rw (says.0, purposes.purposes_are e.value list says.1) refl
saying_again e policies_are_processed fits says = processed_again (kind_of_extension e.oid) e.value says
saying_again e need_not_be_checked fits says = rw says refl
saying_again e says_nothing fits says = kept_again (kind_of_extension e.oid) e.value says
