-- The kinds of extensions and their types.
use Rattle.std.proofs.Common.{◌≡◌, ◌⊎◌, ◌==◌, ◌&&◌, ◌||◌, ℕ, Bool, true, false, List, [], ◌∷◌, Some, None, eqb-true, refl, ap, inl, inr, if◌then◌else◌}
use Rattle.std.specs.List.{list_any}
use Rattle.std.specs.Str.{bytes_eq}
use Rattle.std.proofs.lemmas.Slice.Eq.{bytes_eq-Decides}
use Rattle.cert.specs.declared.extension_kind.ExtensionKind.{ExtensionKind}
use Rattle.cert.specs.declared.extension_kind.ExtensionKind.TheVariants as Kind
use Rattle.cert.specs.Extensions.{certificate_extension, kind_of_number, kind_in, kind_of_extension, is_policy_kind, is_recognised, no_check_oid}
use Rattle.cert.specs.ExtensionFields.{id_ce, id_ocsp_no_check, recognised, has_recognised_type, IsPolicyProcessing}

-- the number behind id-ce of an extension of this kind
abbrev HasNumber : ExtensionKind → ℕ → Type 0
HasNumber Kind.KeyUsage n = n ≡ 15
HasNumber Kind.AlternativeNames n = n ≡ 17
HasNumber Kind.BasicConstraints n = n ≡ 19
HasNumber Kind.NameConstraints n = n ≡ 30
HasNumber Kind.DistributionPoints n = n ≡ 31
HasNumber Kind.Policies n = n ≡ 32
HasNumber Kind.PolicyMappings n = n ≡ 33
HasNumber Kind.PolicyConstraints n = n ≡ 36
HasNumber Kind.Purposes n = n ≡ 37
HasNumber Kind.InhibitAnyPolicy n = n ≡ 54
HasNumber Kind.NoCheck n = ⊥
HasNumber Kind.Other n = Unit {0}

by_tests : (n : ℕ) (b15 b17 b19 b30 b31 b32 b33 b36 b37 b54 : Bool) → (n == 15) ≡ b15 → (n == 17) ≡ b17 → (n == 19) ≡ b19 → (n == 30) ≡ b30 → (n == 31) ≡ b31 → (n == 32) ≡ b32 → (n == 33) ≡ b33 → (n == 36) ≡ b36 → (n == 37) ≡ b37 → (n == 54) ≡ b54
    → HasNumber (if b15 then Kind.KeyUsage else (if b17 then Kind.AlternativeNames else (if b19 then Kind.BasicConstraints else (if b30 then Kind.NameConstraints else (if b31 then Kind.DistributionPoints else (if b32 then Kind.Policies else (if b33 then Kind.PolicyMappings else (if b36 then Kind.PolicyConstraints else (if b37 then Kind.Purposes else (if b54 then Kind.InhibitAnyPolicy else Kind.Other)))))))))) n
by_tests n true b17 b19 b30 b31 b32 b33 b36 b37 b54 e15 e17 e19 e30 e31 e32 e33 e36 e37 e54 = eqb-true n 15 e15
by_tests n false true b19 b30 b31 b32 b33 b36 b37 b54 e15 e17 e19 e30 e31 e32 e33 e36 e37 e54 = eqb-true n 17 e17
by_tests n false false true b30 b31 b32 b33 b36 b37 b54 e15 e17 e19 e30 e31 e32 e33 e36 e37 e54 = eqb-true n 19 e19
by_tests n false false false true b31 b32 b33 b36 b37 b54 e15 e17 e19 e30 e31 e32 e33 e36 e37 e54 = eqb-true n 30 e30
by_tests n false false false false true b32 b33 b36 b37 b54 e15 e17 e19 e30 e31 e32 e33 e36 e37 e54 = eqb-true n 31 e31
by_tests n false false false false false true b33 b36 b37 b54 e15 e17 e19 e30 e31 e32 e33 e36 e37 e54 = eqb-true n 32 e32
by_tests n false false false false false false true b36 b37 b54 e15 e17 e19 e30 e31 e32 e33 e36 e37 e54 = eqb-true n 33 e33
by_tests n false false false false false false false true b37 b54 e15 e17 e19 e30 e31 e32 e33 e36 e37 e54 = eqb-true n 36 e36
by_tests n false false false false false false false false true b54 e15 e17 e19 e30 e31 e32 e33 e36 e37 e54 = eqb-true n 37 e37
by_tests n false false false false false false false false false true e15 e17 e19 e30 e31 e32 e33 e36 e37 e54 = eqb-true n 54 e54
by_tests n false false false false false false false false false false e15 e17 e19 e30 e31 e32 e33 e36 e37 e54 = tt

number_of_kind : (n : ℕ) → HasNumber (kind_of_number n) n
number_of_kind n = by_tests n (n == 15) (n == 17) (n == 19) (n == 30) (n == 31) (n == 32) (n == 33) (n == 36) (n == 37) (n == 54) refl refl refl refl refl refl refl refl refl refl

any_test : (b15 b17 b19 b30 b31 b32 b33 b36 b37 b54 : Bool) → (b31 ≡ true → (b15 ≡ false) × (b17 ≡ false) × (b19 ≡ false) × (b30 ≡ false) × (b32 ≡ false) × (b33 ≡ false) × (b36 ≡ false) × (b37 ≡ false) × (b54 ≡ false)) → is_recognised (if b15 then Kind.KeyUsage else (if b17 then Kind.AlternativeNames else (if b19 then Kind.BasicConstraints else (if b30 then Kind.NameConstraints else (if b31 then Kind.DistributionPoints else (if b32 then Kind.Policies else (if b33 then Kind.PolicyMappings else (if b36 then Kind.PolicyConstraints else (if b37 then Kind.Purposes else (if b54 then Kind.InhibitAnyPolicy else Kind.Other)))))))))) ≡ (b15 || (b17 || (b19 || (b30 || (b32 || (b33 || (b36 || (b37 || (b54 || false)))))))))
any_test true b17 b19 b30 b31 b32 b33 b36 b37 b54 one = refl
any_test false true b19 b30 b31 b32 b33 b36 b37 b54 one = refl
any_test false false true b30 b31 b32 b33 b36 b37 b54 one = refl
any_test false false false true b31 b32 b33 b36 b37 b54 one = refl
any_test false false false false true b32 b33 b36 b37 b54 one = rw ((one refl).4, (one refl).5, (one refl).6, (one refl).7, (one refl).8) refl
any_test false false false false false true b33 b36 b37 b54 one = refl
any_test false false false false false false true b36 b37 b54 one = refl
any_test false false false false false false false true b37 b54 one = refl
any_test false false false false false false false false true b54 one = refl
any_test false false false false false false false false false true one = refl
any_test false false false false false false false false false false one = refl

no_other : (n : ℕ) → (n == 31) ≡ true → ((n == 15) ≡ false) × ((n == 17) ≡ false) × ((n == 19) ≡ false) × ((n == 30) ≡ false) × ((n == 32) ≡ false) × ((n == 33) ≡ false) × ((n == 36) ≡ false) × ((n == 37) ≡ false) × ((n == 54) ≡ false)
no_other n is = rw (eqb-true n 31 is) (refl, refl, refl, refl, refl, refl, refl, refl, refl)

recognised_number : (n : ℕ) → is_recognised (kind_of_number n) ≡ list_any (λ known. n == known) recognised
recognised_number n = any_test (n == 15) (n == 17) (n == 19) (n == 30) (n == 31) (n == 32) (n == 33) (n == 36) (n == 37) (n == 54) (no_other n)

-- the type of an extension of this kind
abbrev pub HasType : ExtensionKind → List ℕ → Type 0
HasType Kind.KeyUsage type = type ≡ id_ce 15
HasType Kind.AlternativeNames type = type ≡ id_ce 17
HasType Kind.BasicConstraints type = type ≡ id_ce 19
HasType Kind.NameConstraints type = type ≡ id_ce 30
HasType Kind.DistributionPoints type = type ≡ id_ce 31
HasType Kind.Policies type = type ≡ id_ce 32
HasType Kind.PolicyMappings type = type ≡ id_ce 33
HasType Kind.PolicyConstraints type = type ≡ id_ce 36
HasType Kind.Purposes type = type ≡ id_ce 37
HasType Kind.InhibitAnyPolicy type = type ≡ id_ce 54
HasType Kind.NoCheck type = type ≡ id_ocsp_no_check
HasType Kind.Other type = Unit {0}

of_number : (kind : ExtensionKind) (n : ℕ) → HasNumber kind n → HasType kind (id_ce n)
of_number Kind.KeyUsage n is = ap id_ce is
of_number Kind.AlternativeNames n is = ap id_ce is
of_number Kind.BasicConstraints n is = ap id_ce is
of_number Kind.NameConstraints n is = ap id_ce is
of_number Kind.DistributionPoints n is = ap id_ce is
of_number Kind.Policies n is = ap id_ce is
of_number Kind.PolicyMappings n is = ap id_ce is
of_number Kind.PolicyConstraints n is = ap id_ce is
of_number Kind.Purposes n is = ap id_ce is
of_number Kind.InhibitAnyPolicy n is = ap id_ce is
of_number Kind.NoCheck n is = absurd is
of_number Kind.Other n is = tt

without_number : (type : List ℕ) (same : Bool) → bytes_eq type no_check_oid ≡ same → HasType (if same then Kind.NoCheck else Kind.Other) type
without_number type true e = (bytes_eq-Decides type no_check_oid).0 e
without_number type false e = tt

both : (x y : Bool) → (x && y) ≡ true → (x ≡ true) × (y ≡ true)
both true y e = (refl, e)
both false y e = absurd cc

of_three : (a b n : ℕ) (in_arc : Bool) → (a == 0x55 && b == 0x1D) ≡ in_arc
    → HasType (kind_in (a ∷ b ∷ n ∷ []) (if in_arc then Some n else None)) (a ∷ b ∷ n ∷ [])
of_three a b n true e =
    let arc = both (a == 0x55) (b == 0x1D) e in
    rw (eqb-true a 0x55 arc.0, eqb-true b 0x1D arc.1) (of_number (kind_of_number n) n (number_of_kind n))
of_three a b n false e = without_number (a ∷ b ∷ n ∷ []) (bytes_eq (a ∷ b ∷ n ∷ []) no_check_oid) refl

pub type_of_kind : (type : List ℕ) → HasType (kind_of_extension type) type
unfolding kind_of_extension certificate_extension
type_of_kind [] = without_number [] (bytes_eq [] no_check_oid) refl
type_of_kind (a ∷ []) = without_number (a ∷ []) (bytes_eq (a ∷ []) no_check_oid) refl
type_of_kind (a ∷ b ∷ []) = without_number (a ∷ b ∷ []) (bytes_eq (a ∷ b ∷ []) no_check_oid) refl
type_of_kind (a ∷ b ∷ n ∷ []) = of_three a b n (a == 0x55 && b == 0x1D) refl
type_of_kind (a ∷ b ∷ n ∷ o ∷ others) = without_number (a ∷ b ∷ n ∷ o ∷ others) (bytes_eq (a ∷ b ∷ n ∷ o ∷ others) no_check_oid) refl

not_recognised : (same : Bool) → is_recognised (if same then Kind.NoCheck else Kind.Other) ≡ false
not_recognised true = refl
not_recognised false = refl

three_recognised : (a b n : ℕ) (in_arc : Bool) → (a == 0x55 && b == 0x1D) ≡ in_arc
    → is_recognised (kind_in (a ∷ b ∷ n ∷ []) (if in_arc then Some n else None)) ≡ (in_arc && list_any (λ known. n == known) recognised)
three_recognised a b n true e = recognised_number n
three_recognised a b n false e = not_recognised (bytes_eq (a ∷ b ∷ n ∷ []) no_check_oid)

pub recognised_type : (type : List ℕ) → is_recognised (kind_of_extension type) ≡ has_recognised_type type
unfolding kind_of_extension certificate_extension
recognised_type [] = not_recognised (bytes_eq [] no_check_oid)
recognised_type (a ∷ []) = not_recognised (bytes_eq (a ∷ []) no_check_oid)
recognised_type (a ∷ b ∷ []) = not_recognised (bytes_eq (a ∷ b ∷ []) no_check_oid)
recognised_type (a ∷ b ∷ n ∷ []) = three_recognised a b n (a == 0x55 && b == 0x1D) refl
recognised_type (a ∷ b ∷ n ∷ o ∷ others) = not_recognised (bytes_eq (a ∷ b ∷ n ∷ o ∷ others) no_check_oid)

-- the kinds of the types
pub of_key_usage : kind_of_extension (id_ce 15) ≡ Kind.KeyUsage
unfolding kind_of_extension certificate_extension
of_key_usage = refl

pub of_alternative_names : kind_of_extension (id_ce 17) ≡ Kind.AlternativeNames
unfolding kind_of_extension certificate_extension
of_alternative_names = refl

pub of_basic_constraints : kind_of_extension (id_ce 19) ≡ Kind.BasicConstraints
unfolding kind_of_extension certificate_extension
of_basic_constraints = refl

pub of_name_constraints : kind_of_extension (id_ce 30) ≡ Kind.NameConstraints
unfolding kind_of_extension certificate_extension
of_name_constraints = refl

pub of_distribution_points : kind_of_extension (id_ce 31) ≡ Kind.DistributionPoints
unfolding kind_of_extension certificate_extension
of_distribution_points = refl

pub of_policies : kind_of_extension (id_ce 32) ≡ Kind.Policies
unfolding kind_of_extension certificate_extension
of_policies = refl

pub of_policy_mappings : kind_of_extension (id_ce 33) ≡ Kind.PolicyMappings
unfolding kind_of_extension certificate_extension
of_policy_mappings = refl

pub of_policy_constraints : kind_of_extension (id_ce 36) ≡ Kind.PolicyConstraints
unfolding kind_of_extension certificate_extension
of_policy_constraints = refl

pub of_purposes : kind_of_extension (id_ce 37) ≡ Kind.Purposes
unfolding kind_of_extension certificate_extension
of_purposes = refl

pub of_inhibit_any_policy : kind_of_extension (id_ce 54) ≡ Kind.InhibitAnyPolicy
unfolding kind_of_extension certificate_extension
of_inhibit_any_policy = refl

pub of_no_check : (type : List ℕ) → type ≡ id_ocsp_no_check → kind_of_extension type ≡ Kind.NoCheck
unfolding kind_of_extension certificate_extension
of_no_check type is = rw is refl

-- kinds that policies are processed by
pub of_policy_processing : (type : List ℕ) → IsPolicyProcessing type → is_policy_kind (kind_of_extension type) ≡ true
of_policy_processing type (inl is) = rw (is, of_policy_mappings) refl
of_policy_processing type (inr (inl is)) = rw (is, of_policy_constraints) refl
of_policy_processing type (inr (inr is)) = rw (is, of_inhibit_any_policy) refl

policy_type_in : (kind : ExtensionKind) (type : List ℕ) → HasType kind type → is_policy_kind kind ≡ true → IsPolicyProcessing type
policy_type_in Kind.KeyUsage type has is = absurd cc
policy_type_in Kind.AlternativeNames type has is = absurd cc
policy_type_in Kind.BasicConstraints type has is = absurd cc
policy_type_in Kind.NameConstraints type has is = absurd cc
policy_type_in Kind.DistributionPoints type has is = absurd cc
policy_type_in Kind.Policies type has is = absurd cc
policy_type_in Kind.PolicyMappings type has is = inl has
policy_type_in Kind.PolicyConstraints type has is = inr (inl has)
policy_type_in Kind.Purposes type has is = absurd cc
policy_type_in Kind.InhibitAnyPolicy type has is = inr (inr has)
policy_type_in Kind.NoCheck type has is = absurd cc
policy_type_in Kind.Other type has is = absurd cc

pub policy_type : (type : List ℕ) → is_policy_kind (kind_of_extension type) ≡ true → IsPolicyProcessing type
policy_type type = policy_type_in (kind_of_extension type) type (type_of_kind type)
