-- Each field of the extensions is what the extension of its type says.
use Rattle.std.proofs.Common.{◌≡◌, ◌≢◌, ◌⊎◌, ◌&&◌, ◌||◌, ◌==◌, Some, None, eqb-true, ℕ, zero, suc, Bool, true, false, not, List, [], ◌∷◌, ◌++◌, map, Option, AllPairs, Contains, filter, append-nil, append_assoc, if◌then◌else◌, arith, refl, sym, ap, ◌∙◌, subst, inl, inr}
use Rattle.std.specs.List.{AllByRecursion, AllZip}
use Rattle.std.specs.Str.{bytes_eq}
use Rattle.std.proofs.lemmas.Bool.{cases_Bool}
use Rattle.std.proofs.lemmas.Bool.Decides.{nat_tests}
use Rattle.std.proofs.lemmas.List.Elements.{All-from_recursion}
use Rattle.std.proofs.lemmas.List.Kept.{AllPairs-cons}
use Rattle.std.proofs.lemmas.Slice.Eq.{bytes_eq-Decides}
use Rattle.asn.specs.Place.{Place}
use Rattle.asn.specs.Members.{members}
use Rattle.names.specs.GeneralLayout.{GeneralName}
use Rattle.cert.specs.declared.extension_kind.ExtensionKind.{ExtensionKind}
use Rattle.cert.specs.declared.extension_kind.ExtensionKind.TheVariants as Kind
use Rattle.cert.specs.Extension.{Extension, IsExtension}
use Rattle.cert.specs.Extensions.{Extensions, is_policies, is_critical_policies, Saying, key_usage_is, alternative_names_are, basic_constraints_are, name_constraints_are, purposes_are, policies_are_processed, need_not_be_checked, says_nothing, no_extensions, told_key_usage, told_alternative_names, told_basic_constraints, told_name_constraints, told_purposes, told_policy, told_no_check, kind_of_extension, is_only_kept, is_policy_kind, is_recognised, one_told}
use Rattle.cert.specs.ExtensionValues.{kept_if, kind_number}
use Rattle.cert.specs.ExtensionForms.{Says, Told, Tells, all_told}
use Rattle.cert.specs.ExtensionFields.{id_ce, id_ocsp_no_check, has_recognised_type, IsPolicyProcessing, HasOneOf, IsCriticalPolicies, IsFieldOf, SaysKeyUsage, SaysBasicConstraints, AreFieldsOf, AreValuesOf, IsValueOf, ExtensionsAreByField}
use Rattle.cert.specs.AlternativeNames.{AreAlternativeNames}
use Rattle.cert.specs.BasicConstraints.{BasicConstraints}
use Rattle.cert.specs.NameConstraints.{NameConstraints, IsNameConstraints}
use Rattle.cert.specs.Purposes.{ArePurposes}
use Rattle.cert.proofs.ExtensionTypes.{HasType, type_of_kind, recognised_type, of_key_usage, of_alternative_names, of_basic_constraints, of_name_constraints, of_purposes, of_policy_processing, of_no_check, of_distribution_points, of_policies, of_policy_mappings, of_policy_constraints, of_inhibit_any_policy, policy_type}
use Rattle.cert.proofs.ExtensionListLaws.{are_extensions}
use Rattle.cert.proofs.NewTypes.{first_pairs, rest_pairs}

abbrev extension_in : Told → Extension
extension_in one = one.extension

abbrev SaysSo : Told → Type 0
SaysSo one = Says one.extension one.saying

abbrev HaveOtherTypes : Told → Told → Type 0
HaveOtherTypes one other = one.extension.oid ≢ other.extension.oid

-- what is known behind one more
abbrev after : Told → Extensions → Extensions
after one before = one_told one.extension one.saying before

-- an extension further behind
behind : (e : Extension) (list : List Extension) (x : Extension) → Contains list x → Contains (e ∷ list) x
behind e list x has = (suc has.0, omega (arith, has.1), has.2)

-- one field, which one type of extension settles
module _ {X : Type 0} (get : Extensions → X) (set : Told → X → X) (type : List ℕ) (Gives : Place → X → Type 0)
    (commutes : (one : Told) (before : Extensions) → get (after one before) ≡ set one (get before))
    (silent : (one : Told) (x : X) → SaysSo one → one.extension.oid ≢ type → set one x ≡ x)
    (spoken : (one : Told) (x : X) → SaysSo one → one.extension.oid ≡ type → Gives one.extension.value (set one x)) where
  unchanged : (list : List Told) (before : Extensions) → AllByRecursion SaysSo list → AllByRecursion (λ one. one.extension.oid ≢ type) list → get (all_told list before) ≡ get before
  unchanged [] before says others = refl
  unchanged (one ∷ list) before says others = unchanged list (after one before) says.1 others.1 ∙ commutes one before ∙ silent one (get before) says.0 others.0

  others_of : (one : Told) (list : List Told) → one.extension.oid ≡ type → AllByRecursion (HaveOtherTypes one) list → AllByRecursion (λ other. other.extension.oid ≢ type) list
  others_of one [] is differ = tt
  others_of one (other ∷ list) is differ = ((λ same. differ.0 (is ∙ sym same)), others_of one list is differ.1)

  later : (one : Told) (list : List Told) (before : Extensions) → SaysSo one → one.extension.oid ≢ type
      → IsFieldOf (map extension_in list) type Gives (get (after one before)) (get (all_told list (after one before)))
      → IsFieldOf (map extension_in (one ∷ list)) type Gives (get before) (get (all_told (one ∷ list) before))
  later one list before says other (inl (e, has, is, gives)) = inl (e, behind one.extension (map extension_in list) e has, is, gives)
  later one list before says other (inr (none, same)) = inr ((other, none), same ∙ commutes one before ∙ silent one (get before) says other)

  field_of : (list : List Told) (before : Extensions) → AllByRecursion SaysSo list → AllPairs HaveOtherTypes list
      → IsFieldOf (map extension_in list) type Gives (get before) (get (all_told list before))
  field_of [] before says pairs = inr (tt, refl)
  field_of (one ∷ list) before says pairs = elim (cases_Bool (bytes_eq one.extension.oid type)) [
    | inl same ↦
        let is = (bytes_eq-Decides one.extension.oid type).0 same in
        let stays = unchanged list (after one before) says.1 (others_of one list is (first_pairs one list pairs)) ∙ commutes one before in
        inl (one.extension, (zero, omega arith, refl), is, subst (Gives one.extension.value) (sym stays) (spoken one (get before) says.0 is))
    | inr differs ↦
        let other : one.extension.oid ≢ type = λ is. let same = (bytes_eq-Decides one.extension.oid type).1 is in absurd cc in
        later one list before says.0 other (field_of list (after one before) says.1 (rest_pairs one list pairs))
  ]

-- an extension of some kind is among these
abbrev HasOne : (Extension → Type 0) → List Extension → Type 0
HasOne IsOne list = (e : Extension) × Contains list e × IsOne e

-- a mark, which some extensions set
module _ (get : Extensions → Bool) (set : Told → Bool → Bool) (IsOne : Extension → Type 0)
    (commutes : (one : Told) (before : Extensions) → get (after one before) ≡ set one (get before))
    (set_by : (one : Told) (x : Bool) → SaysSo one → set one x ≡ true → (x ≡ true) ⊎ IsOne one.extension)
    (stays : (one : Told) → set one true ≡ true)
    (sets : (one : Told) (x : Bool) → SaysSo one → IsOne one.extension → set one x ≡ true) where
  marked_by : (list : List Told) (before : Extensions) → AllByRecursion SaysSo list → get (all_told list before) ≡ true
      → (get before ≡ true) ⊎ HasOne IsOne (map extension_in list)
  marked_by [] before says marked = inl marked
  marked_by (one ∷ list) before says marked = elim (marked_by list (after one before) says.1 marked) [
    | inl next ↦ elim (set_by one (get before) says.0 (sym (commutes one before) ∙ next)) [
      | inl was ↦ inl was
      | inr is ↦ inr (one.extension, (zero, omega arith, refl), is)
    ]
    | inr (e, has, is) ↦ inr (e, behind one.extension (map extension_in list) e has, is)
  ]

  stays_marked : (list : List Told) (before : Extensions) → get before ≡ true → get (all_told list before) ≡ true
  stays_marked [] before was = was
  stays_marked (one ∷ list) before was = stays_marked list (after one before) (commutes one before ∙ ap (set one) was ∙ stays one)

  marks : (list : List Told) (before : Extensions) → AllByRecursion SaysSo list → HasOne IsOne (map extension_in list) → get (all_told list before) ≡ true
  marks [] before says (e, (k, within, found), is) = absurd (omega (arith, within))
  marks (one ∷ list) before says (e, (zero, within, found), is) =
      stays_marked list (after one before) (commutes one before ∙ sets one (get before) says.0 (subst IsOne (sym found) is))
  marks (one ∷ list) before says (e, (suc k, within, found), is) = marks list (after one before) says.1 (e, (k, omega (arith, within), found), is)

-- the types that are listed
listed_behind : (list : List Told) (before : Extensions)
    → (all_told list before).unrecognised ≡ before.unrecognised ++ map (λ (e : Extension). e.oid) (filter (λ (e : Extension). e.critical && not (has_recognised_type e.oid)) (map extension_in list))
listed_behind [] before = sym (append-nil before.unrecognised)
listed_behind (one ∷ list) before =
    listed_behind list (after one before) ∙ go (one.extension.critical && not (is_recognised (kind_of_extension one.extension.oid))) (ap (λ known. one.extension.critical && not known) (recognised_type one.extension.oid))
  where
    rest : List (List ℕ)
    rest = map (λ (e : Extension). e.oid) (filter (λ (e : Extension). e.critical && not (has_recognised_type e.oid)) (map extension_in list))

    go : (b : Bool) → b ≡ (one.extension.critical && not (has_recognised_type one.extension.oid)) → (if b then before.unrecognised ++ one.extension.oid ∷ [] else before.unrecognised) ++ rest
        ≡ before.unrecognised ++ map (λ (e : Extension). e.oid) (filter (λ (e : Extension). e.critical && not (has_recognised_type e.oid)) (map extension_in (one ∷ list)))
    go true is = rw (← is) (append_assoc before.unrecognised (one.extension.oid ∷ []) rest)
    go false is = rw (← is) refl

-- the kind of a type, and a saying that it does not go with
kind_is : (e : Extension) (type : List ℕ) (kind said : ExtensionKind) → kind_of_extension type ≡ kind → e.oid ≡ type → kind_of_extension e.oid ≡ said → kind ≡ said
kind_is e type kind said of is says = sym of ∙ ap kind_of_extension (sym is) ∙ says

-- the same of what is so of a kind
marked_is : (e : Extension) (type : List ℕ) (kind : ExtensionKind) (is_so : ExtensionKind → Bool) → kind_of_extension type ≡ kind → e.oid ≡ type → is_so (kind_of_extension e.oid) ≡ true → is_so kind ≡ true
marked_is e type kind is_so of is says = sym (ap is_so (ap kind_of_extension is ∙ of)) ∙ says

not_both : (kind : ExtensionKind) → is_only_kept kind ≡ true → is_policy_kind kind ≡ true → ⊥
not_both Kind.KeyUsage kept processed = cc
not_both Kind.AlternativeNames kept processed = cc
not_both Kind.BasicConstraints kept processed = cc
not_both Kind.NameConstraints kept processed = cc
not_both Kind.DistributionPoints kept processed = cc
not_both Kind.Policies kept processed = cc
not_both Kind.PolicyMappings kept processed = cc
not_both Kind.PolicyConstraints kept processed = cc
not_both Kind.Purposes kept processed = cc
not_both Kind.InhibitAnyPolicy kept processed = cc
not_both Kind.NoCheck kept processed = cc
not_both Kind.Other kept processed = cc

-- an extension has the type of its kind
type_is : (e : Extension) (kind : ExtensionKind) → kind_of_extension e.oid ≡ kind → HasType kind e.oid
type_is e kind is = subst (λ (k : ExtensionKind). HasType k e.oid) is (type_of_kind e.oid)

silent_key_usage : (e : Extension) (s : Saying) (x : Option (List ℕ)) → Says e s → e.oid ≢ id_ce 15 → told_key_usage s x ≡ x
silent_key_usage e (key_usage_is v) x says other = absurd (other (type_is e Kind.KeyUsage says.0))
silent_key_usage e (alternative_names_are v) x says other = refl
silent_key_usage e (basic_constraints_are v) x says other = refl
silent_key_usage e (name_constraints_are v) x says other = refl
silent_key_usage e (purposes_are v) x says other = refl
silent_key_usage e policies_are_processed x says other = refl
silent_key_usage e need_not_be_checked x says other = refl
silent_key_usage e says_nothing x says other = refl

spoken_key_usage : (e : Extension) (s : Saying) (x : Option (List ℕ)) → Says e s → e.oid ≡ id_ce 15 → SaysKeyUsage e.value (told_key_usage s x)
spoken_key_usage e (key_usage_is v) x says is = (v, says.1, refl)
spoken_key_usage e (alternative_names_are v) x says is = let no : Kind.KeyUsage ≡ Kind.AlternativeNames = kind_is e (id_ce 15) Kind.KeyUsage Kind.AlternativeNames of_key_usage is says.0 in absurd cc
spoken_key_usage e (basic_constraints_are v) x says is = let no : Kind.KeyUsage ≡ Kind.BasicConstraints = kind_is e (id_ce 15) Kind.KeyUsage Kind.BasicConstraints of_key_usage is says.0 in absurd cc
spoken_key_usage e (name_constraints_are v) x says is = let no : Kind.KeyUsage ≡ Kind.NameConstraints = kind_is e (id_ce 15) Kind.KeyUsage Kind.NameConstraints of_key_usage is says.0 in absurd cc
spoken_key_usage e (purposes_are v) x says is = let no : Kind.KeyUsage ≡ Kind.Purposes = kind_is e (id_ce 15) Kind.KeyUsage Kind.Purposes of_key_usage is says.0 in absurd cc
spoken_key_usage e policies_are_processed x says is = let no : is_policy_kind Kind.KeyUsage ≡ true = marked_is e (id_ce 15) Kind.KeyUsage is_policy_kind of_key_usage is says in absurd cc
spoken_key_usage e need_not_be_checked x says is = let no : Kind.KeyUsage ≡ Kind.NoCheck = kind_is e (id_ce 15) Kind.KeyUsage Kind.NoCheck of_key_usage is says in absurd cc
spoken_key_usage e says_nothing x says is = let no : is_only_kept Kind.KeyUsage ≡ true = marked_is e (id_ce 15) Kind.KeyUsage is_only_kept of_key_usage is says in absurd cc

silent_alternative_names : (e : Extension) (s : Saying) (x : List GeneralName) → Says e s → e.oid ≢ id_ce 17 → told_alternative_names s x ≡ x
silent_alternative_names e (key_usage_is v) x says other = refl
silent_alternative_names e (alternative_names_are v) x says other = absurd (other (type_is e Kind.AlternativeNames says.0))
silent_alternative_names e (basic_constraints_are v) x says other = refl
silent_alternative_names e (name_constraints_are v) x says other = refl
silent_alternative_names e (purposes_are v) x says other = refl
silent_alternative_names e policies_are_processed x says other = refl
silent_alternative_names e need_not_be_checked x says other = refl
silent_alternative_names e says_nothing x says other = refl

spoken_alternative_names : (e : Extension) (s : Saying) (x : List GeneralName) → Says e s → e.oid ≡ id_ce 17 → AreAlternativeNames e.value (told_alternative_names s x)
spoken_alternative_names e (key_usage_is v) x says is = let no : Kind.AlternativeNames ≡ Kind.KeyUsage = kind_is e (id_ce 17) Kind.AlternativeNames Kind.KeyUsage of_alternative_names is says.0 in absurd cc
spoken_alternative_names e (alternative_names_are v) x says is = says.1
spoken_alternative_names e (basic_constraints_are v) x says is = let no : Kind.AlternativeNames ≡ Kind.BasicConstraints = kind_is e (id_ce 17) Kind.AlternativeNames Kind.BasicConstraints of_alternative_names is says.0 in absurd cc
spoken_alternative_names e (name_constraints_are v) x says is = let no : Kind.AlternativeNames ≡ Kind.NameConstraints = kind_is e (id_ce 17) Kind.AlternativeNames Kind.NameConstraints of_alternative_names is says.0 in absurd cc
spoken_alternative_names e (purposes_are v) x says is = let no : Kind.AlternativeNames ≡ Kind.Purposes = kind_is e (id_ce 17) Kind.AlternativeNames Kind.Purposes of_alternative_names is says.0 in absurd cc
spoken_alternative_names e policies_are_processed x says is = let no : is_policy_kind Kind.AlternativeNames ≡ true = marked_is e (id_ce 17) Kind.AlternativeNames is_policy_kind of_alternative_names is says in absurd cc
spoken_alternative_names e need_not_be_checked x says is = let no : Kind.AlternativeNames ≡ Kind.NoCheck = kind_is e (id_ce 17) Kind.AlternativeNames Kind.NoCheck of_alternative_names is says in absurd cc
spoken_alternative_names e says_nothing x says is = let no : is_only_kept Kind.AlternativeNames ≡ true = marked_is e (id_ce 17) Kind.AlternativeNames is_only_kept of_alternative_names is says in absurd cc

silent_basic_constraints : (e : Extension) (s : Saying) (x : Option BasicConstraints) → Says e s → e.oid ≢ id_ce 19 → told_basic_constraints s x ≡ x
silent_basic_constraints e (key_usage_is v) x says other = refl
silent_basic_constraints e (alternative_names_are v) x says other = refl
silent_basic_constraints e (basic_constraints_are v) x says other = absurd (other (type_is e Kind.BasicConstraints says.0))
silent_basic_constraints e (name_constraints_are v) x says other = refl
silent_basic_constraints e (purposes_are v) x says other = refl
silent_basic_constraints e policies_are_processed x says other = refl
silent_basic_constraints e need_not_be_checked x says other = refl
silent_basic_constraints e says_nothing x says other = refl

spoken_basic_constraints : (e : Extension) (s : Saying) (x : Option BasicConstraints) → Says e s → e.oid ≡ id_ce 19 → SaysBasicConstraints e.value (told_basic_constraints s x)
spoken_basic_constraints e (key_usage_is v) x says is = let no : Kind.BasicConstraints ≡ Kind.KeyUsage = kind_is e (id_ce 19) Kind.BasicConstraints Kind.KeyUsage of_basic_constraints is says.0 in absurd cc
spoken_basic_constraints e (alternative_names_are v) x says is = let no : Kind.BasicConstraints ≡ Kind.AlternativeNames = kind_is e (id_ce 19) Kind.BasicConstraints Kind.AlternativeNames of_basic_constraints is says.0 in absurd cc
spoken_basic_constraints e (basic_constraints_are v) x says is = (v, says.1, refl)
spoken_basic_constraints e (name_constraints_are v) x says is = let no : Kind.BasicConstraints ≡ Kind.NameConstraints = kind_is e (id_ce 19) Kind.BasicConstraints Kind.NameConstraints of_basic_constraints is says.0 in absurd cc
spoken_basic_constraints e (purposes_are v) x says is = let no : Kind.BasicConstraints ≡ Kind.Purposes = kind_is e (id_ce 19) Kind.BasicConstraints Kind.Purposes of_basic_constraints is says.0 in absurd cc
spoken_basic_constraints e policies_are_processed x says is = let no : is_policy_kind Kind.BasicConstraints ≡ true = marked_is e (id_ce 19) Kind.BasicConstraints is_policy_kind of_basic_constraints is says in absurd cc
spoken_basic_constraints e need_not_be_checked x says is = let no : Kind.BasicConstraints ≡ Kind.NoCheck = kind_is e (id_ce 19) Kind.BasicConstraints Kind.NoCheck of_basic_constraints is says in absurd cc
spoken_basic_constraints e says_nothing x says is = let no : is_only_kept Kind.BasicConstraints ≡ true = marked_is e (id_ce 19) Kind.BasicConstraints is_only_kept of_basic_constraints is says in absurd cc

silent_name_constraints : (e : Extension) (s : Saying) (x : NameConstraints) → Says e s → e.oid ≢ id_ce 30 → told_name_constraints s x ≡ x
silent_name_constraints e (key_usage_is v) x says other = refl
silent_name_constraints e (alternative_names_are v) x says other = refl
silent_name_constraints e (basic_constraints_are v) x says other = refl
silent_name_constraints e (name_constraints_are v) x says other = absurd (other (type_is e Kind.NameConstraints says.0))
silent_name_constraints e (purposes_are v) x says other = refl
silent_name_constraints e policies_are_processed x says other = refl
silent_name_constraints e need_not_be_checked x says other = refl
silent_name_constraints e says_nothing x says other = refl

spoken_name_constraints : (e : Extension) (s : Saying) (x : NameConstraints) → Says e s → e.oid ≡ id_ce 30 → IsNameConstraints e.value (told_name_constraints s x)
spoken_name_constraints e (key_usage_is v) x says is = let no : Kind.NameConstraints ≡ Kind.KeyUsage = kind_is e (id_ce 30) Kind.NameConstraints Kind.KeyUsage of_name_constraints is says.0 in absurd cc
spoken_name_constraints e (alternative_names_are v) x says is = let no : Kind.NameConstraints ≡ Kind.AlternativeNames = kind_is e (id_ce 30) Kind.NameConstraints Kind.AlternativeNames of_name_constraints is says.0 in absurd cc
spoken_name_constraints e (basic_constraints_are v) x says is = let no : Kind.NameConstraints ≡ Kind.BasicConstraints = kind_is e (id_ce 30) Kind.NameConstraints Kind.BasicConstraints of_name_constraints is says.0 in absurd cc
spoken_name_constraints e (name_constraints_are v) x says is = says.1
spoken_name_constraints e (purposes_are v) x says is = let no : Kind.NameConstraints ≡ Kind.Purposes = kind_is e (id_ce 30) Kind.NameConstraints Kind.Purposes of_name_constraints is says.0 in absurd cc
spoken_name_constraints e policies_are_processed x says is = let no : is_policy_kind Kind.NameConstraints ≡ true = marked_is e (id_ce 30) Kind.NameConstraints is_policy_kind of_name_constraints is says in absurd cc
spoken_name_constraints e need_not_be_checked x says is = let no : Kind.NameConstraints ≡ Kind.NoCheck = kind_is e (id_ce 30) Kind.NameConstraints Kind.NoCheck of_name_constraints is says in absurd cc
spoken_name_constraints e says_nothing x says is = let no : is_only_kept Kind.NameConstraints ≡ true = marked_is e (id_ce 30) Kind.NameConstraints is_only_kept of_name_constraints is says in absurd cc

silent_purposes : (e : Extension) (s : Saying) (x : List (List ℕ)) → Says e s → e.oid ≢ id_ce 37 → told_purposes s x ≡ x
silent_purposes e (key_usage_is v) x says other = refl
silent_purposes e (alternative_names_are v) x says other = refl
silent_purposes e (basic_constraints_are v) x says other = refl
silent_purposes e (name_constraints_are v) x says other = refl
silent_purposes e (purposes_are v) x says other = absurd (other (type_is e Kind.Purposes says.0))
silent_purposes e policies_are_processed x says other = refl
silent_purposes e need_not_be_checked x says other = refl
silent_purposes e says_nothing x says other = refl

spoken_purposes : (e : Extension) (s : Saying) (x : List (List ℕ)) → Says e s → e.oid ≡ id_ce 37 → ArePurposes e.value (told_purposes s x)
spoken_purposes e (key_usage_is v) x says is = let no : Kind.Purposes ≡ Kind.KeyUsage = kind_is e (id_ce 37) Kind.Purposes Kind.KeyUsage of_purposes is says.0 in absurd cc
spoken_purposes e (alternative_names_are v) x says is = let no : Kind.Purposes ≡ Kind.AlternativeNames = kind_is e (id_ce 37) Kind.Purposes Kind.AlternativeNames of_purposes is says.0 in absurd cc
spoken_purposes e (basic_constraints_are v) x says is = let no : Kind.Purposes ≡ Kind.BasicConstraints = kind_is e (id_ce 37) Kind.Purposes Kind.BasicConstraints of_purposes is says.0 in absurd cc
spoken_purposes e (name_constraints_are v) x says is = let no : Kind.Purposes ≡ Kind.NameConstraints = kind_is e (id_ce 37) Kind.Purposes Kind.NameConstraints of_purposes is says.0 in absurd cc
spoken_purposes e (purposes_are v) x says is = says.1
spoken_purposes e policies_are_processed x says is = let no : is_policy_kind Kind.Purposes ≡ true = marked_is e (id_ce 37) Kind.Purposes is_policy_kind of_purposes is says in absurd cc
spoken_purposes e need_not_be_checked x says is = let no : Kind.Purposes ≡ Kind.NoCheck = kind_is e (id_ce 37) Kind.Purposes Kind.NoCheck of_purposes is says in absurd cc
spoken_purposes e says_nothing x says is = let no : is_only_kept Kind.Purposes ≡ true = marked_is e (id_ce 37) Kind.Purposes is_only_kept of_purposes is says in absurd cc

policy_set_by : (e : Extension) (s : Saying) (x : Bool) → Says e s → told_policy s x ≡ true → (x ≡ true) ⊎ IsPolicyProcessing e.oid
policy_set_by e (key_usage_is v) x says set = inl set
policy_set_by e (alternative_names_are v) x says set = inl set
policy_set_by e (basic_constraints_are v) x says set = inl set
policy_set_by e (name_constraints_are v) x says set = inl set
policy_set_by e (purposes_are v) x says set = inl set
policy_set_by e policies_are_processed x says set = inr (policy_type e.oid says)
policy_set_by e need_not_be_checked x says set = inl set
policy_set_by e says_nothing x says set = inl set

policy_stays : (s : Saying) → told_policy s true ≡ true
policy_stays (key_usage_is v) = refl
policy_stays (alternative_names_are v) = refl
policy_stays (basic_constraints_are v) = refl
policy_stays (name_constraints_are v) = refl
policy_stays (purposes_are v) = refl
policy_stays policies_are_processed = refl
policy_stays need_not_be_checked = refl
policy_stays says_nothing = refl

policy_sets : (e : Extension) (s : Saying) (x : Bool) → Says e s → IsPolicyProcessing e.oid → told_policy s x ≡ true
policy_sets e (key_usage_is v) x says is = let no : is_policy_kind Kind.KeyUsage ≡ true = sym (ap is_policy_kind (says.0)) ∙ of_policy_processing e.oid is in absurd cc
policy_sets e (alternative_names_are v) x says is = let no : is_policy_kind Kind.AlternativeNames ≡ true = sym (ap is_policy_kind (says.0)) ∙ of_policy_processing e.oid is in absurd cc
policy_sets e (basic_constraints_are v) x says is = let no : is_policy_kind Kind.BasicConstraints ≡ true = sym (ap is_policy_kind (says.0)) ∙ of_policy_processing e.oid is in absurd cc
policy_sets e (name_constraints_are v) x says is = let no : is_policy_kind Kind.NameConstraints ≡ true = sym (ap is_policy_kind (says.0)) ∙ of_policy_processing e.oid is in absurd cc
policy_sets e (purposes_are v) x says is = let no : is_policy_kind Kind.Purposes ≡ true = sym (ap is_policy_kind (says.0)) ∙ of_policy_processing e.oid is in absurd cc
policy_sets e policies_are_processed x says is = refl
policy_sets e need_not_be_checked x says is = let no : is_policy_kind Kind.NoCheck ≡ true = sym (ap is_policy_kind (says)) ∙ of_policy_processing e.oid is in absurd cc
policy_sets e says_nothing x says is = absurd (not_both (kind_of_extension e.oid) says (of_policy_processing e.oid is))

no_check_set_by : (e : Extension) (s : Saying) (x : Bool) → Says e s → told_no_check s x ≡ true → (x ≡ true) ⊎ (e.oid ≡ id_ocsp_no_check)
no_check_set_by e (key_usage_is v) x says set = inl set
no_check_set_by e (alternative_names_are v) x says set = inl set
no_check_set_by e (basic_constraints_are v) x says set = inl set
no_check_set_by e (name_constraints_are v) x says set = inl set
no_check_set_by e (purposes_are v) x says set = inl set
no_check_set_by e policies_are_processed x says set = inl set
no_check_set_by e need_not_be_checked x says set = inr (type_is e Kind.NoCheck says)
no_check_set_by e says_nothing x says set = inl set

no_check_stays : (s : Saying) → told_no_check s true ≡ true
no_check_stays (key_usage_is v) = refl
no_check_stays (alternative_names_are v) = refl
no_check_stays (basic_constraints_are v) = refl
no_check_stays (name_constraints_are v) = refl
no_check_stays (purposes_are v) = refl
no_check_stays policies_are_processed = refl
no_check_stays need_not_be_checked = refl
no_check_stays says_nothing = refl

no_check_sets : (e : Extension) (s : Saying) (x : Bool) → Says e s → (e.oid ≡ id_ocsp_no_check) → told_no_check s x ≡ true
no_check_sets e (key_usage_is v) x says is = let no : Kind.NoCheck ≡ Kind.KeyUsage = sym (of_no_check e.oid is) ∙ says.0 in absurd cc
no_check_sets e (alternative_names_are v) x says is = let no : Kind.NoCheck ≡ Kind.AlternativeNames = sym (of_no_check e.oid is) ∙ says.0 in absurd cc
no_check_sets e (basic_constraints_are v) x says is = let no : Kind.NoCheck ≡ Kind.BasicConstraints = sym (of_no_check e.oid is) ∙ says.0 in absurd cc
no_check_sets e (name_constraints_are v) x says is = let no : Kind.NoCheck ≡ Kind.NameConstraints = sym (of_no_check e.oid is) ∙ says.0 in absurd cc
no_check_sets e (purposes_are v) x says is = let no : Kind.NoCheck ≡ Kind.Purposes = sym (of_no_check e.oid is) ∙ says.0 in absurd cc
no_check_sets e policies_are_processed x says is = let no : is_policy_kind Kind.NoCheck ≡ true = sym (ap is_policy_kind (of_no_check e.oid is)) ∙ says in absurd cc
no_check_sets e need_not_be_checked x says is = refl
no_check_sets e says_nothing x says is = let no : is_only_kept Kind.NoCheck ≡ true = sym (ap is_only_kept (of_no_check e.oid is)) ∙ says in absurd cc

-- ---- critical certificatePolicies

abbrev critical_by : Told → Bool → Bool
critical_by one x = x || is_critical_policies one.extension

are_policies : (kind : ExtensionKind) → is_policies kind ≡ true → kind ≡ Kind.Policies
are_policies Kind.KeyUsage is = absurd cc
are_policies Kind.AlternativeNames is = absurd cc
are_policies Kind.BasicConstraints is = absurd cc
are_policies Kind.NameConstraints is = absurd cc
are_policies Kind.DistributionPoints is = absurd cc
are_policies Kind.Policies is = refl
are_policies Kind.PolicyMappings is = absurd cc
are_policies Kind.PolicyConstraints is = absurd cc
are_policies Kind.Purposes is = absurd cc
are_policies Kind.InhibitAnyPolicy is = absurd cc
are_policies Kind.NoCheck is = absurd cc
are_policies Kind.Other is = absurd cc

critical_set_by : (one : Told) (x : Bool) → critical_by one x ≡ true → (x ≡ true) ⊎ IsCriticalPolicies one.extension
critical_set_by one true set = inl refl
critical_set_by one false set = by one.extension.critical refl (is_policies (kind_of_extension one.extension.oid)) refl
  where
    by : (critical : Bool) → one.extension.critical ≡ critical → (policies : Bool) → is_policies (kind_of_extension one.extension.oid) ≡ policies → (false ≡ true) ⊎ IsCriticalPolicies one.extension
    by false is policies are = let no : false ≡ true = sym (ap (λ b. b && is_policies (kind_of_extension one.extension.oid)) is) ∙ set in absurd cc
    by true is false are = let no : false ≡ true = sym (ap (λ b. b && is_policies (kind_of_extension one.extension.oid)) is ∙ are) ∙ set in absurd cc
    by true is true are = inr (record { type = type_is one.extension Kind.Policies (are_policies (kind_of_extension one.extension.oid) are); critical = is })

critical_stays : (one : Told) → critical_by one true ≡ true
critical_stays one = refl

critical_sets : (one : Told) (x : Bool) → IsCriticalPolicies one.extension → critical_by one x ≡ true
critical_sets one true is = refl
critical_sets one false is =
    let policies : is_policies (kind_of_extension one.extension.oid) ≡ true = ap is_policies (ap kind_of_extension is.type ∙ of_policies) in
    ap (λ b. b && is_policies (kind_of_extension one.extension.oid)) is.critical ∙ policies

-- ---- the values themselves

type_in : (kind : ExtensionKind) (type : List ℕ) → kind_of_extension type ≡ kind → HasType kind type
type_in kind type is = subst (λ (k : ExtensionKind). HasType k type) is (type_of_kind type)

abbrev kind_at : ℕ → ExtensionKind
kind_at n =
    if n == 0 then Kind.KeyUsage else (if n == 1 then Kind.AlternativeNames else (if n == 2 then Kind.BasicConstraints else (if n == 3 then Kind.NameConstraints else (if n == 4 then Kind.DistributionPoints else (if n == 5 then Kind.Policies else (if n == 6 then Kind.PolicyMappings else (if n == 7 then Kind.PolicyConstraints else (if n == 8 then Kind.Purposes else (if n == 9 then Kind.InhibitAnyPolicy else (if n == 10 then Kind.NoCheck else Kind.Other))))))))))

kind_again : (kind : ExtensionKind) → kind_at (kind_number kind) ≡ kind
kind_again Kind.KeyUsage = refl
kind_again Kind.AlternativeNames = refl
kind_again Kind.BasicConstraints = refl
kind_again Kind.NameConstraints = refl
kind_again Kind.DistributionPoints = refl
kind_again Kind.Policies = refl
kind_again Kind.PolicyMappings = refl
kind_again Kind.PolicyConstraints = refl
kind_again Kind.Purposes = refl
kind_again Kind.InhibitAnyPolicy = refl
kind_again Kind.NoCheck = refl
kind_again Kind.Other = refl

same_kind : (said kind : ExtensionKind) → (kind_number said == kind_number kind) ≡ true → said ≡ kind
same_kind said kind e = sym (kind_again said) ∙ ap kind_at (eqb-true (kind_number said) (kind_number kind) e) ∙ kind_again kind

-- what an extension makes of the value of a kind
abbrev set_value : ExtensionKind → Told → Option Place → Option Place
set_value kind one before = kept_if kind (kind_of_extension one.extension.oid) one.extension.value before

own : (n : ℕ) → (n == n) ≡ true
own n = grind (arith, nat_tests)

module _ (kind : ExtensionKind) (number : ℕ) (of_kind : kind_of_extension (id_ce number) ≡ kind) (has_type : (type : List ℕ) → kind_of_extension type ≡ kind → type ≡ id_ce number) where
  silent_value : (one : Told) (x : Option Place) → SaysSo one → one.extension.oid ≢ id_ce number → set_value kind one x ≡ x
  silent_value one x says other = elim (cases_Bool (kind_number (kind_of_extension one.extension.oid) == kind_number kind)) [
    | inl same ↦ absurd (other (has_type one.extension.oid (same_kind (kind_of_extension one.extension.oid) kind same)))
    | inr differs ↦ ap (λ b. if b then Some one.extension.value else x) differs
  ]

  spoken_value : (one : Told) (x : Option Place) → SaysSo one → one.extension.oid ≡ id_ce number → set_value kind one x ≡ Some one.extension.value
  spoken_value one x says is =
      let same : kind_of_extension one.extension.oid ≡ kind = ap kind_of_extension is ∙ of_kind in
      ap (λ b. if b then Some one.extension.value else x) (ap (λ (k : ExtensionKind). kind_number k == kind_number kind) same ∙ own (kind_number kind))

  value_in : (get : Extensions → Option Place) → ((one : Told) (before : Extensions) → get (after one before) ≡ set_value kind one (get before)) → get no_extensions ≡ None
      → (list : List Told) → AllByRecursion SaysSo list → AllPairs HaveOtherTypes list → IsValueOf (map extension_in list) number (get (all_told list no_extensions))
  value_in get commutes none list says pairs =
      subst (λ nothing. IsFieldOf (map extension_in list) (id_ce number) (λ value field. field ≡ Some value) nothing (get (all_told list no_extensions))) none
      (field_of get (set_value kind) (id_ce number) (λ value field. field ≡ Some value) commutes silent_value spoken_value list no_extensions says pairs)

values_of : (list : List Told) → AllByRecursion SaysSo list → AllPairs HaveOtherTypes list → AreValuesOf (map extension_in list) (all_told list no_extensions).values
values_of list says pairs = record {
  key_usage = value_in Kind.KeyUsage 15 of_key_usage (λ type is. type_in Kind.KeyUsage type is) (λ (x : Extensions). x.values.key_usage) (λ one before. refl) refl list says pairs;
  alternative_names = value_in Kind.AlternativeNames 17 of_alternative_names (λ type is. type_in Kind.AlternativeNames type is) (λ (x : Extensions). x.values.alternative_names) (λ one before. refl) refl list says pairs;
  basic_constraints = value_in Kind.BasicConstraints 19 of_basic_constraints (λ type is. type_in Kind.BasicConstraints type is) (λ (x : Extensions). x.values.basic_constraints) (λ one before. refl) refl list says pairs;
  name_constraints = value_in Kind.NameConstraints 30 of_name_constraints (λ type is. type_in Kind.NameConstraints type is) (λ (x : Extensions). x.values.name_constraints) (λ one before. refl) refl list says pairs;
  distribution_points = value_in Kind.DistributionPoints 31 of_distribution_points (λ type is. type_in Kind.DistributionPoints type is) (λ (x : Extensions). x.values.distribution_points) (λ one before. refl) refl list says pairs;
  policies = value_in Kind.Policies 32 of_policies (λ type is. type_in Kind.Policies type is) (λ (x : Extensions). x.values.policies) (λ one before. refl) refl list says pairs;
  policy_mappings = value_in Kind.PolicyMappings 33 of_policy_mappings (λ type is. type_in Kind.PolicyMappings type is) (λ (x : Extensions). x.values.policy_mappings) (λ one before. refl) refl list says pairs;
  policy_constraints = value_in Kind.PolicyConstraints 36 of_policy_constraints (λ type is. type_in Kind.PolicyConstraints type is) (λ (x : Extensions). x.values.policy_constraints) (λ one before. refl) refl list says pairs;
  purposes = value_in Kind.Purposes 37 of_purposes (λ type is. type_in Kind.Purposes type is) (λ (x : Extensions). x.values.purposes) (λ one before. refl) refl list says pairs;
  inhibit_any_policy = value_in Kind.InhibitAnyPolicy 54 of_inhibit_any_policy (λ type is. type_in Kind.InhibitAnyPolicy type is) (λ (x : Extensions). x.values.inhibit_any_policy) (λ one before. refl) refl list says pairs;
}

-- the fields of a list of extensions
fields_of : (list : List Told) → AllByRecursion SaysSo list → AllPairs HaveOtherTypes list → AreFieldsOf (map extension_in list) (all_told list no_extensions)
fields_of list says pairs = record {
  key_usage = field_of (λ (x : Extensions). x.key_usage) (λ one. told_key_usage one.saying) (id_ce 15) SaysKeyUsage (λ one before. refl) (λ one x. silent_key_usage one.extension one.saying x) (λ one x. spoken_key_usage one.extension one.saying x) list no_extensions says pairs;
  alternative_names = field_of (λ (x : Extensions). x.alternative_names) (λ one. told_alternative_names one.saying) (id_ce 17) AreAlternativeNames (λ one before. refl) (λ one x. silent_alternative_names one.extension one.saying x) (λ one x. spoken_alternative_names one.extension one.saying x) list no_extensions says pairs;
  basic_constraints = field_of (λ (x : Extensions). x.basic_constraints) (λ one. told_basic_constraints one.saying) (id_ce 19) SaysBasicConstraints (λ one before. refl) (λ one x. silent_basic_constraints one.extension one.saying x) (λ one x. spoken_basic_constraints one.extension one.saying x) list no_extensions says pairs;
  name_constraints = field_of (λ (x : Extensions). x.name_constraints) (λ one. told_name_constraints one.saying) (id_ce 30) IsNameConstraints (λ one before. refl) (λ one x. silent_name_constraints one.extension one.saying x) (λ one x. spoken_name_constraints one.extension one.saying x) list no_extensions says pairs;
  purposes = field_of (λ (x : Extensions). x.purposes) (λ one. told_purposes one.saying) (id_ce 37) ArePurposes (λ one before. refl) (λ one x. silent_purposes one.extension one.saying x) (λ one x. spoken_purposes one.extension one.saying x) list no_extensions says pairs;
  needs_policy_processing = (
    (λ marked. unmarked (marked_by (λ (x : Extensions). x.needs_policy_processing) (λ one. told_policy one.saying) (λ e. IsPolicyProcessing e.oid) (λ one before. refl) (λ one x. policy_set_by one.extension one.saying x) (λ one. policy_stays one.saying) (λ one x. policy_sets one.extension one.saying x) list no_extensions says marked)),
    marks (λ (x : Extensions). x.needs_policy_processing) (λ one. told_policy one.saying) (λ e. IsPolicyProcessing e.oid) (λ one before. refl) (λ one x. policy_set_by one.extension one.saying x) (λ one. policy_stays one.saying) (λ one x. policy_sets one.extension one.saying x) list no_extensions says,
  );
  critical_policies = (
    (λ marked. unmarked (marked_by (λ (x : Extensions). x.critical_policies) critical_by IsCriticalPolicies (λ one before. refl) (λ one x says. critical_set_by one x) critical_stays (λ one x says is. critical_sets one x is) list no_extensions says marked)),
    marks (λ (x : Extensions). x.critical_policies) critical_by IsCriticalPolicies (λ one before. refl) (λ one x says. critical_set_by one x) critical_stays (λ one x says is. critical_sets one x is) list no_extensions says,
  );
  no_check = (
    (λ marked. unmarked (marked_by (λ (x : Extensions). x.no_check) (λ one. told_no_check one.saying) (λ e. e.oid ≡ id_ocsp_no_check) (λ one before. refl) (λ one x. no_check_set_by one.extension one.saying x) (λ one. no_check_stays one.saying) (λ one x. no_check_sets one.extension one.saying x) list no_extensions says marked)),
    marks (λ (x : Extensions). x.no_check) (λ one. told_no_check one.saying) (λ e. e.oid ≡ id_ocsp_no_check) (λ one before. refl) (λ one x. no_check_set_by one.extension one.saying x) (λ one. no_check_stays one.saying) (λ one x. no_check_sets one.extension one.saying x) list no_extensions says,
  );
  unrecognised = listed_behind list no_extensions;
  values = values_of list says pairs;
}
  where
    unmarked : {A : Type 0} → (false ≡ true) ⊎ A → A
    unmarked (inl never) = absurd cc
    unmarked (inr a) = a

-- of each place that tells something, the extension and what it says
extensions_are_in : (values : List Place) (list : List Told) → AllZip Tells values list → AllZip IsExtension values (map extension_in list)
extensions_are_in [] [] all = tt
extensions_are_in [] (one ∷ list) all = absurd all
extensions_are_in (value ∷ values) [] all = absurd all
extensions_are_in (value ∷ values) (one ∷ list) all = (all.0.is_extension, extensions_are_in values list all.1)

say_so : (values : List Place) (list : List Told) → AllZip Tells values list → AllByRecursion SaysSo list
say_so [] [] all = tt
say_so [] (one ∷ list) all = absurd all
say_so (value ∷ values) [] all = absurd all
say_so (value ∷ values) (one ∷ list) all = (all.0.says, say_so values list all.1)

differ_in : (one : Told) (list : List Told) → AllByRecursion (HaveOtherTypes one) list → AllByRecursion (λ (e : Extension). one.extension.oid ≢ e.oid) (map extension_in list)
differ_in one [] all = tt
differ_in one (other ∷ list) all = (all.0, differ_in one list all.1)

types_differ : (list : List Told) → AllPairs HaveOtherTypes list → AllPairs (λ (a b : Extension). a.oid ≢ b.oid) (map extension_in list)
types_differ [] pairs = λ i j d lt within. absurd (omega arith)
types_differ (one ∷ list) pairs =
    AllPairs-cons (λ (a b : Extension). a.oid ≢ b.oid) one.extension (map extension_in list)
    (All-from_recursion (λ (e : Extension). one.extension.oid ≢ e.oid) (map extension_in list) (differ_in one list (first_pairs one list pairs)))
    (types_differ list (rest_pairs one list pairs))

pub extensions_by_field : ExtensionsAreByField
extensions_by_field value fields fits e =
    let read = are_extensions value fields fits e in
    let are = read.1 in
    record {
      list = map extension_in are.list;
      sequence = read.0;
      each = extensions_are_in ((members value).values) are.list are.each;
      types = types_differ are.list are.types;
      fields_are = subst (AreFieldsOf (map extension_in are.list)) (sym are.fields_are) (fields_of are.list (say_so ((members value).values) are.list are.each) are.types);
    }
