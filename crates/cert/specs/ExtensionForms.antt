-- The extensions of a certificate by their layout, in the words of the standard (RFC 5280, 4.2).
use Rattle.std.specs.Prelude.{◌≡◌, ◌≢◌, true, List, [], ◌∷◌, AllPairs}
use Rattle.std.specs.List.{AllZip}
use Rattle.asn.specs.Place.{Place}
use Rattle.asn.specs.Members.{members}
use Rattle.cert.specs.declared.extension_kind.ExtensionKind.TheVariants as Kind
use Rattle.cert.specs.Extension.{Extension, IsExtension}
use Rattle.cert.specs.KeyUsage.{IsKeyUsage}
use Rattle.cert.specs.AlternativeNames.{AreAlternativeNames}
use Rattle.cert.specs.BasicConstraints.{IsBasicConstraints}
use Rattle.cert.specs.NameConstraints.{IsNameConstraints}
use Rattle.cert.specs.Purposes.{ArePurposes}
use Rattle.cert.specs.Extensions.{Extensions, no_extensions, Saying, key_usage_is, alternative_names_are, basic_constraints_are, name_constraints_are, purposes_are, policies_are_processed, need_not_be_checked, says_nothing, is_only_kept, is_policy_kind, kind_of_extension, one_told}

-- the extension says this, by its kind; its value is looked into where the kind has one that decides something
abbrev pub Says : Extension → Saying → Type 0
Says e (key_usage_is bits) = (kind_of_extension e.oid ≡ Kind.KeyUsage) × IsKeyUsage e.value bits
Says e (alternative_names_are names) = (kind_of_extension e.oid ≡ Kind.AlternativeNames) × AreAlternativeNames e.value names
Says e (basic_constraints_are fields) = (kind_of_extension e.oid ≡ Kind.BasicConstraints) × IsBasicConstraints e.value fields
Says e (name_constraints_are fields) = (kind_of_extension e.oid ≡ Kind.NameConstraints) × IsNameConstraints e.value fields
Says e (purposes_are list) = (kind_of_extension e.oid ≡ Kind.Purposes) × ArePurposes e.value list
Says e policies_are_processed = is_policy_kind (kind_of_extension e.oid) ≡ true
Says e need_not_be_checked = kind_of_extension e.oid ≡ Kind.NoCheck
Says e says_nothing = is_only_kept (kind_of_extension e.oid) ≡ true

-- an extension with what it says
pub record Told : Type 0 where
  pub extension : Extension
  pub saying : Saying

-- the place is an extension that says this
pub record Tells (value : Place) (one : Told) : Type 0 where
  pub is_extension : IsExtension value one.extension
  pub says : Says one.extension one.saying

-- what a list of extensions says, from what is known before
abbrev pub all_told : List Told → Extensions → Extensions
all_told [] before = before
all_told (one ∷ others) before = all_told others (one_told one.extension one.saying before)

-- Extensions ::= SEQUENCE SIZE (1..MAX) OF Extension: at least one, no two of one type (4.2)
pub record AreExtensions (value : Place) (fields : Extensions) : Type 0 where
  pub list : List Told
  pub some : list ≢ []
  pub each : AllZip Tells (members value).values list
  pub types : AllPairs (λ one other. one.extension.oid ≢ other.extension.oid) list
  pub fields_are : fields ≡ all_told list no_extensions
