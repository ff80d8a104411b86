-- The types of extensions behind id-ce, by the numbers that the walks know; which of a list have one.
use Rattle.std.proofs.Common.{◌≡◌, ◌≢◌, ◌==◌, ◌&&◌, ◌⊎◌, ℕ, suc, Bool, true, false, not, List, [], ◌∷◌, All, Any, AllPairs, Option, Some, None, if◌then◌else◌, arith, refl, sym, ap, ◌∙◌, subst, inl, inr}
use Rattle.std.specs.List.{AllZip}
use Rattle.std.specs.Str.{bytes_eq}
use Rattle.std.proofs.lemmas.List.Elements.{All-nil, All-cons}
use Rattle.std.proofs.lemmas.Slice.Eq.{bytes_eq-Decides}
use Rattle.asn.specs.Place.{Place}
use Rattle.cert.specs.Extension.{Extension, IsExtension}
use Rattle.std.proofs.lemmas.Bool.{and_parts, eqb-true, eqb-false}
use Rattle.cert.specs.Extensions.{certificate_extension}
use Rattle.statements_crl.specs.declared.entry_extension.EntryExtensionKind.{EntryExtensionKind}
use Rattle.statements_crl.specs.declared.entry_extension.EntryExtensionKind.TheVariants as OfEntry
use Rattle.statements_crl.specs.declared.list_extension.ListExtensionKind.{ListExtensionKind}
use Rattle.statements_crl.specs.declared.list_extension.ListExtensionKind.TheVariants as OfList
use Rattle.statements_crl.specs.EntryExtension.{entry_extension_kind, entry_kind_in}
use Rattle.statements_crl.specs.ListExtension.{list_extension_kind, list_kind_in}
use Rattle.statements_crl.specs.EntryForms.{id_ce}

pub some_where : {A : Type 0} (b : Bool) (one found : A) → (if b then Some one else None) ≡ Some found → (b ≡ true) × (one ≡ found)
some_where true one found e = (refl, cc)
some_where false one found e = absurd cc

number_is : (oid : List ℕ) (number : ℕ) → certificate_extension oid ≡ Some number → oid ≡ id_ce number
unfolding certificate_extension
number_is [] number e = absurd cc
number_is (first ∷ []) number e = absurd cc
number_is (first ∷ second ∷ []) number e = absurd cc
number_is (first ∷ second ∷ found ∷ []) number e =
    let chosen = some_where (first == 0x55 && second == 0x1D) found number e in
    let both = and_parts (first == 0x55) (second == 0x1D) chosen.0 in
    rw (eqb-true first 0x55 both.0, eqb-true second 0x1D both.1, chosen.1) refl
number_is (first ∷ second ∷ found ∷ other ∷ octets) number e = absurd cc

number_of : (number : ℕ) → certificate_extension (id_ce number) ≡ Some number
unfolding certificate_extension
number_of number = refl

is_other : (oid : List ℕ) (number : ℕ) (found : Option ℕ) → certificate_extension oid ≡ found → found ≢ Some number → oid ≢ id_ce number
is_other oid number found e differ same = differ (sym e ∙ ap certificate_extension same ∙ number_of number)

none_is : (number : ℕ) → None ≢ Some number
none_is number e = absurd cc

differs : (n m : ℕ) → (n == m) ≡ false → Some n ≢ Some m
differs n m e same = eqb-false n m e injected
  where
    injected : n ≡ m
    injected = cc

-- one type has one number
pub one_number : (oid : List ℕ) (n m : ℕ) → oid ≡ id_ce n → (n == m) ≡ false → oid ≢ id_ce m
one_number oid n m is differ = is_other oid m (Some n) (ap certificate_extension is ∙ number_of n) (differs n m differ)

-- of entries
abbrev pub HasType : EntryExtensionKind → List ℕ → Type 0
HasType OfEntry.ReasonCode oid = oid ≡ id_ce 21
HasType OfEntry.InvalidityDate oid = oid ≡ id_ce 24
HasType OfEntry.CertificateIssuer oid = oid ≡ id_ce 29
HasType OfEntry.Other oid = (oid ≢ id_ce 21) × (oid ≢ id_ce 24) × (oid ≢ id_ce 29)

by_number : (oid : List ℕ) (n : ℕ) (a b c : Bool) → certificate_extension oid ≡ Some n → (n == 21) ≡ a → (n == 24) ≡ b → (n == 29) ≡ c
    → HasType (if a then OfEntry.ReasonCode else (if b then OfEntry.InvalidityDate else (if c then OfEntry.CertificateIssuer else OfEntry.Other))) oid
by_number oid n true b c e x y z = number_is oid n e ∙ ap id_ce (eqb-true n 21 x)
by_number oid n false true c e x y z = number_is oid n e ∙ ap id_ce (eqb-true n 24 y)
by_number oid n false false true e x y z = number_is oid n e ∙ ap id_ce (eqb-true n 29 z)
by_number oid n false false false e x y z = (
  is_other oid 21 (Some n) e (differs n 21 x),
  is_other oid 24 (Some n) e (differs n 24 y),
  is_other oid 29 (Some n) e (differs n 29 z),
)

in_option : (oid : List ℕ) (found : Option ℕ) → certificate_extension oid ≡ found → HasType (entry_kind_in found) oid
in_option oid None e = (is_other oid 21 None e (none_is 21), is_other oid 24 None e (none_is 24), is_other oid 29 None e (none_is 29))
in_option oid (Some n) e = by_number oid n (n == 21) (n == 24) (n == 29) e refl refl refl

pub has_type : (oid : List ℕ) → HasType (entry_extension_kind oid) oid
unfolding entry_extension_kind
has_type oid = in_option oid (certificate_extension oid) refl

-- of lists
abbrev pub HasListType : ListExtensionKind → List ℕ → Type 0
HasListType OfList.CrlNumber oid = oid ≡ id_ce 20
HasListType OfList.DeltaIndicator oid = oid ≡ id_ce 27
HasListType OfList.IssuingDistributionPoint oid = oid ≡ id_ce 28
HasListType OfList.Other oid = (oid ≢ id_ce 20) × (oid ≢ id_ce 27) × (oid ≢ id_ce 28)

by_list_number : (oid : List ℕ) (n : ℕ) (a b c : Bool) → certificate_extension oid ≡ Some n → (n == 20) ≡ a → (n == 27) ≡ b → (n == 28) ≡ c
    → HasListType (if a then OfList.CrlNumber else (if b then OfList.DeltaIndicator else (if c then OfList.IssuingDistributionPoint else OfList.Other))) oid
by_list_number oid n true b c e x y z = number_is oid n e ∙ ap id_ce (eqb-true n 20 x)
by_list_number oid n false true c e x y z = number_is oid n e ∙ ap id_ce (eqb-true n 27 y)
by_list_number oid n false false true e x y z = number_is oid n e ∙ ap id_ce (eqb-true n 28 z)
by_list_number oid n false false false e x y z = (
  is_other oid 20 (Some n) e (differs n 20 x),
  is_other oid 27 (Some n) e (differs n 27 y),
  is_other oid 28 (Some n) e (differs n 28 z),
)

in_list_option : (oid : List ℕ) (found : Option ℕ) → certificate_extension oid ≡ found → HasListType (list_kind_in found) oid
in_list_option oid None e = (is_other oid 20 None e (none_is 20), is_other oid 27 None e (none_is 27), is_other oid 28 None e (none_is 28))
in_list_option oid (Some n) e = by_list_number oid n (n == 20) (n == 27) (n == 28) e refl refl refl

pub has_list_type : (oid : List ℕ) → HasListType (list_extension_kind oid) oid
unfolding list_extension_kind
has_list_type oid = in_list_option oid (certificate_extension oid) refl

-- whether the type of an extension has this number
pub has_number : (number : ℕ) (oid : List ℕ) → (oid ≡ id_ce number) ⊎ (oid ≢ id_ce number)
has_number number oid = by (bytes_eq oid (id_ce number)) refl where
  by : (b : Bool) → bytes_eq oid (id_ce number) ≡ b → (oid ≡ id_ce number) ⊎ (oid ≢ id_ce number)
  by true e = inl ((bytes_eq-Decides oid (id_ce number)).0 e)
  by false e = inr (λ same. let yes = (bytes_eq-Decides oid (id_ce number)).1 same in let both : true ≡ false = sym yes ∙ e in absurd cc)

abbrev pub Differs : ℕ → Extension → Type 0
Differs number one = one.oid ≢ id_ce number

-- extensions behind one of a type are of others
pub others_differ : (number : ℕ) (one : Extension) (others : List Extension) → AllPairs (λ one other. one.oid ≢ other.oid) (one ∷ others) → one.oid ≡ id_ce number → All (Differs number) others
others_differ number one others pairs is = λ k d within same. pairs 0 (suc k) d (omega arith) (omega arith) (is ∙ sym same)

pub some_or_none : (number : ℕ) (list : List Extension) → Any (λ one. one.oid ≡ id_ce number) list ⊎ All (Differs number) list
some_or_none number [] = inr (All-nil (Differs number))
some_or_none number (one ∷ list) = by (has_number number one.oid) (some_or_none number list) where
  by : (one.oid ≡ id_ce number) ⊎ (one.oid ≢ id_ce number) → Any (λ one. one.oid ≡ id_ce number) list ⊎ All (Differs number) list → Any (λ one. one.oid ≡ id_ce number) (one ∷ list) ⊎ All (Differs number) (one ∷ list)
  by (inl is) rest = inl (0, one, omega arith, refl, is)
  by (inr differ) (inl (k, found, within, at, is)) = inl (suc k, found, omega arith, at, is)
  by (inr differ) (inr none) = inr (All-cons (Differs number) one list differ none)

pub not_all_differ : (number : ℕ) (list : List Extension) → Any (λ one. one.oid ≡ id_ce number) list → All (Differs number) list → ⊥
not_all_differ number list (k, found, within, at, is) none = none k found within (ap (λ (one : Extension). one.oid) at ∙ is)

-- the list of extensions beside the places where they stand
pub not_none : (values : List Place) (list : List Extension) (value : Place) (others : List Place) → values ≡ value ∷ others → AllZip IsExtension values list → list ≢ []
not_none values [] value others e zip = λ none. absurd (subst (λ vs. AllZip IsExtension vs []) e zip)
not_none values (one ∷ list) value others e zip = λ none. absurd cc

pub is_some_of : (values : List Place) (list : List Extension) → AllZip IsExtension values list → list ≢ [] → (value : Place) × (others : List Place) × (values ≡ value ∷ others)
is_some_of [] [] zip some = absurd (some refl)
is_some_of [] (one ∷ list) zip some = absurd zip
is_some_of (value ∷ others) list zip some = (value, others, refl)

pub false_of : (b : Bool) → not b ≡ true → b ≡ false
false_of true e = absurd cc
false_of false e = refl

pub not_critical : (b : Bool) → b ≡ false → b ≡ true → ⊥
not_critical b off on = let both : true ≡ false = sym on ∙ off in absurd cc

pub uncritical : (b : Bool) → (b ≡ true → ⊥) → not b ≡ true
uncritical true refused = absurd (refused refl)
uncritical false refused = refl
