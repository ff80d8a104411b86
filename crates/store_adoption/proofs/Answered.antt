-- The texts that show all rows are not refused for what they ask.
use Rattle.std.proofs.Common.{◌≡◌, ℕ, List, [], ◌∷◌, length, true, false, Result, Ok, Err, refl, sym, subst, inl, inr}
use Rattle.sqlite_resolve.specs.declared.compiled.Compiled.{Compiled}
use Rattle.sqlite_resolve.specs.declared.error.CompileError.{CompileError}
use Rattle.sqlite_tied.specs.Compute.{everything}
use Rattle.sqlite_typing.specs.Types.{accepts_program}
use Rattle.sqlite.specs.Term.{Term, col}
use Rattle.sqlite.specs.Schema.{Schema}
use Rattle.sqlite.specs.Command.TheVariants.{Select}
use Rattle.sqlite.specs.Listing.{understood, reads_listing}
use Rattle.sqlite.proofs.Callers.{IsPlain, command_of}
use Rattle.store_sql.specs.declared.origin.Origin.{Origin}
use Rattle.store_sql.specs.declared.origin.Origin.TheVariants.{Made, Migrated}
use Rattle.store_sql.specs.Tables.{version_1_schema, store_schema, crls_tree, entries_tree}
use Rattle.store_sql.proofs.Laws.{IsWhole}
use Rattle.store_adoption.specs.Texts.{all_versions, all_issuers, all_crls, all_ocsp, all_entries, all_unscoped_crls, all_unscoped_entries}
use Rattle.store_adoption.specs.Tests.{IsTableQuery, IsSafeQuery}
use Rattle.store_adoption.proofs.Ordered.{in_order_of_ids}
use Rattle.store_adoption.proofs.Meaning.{shows_versions, shows_issuers, shows_crls, shows_singles, shows_entries, shows_old_versions, shows_old_issuers, shows_old_singles, shows_unscoped_crls, shows_unscoped_entries}

none_of : {X : Type 0} (xs : List X) → 0 ≡ length xs → xs ≡ []
none_of [] e = refl
none_of (x ∷ xs) e = absurd cc

served : (schema : Schema) (tree : ℕ) (project : List Term) (names : List (List ℕ)) → accepts_program schema [] (in_order_of_ids tree project) [] ≡ true
    → IsSafeQuery schema (Select (record { lets = []; body = in_order_of_ids tree project }) names)
served schema tree project names typed = (typed, λ trees over. elim over [ inl none ↦ none | inr any ↦ any.4 ])

pub answered : (schema : Schema) (text : List ℕ) (tree : ℕ) (project : List Term) (names : List (List ℕ)) (r : Result Compiled CompileError)
    → command_of r ≡ Select (record { lets = []; body = in_order_of_ids tree project }) names → reads_listing schema text ≡ false → IsPlain r → IsWhole text 0 r
    → accepts_program schema [] (in_order_of_ids tree project) [] ≡ true → IsTableQuery schema text r
answered schema text tree project names (Ok c) command listing plain whole typed =
    (listing, whole.0, none_of c.names whole.1, plain.0, plain.1, subst (IsSafeQuery schema) (sym command) (served schema tree project names typed))
answered schema text tree project names (Err e) command listing plain whole typed = absurd plain

-- ---- version 2

whole_versions : (origin : Origin) → IsWhole all_versions 0 (understood (store_schema origin) all_versions)
unfolding understood everything
whole_versions Made = (refl, refl)
whole_versions Migrated = (refl, refl)

typed_versions : (origin : Origin) → accepts_program (store_schema origin) [] (in_order_of_ids 0 (col 1 0 ∷ col 1 2 ∷ [])) [] ≡ true
typed_versions Made = refl
typed_versions Migrated = refl

pub answers_versions : (origin : Origin) → IsTableQuery (store_schema origin) all_versions (understood (store_schema origin) all_versions)
answers_versions origin = let it = shows_versions origin in answered (store_schema origin) all_versions 0 (col 1 0 ∷ col 1 2 ∷ []) _ (understood (store_schema origin) all_versions) it.0 it.1 it.2 (whole_versions origin) (typed_versions origin)

whole_issuers : (origin : Origin) → IsWhole all_issuers 0 (understood (store_schema origin) all_issuers)
unfolding understood everything
whole_issuers Made = (refl, refl)
whole_issuers Migrated = (refl, refl)

typed_issuers : (origin : Origin) → accepts_program (store_schema origin) [] (in_order_of_ids 1 (col 1 0 ∷ [])) [] ≡ true
typed_issuers Made = refl
typed_issuers Migrated = refl

pub answers_issuers : (origin : Origin) → IsTableQuery (store_schema origin) all_issuers (understood (store_schema origin) all_issuers)
answers_issuers origin = let it = shows_issuers origin in answered (store_schema origin) all_issuers 1 (col 1 0 ∷ []) _ (understood (store_schema origin) all_issuers) it.0 it.1 it.2 (whole_issuers origin) (typed_issuers origin)

whole_crls : (origin : Origin) → IsWhole all_crls 0 (understood (store_schema origin) all_crls)
unfolding understood everything
whole_crls Made = (refl, refl)
whole_crls Migrated = (refl, refl)

typed_crls : (origin : Origin) → accepts_program (store_schema origin) [] (in_order_of_ids (crls_tree origin) (col 1 1 ∷ col 1 2 ∷ col 1 3 ∷ [])) [] ≡ true
typed_crls Made = refl
typed_crls Migrated = refl

pub answers_crls : (origin : Origin) → IsTableQuery (store_schema origin) all_crls (understood (store_schema origin) all_crls)
answers_crls origin = let it = shows_crls origin in answered (store_schema origin) all_crls (crls_tree origin) (col 1 1 ∷ col 1 2 ∷ col 1 3 ∷ []) _ (understood (store_schema origin) all_crls) it.0 it.1 it.2 (whole_crls origin) (typed_crls origin)

whole_singles : (origin : Origin) → IsWhole all_ocsp 0 (understood (store_schema origin) all_ocsp)
unfolding understood everything
whole_singles Made = (refl, refl)
whole_singles Migrated = (refl, refl)

typed_singles : (origin : Origin) → accepts_program (store_schema origin) [] (in_order_of_ids 3 (col 1 1 ∷ col 1 8 ∷ col 1 9 ∷ [])) [] ≡ true
typed_singles Made = refl
typed_singles Migrated = refl

pub answers_singles : (origin : Origin) → IsTableQuery (store_schema origin) all_ocsp (understood (store_schema origin) all_ocsp)
answers_singles origin = let it = shows_singles origin in answered (store_schema origin) all_ocsp 3 (col 1 1 ∷ col 1 8 ∷ col 1 9 ∷ []) _ (understood (store_schema origin) all_ocsp) it.0 it.1 it.2 (whole_singles origin) (typed_singles origin)

whole_entries : (origin : Origin) → IsWhole all_entries 0 (understood (store_schema origin) all_entries)
unfolding understood everything
whole_entries Made = (refl, refl)
whole_entries Migrated = (refl, refl)

typed_entries : (origin : Origin) → accepts_program (store_schema origin) [] (in_order_of_ids (entries_tree origin) (col 1 0 ∷ col 1 2 ∷ col 1 3 ∷ col 1 4 ∷ col 1 5 ∷ [])) [] ≡ true
typed_entries Made = refl
typed_entries Migrated = refl

pub answers_entries : (origin : Origin) → IsTableQuery (store_schema origin) all_entries (understood (store_schema origin) all_entries)
answers_entries origin = let it = shows_entries origin in answered (store_schema origin) all_entries (entries_tree origin) (col 1 0 ∷ col 1 2 ∷ col 1 3 ∷ col 1 4 ∷ col 1 5 ∷ []) _ (understood (store_schema origin) all_entries) it.0 it.1 it.2 (whole_entries origin) (typed_entries origin)

-- ---- version 1

whole_old_versions : IsWhole all_versions 0 (understood version_1_schema all_versions)
unfolding understood everything
whole_old_versions = (refl, refl)

pub answers_old_versions : IsTableQuery version_1_schema all_versions (understood version_1_schema all_versions)
answers_old_versions = let it = shows_old_versions in answered version_1_schema all_versions 0 (col 1 0 ∷ col 1 2 ∷ []) _ (understood version_1_schema all_versions) it.0 it.1 it.2 whole_old_versions refl

whole_old_issuers : IsWhole all_issuers 0 (understood version_1_schema all_issuers)
unfolding understood everything
whole_old_issuers = (refl, refl)

pub answers_old_issuers : IsTableQuery version_1_schema all_issuers (understood version_1_schema all_issuers)
answers_old_issuers = let it = shows_old_issuers in answered version_1_schema all_issuers 1 (col 1 0 ∷ []) _ (understood version_1_schema all_issuers) it.0 it.1 it.2 whole_old_issuers refl

whole_old_singles : IsWhole all_ocsp 0 (understood version_1_schema all_ocsp)
unfolding understood everything
whole_old_singles = (refl, refl)

pub answers_old_singles : IsTableQuery version_1_schema all_ocsp (understood version_1_schema all_ocsp)
answers_old_singles = let it = shows_old_singles in answered version_1_schema all_ocsp 3 (col 1 1 ∷ col 1 8 ∷ col 1 9 ∷ []) _ (understood version_1_schema all_ocsp) it.0 it.1 it.2 whole_old_singles refl

whole_unscoped_crls : IsWhole all_unscoped_crls 0 (understood version_1_schema all_unscoped_crls)
unfolding understood everything
whole_unscoped_crls = (refl, refl)

pub answers_unscoped_crls : IsTableQuery version_1_schema all_unscoped_crls (understood version_1_schema all_unscoped_crls)
answers_unscoped_crls = let it = shows_unscoped_crls in answered version_1_schema all_unscoped_crls 5 (col 1 0 ∷ col 1 2 ∷ col 1 3 ∷ col 1 4 ∷ []) _ (understood version_1_schema all_unscoped_crls) it.0 it.1 it.2 whole_unscoped_crls refl

whole_unscoped_entries : IsWhole all_unscoped_entries 0 (understood version_1_schema all_unscoped_entries)
unfolding understood everything
whole_unscoped_entries = (refl, refl)

pub answers_unscoped_entries : IsTableQuery version_1_schema all_unscoped_entries (understood version_1_schema all_unscoped_entries)
answers_unscoped_entries = let it = shows_unscoped_entries in answered version_1_schema all_unscoped_entries 6 (col 1 1 ∷ col 1 2 ∷ col 1 3 ∷ []) _ (understood version_1_schema all_unscoped_entries) it.0 it.1 it.2 whole_unscoped_entries refl
