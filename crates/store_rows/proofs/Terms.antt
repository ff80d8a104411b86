-- Which rows the terms of the texts hold for.
use Rattle.std.proofs.Common.{◌≡◌, ℕ, ℤ, pos, List, [], ◌∷◌, Bool, true, false, ◌&&◌, ◌==◌, refl, ap, ◌∙◌, cond}
use Rattle.std.specs.List.{list_all}
use Rattle.std.specs.Str.{bytes_eq}
use Rattle.std.specs.Ordering.{is_ge, is_lt, int_cmp}
use Rattle.sqlite_value.proofs.OrderLemmas.{value_cmp-Int}
use Rattle.sqlite_sql.specs.declared.ops.BinaryOp.TheVariants.{Compare}
use Rattle.sqlite_sql.specs.declared.ops.CompareOp.TheVariants.{Ge, Lt}
use Rattle.sqlite.specs.Collation.TheVariants.{Binary}
use Rattle.sqlite.specs.Ops.{binary, unary, is_true}
use Rattle.sqlite.specs.Cast.{cast}
use Rattle.sqlite_rules.specs.Cast.{as_integer}
use Rattle.sqlite.specs.Kind.TheVariants.{Integer}
use Rattle.sqlite.specs.declared.types.Value.{Value}
use Rattle.sqlite.specs.declared.types.Value.TheVariants.{Null, Int, Blob}
use Rattle.statements_facts.specs.declared.scope.Scope.{Scope}
use Rattle.statements_facts.specs.Statement.{IssuerIdentity}
use Rattle.store_sql.specs.Queries.{is_param, from_param, below_param}
use Rattle.store_sql.proofs.Laws.{passing, truth_of, equal_blobs, equal_ints}
use Rattle.store_rows.specs.Contents.{IssuerRow, CrlRow, EntryRow, SingleRow, issuer_row, crl_row, entry_row, single_row, scope_number, is_issuer, is_crl_of, is_single_of}
use Rattle.store_rows.specs.Places.{is_at}
use Rattle.store_rows.proofs.Naturals.{same_pos}

one_true : (a : Bool) → list_all (λ (x : Bool). x) (a ∷ []) ≡ a
one_true true = refl
one_true false = refl

two_true : (a b : Bool) → list_all (λ (x : Bool). x) (a ∷ b ∷ []) ≡ (a && b)
two_true true true = refl
two_true true false = refl
two_true false b = refl

three_true : (a b c : Bool) → list_all (λ (x : Bool). x) (a ∷ b ∷ c ∷ []) ≡ (a && (b && c))
three_true true true true = refl
three_true true true false = refl
three_true true false c = refl
three_true false b c = refl

pub passes_issuer : (identity : IssuerIdentity) (row : IssuerRow) → passing (is_param 2 0 ∷ is_param 3 1 ∷ []) (Blob identity.name ∷ Blob identity.key_info ∷ []) (issuer_row row) ≡ is_issuer identity row
passes_issuer identity row = rw (equal_blobs row.identity.name identity.name, equal_blobs row.identity.key_info identity.key_info) (two_true (bytes_eq row.identity.name identity.name) (bytes_eq row.identity.key_info identity.key_info))

pub passes_crl : (issuer : ℕ) (scope : Scope) (row : CrlRow) → passing (is_param 1 0 ∷ is_param 2 1 ∷ []) (Int (pos issuer) ∷ Int (pos (scope_number scope)) ∷ []) (crl_row row) ≡ is_crl_of issuer scope row
passes_crl issuer scope row = rw (equal_ints (pos row.issuer) (pos issuer), equal_ints (pos (scope_number row.scope)) (pos (scope_number scope)), same_pos row.issuer issuer, same_pos (scope_number row.scope) (scope_number scope)) (two_true (row.issuer == issuer) (scope_number row.scope == scope_number scope))

pub passes_single : (issuer : ℕ) (name_hash serial : List ℕ) (row : SingleRow) → passing (is_param 1 0 ∷ is_param 2 1 ∷ is_param 3 2 ∷ []) (Int (pos issuer) ∷ Blob name_hash ∷ Blob serial ∷ []) (single_row row) ≡ is_single_of issuer name_hash serial row
passes_single issuer name_hash serial row = rw (equal_ints (pos row.issuer) (pos issuer), equal_blobs row.name_hash name_hash, equal_blobs row.serial serial, same_pos row.issuer issuer) (three_true (row.issuer == issuer) (bytes_eq row.name_hash name_hash) (bytes_eq row.serial serial))

pub passes_at : (place : ℕ) (row : EntryRow) → passing (is_param 0 0 ∷ []) (Int (pos place) ∷ []) (entry_row row) ≡ is_at place row
passes_at place row = rw (equal_ints (pos row.place) (pos place), same_pos row.place place) (one_true (row.place == place))

-- its place is in the range
abbrev pub in_range : ℕ → ℕ → EntryRow → Bool
in_range first end row = is_ge (int_cmp (pos row.place) (pos first)) && is_lt (int_cmp (pos row.place) (pos end))

from_ints : (a b : ℤ) → is_true (binary (Compare Ge Binary) (Int a) (Int b)) ≡ is_ge (int_cmp a b)
unfolding binary
from_ints a b = truth_of _ ∙ ap is_ge (value_cmp-Int a b)

below_ints : (a b : ℤ) → is_true (binary (Compare Lt Binary) (Int a) (Int b)) ≡ is_lt (int_cmp a b)
unfolding binary
below_ints a b = truth_of _ ∙ ap is_lt (value_cmp-Int a b)

pub passes_range : (first end : ℕ) (row : EntryRow) → passing (from_param 0 0 ∷ below_param 0 1 ∷ []) (Int (pos first) ∷ Int (pos end) ∷ []) (entry_row row) ≡ in_range first end row
passes_range first end row = rw (from_ints (pos row.place) (pos first), below_ints (pos row.place) (pos end)) (two_true (is_ge (int_cmp (pos row.place) (pos first))) (is_lt (int_cmp (pos row.place) (pos end))))

-- ---- values that a column keeps as they are

same_branches : (b : Bool) (x : Value) → cond b x x ≡ x
same_branches true x = refl
same_branches false x = refl

pub cast_null : cast Integer Null ≡ Null
unfolding unary
cast_null = same_branches _ Null

pub cast_int : (n : ℤ) → cast Integer (Int n) ≡ Int n
unfolding unary
cast_int n = same_branches _ (Int n)

pub as_int : (n : ℤ) → as_integer (Int n) ≡ Int n
unfolding unary
as_int n = same_branches _ (Int n)
