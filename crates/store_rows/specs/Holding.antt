-- A database whose tables hold these rows.
use Rattle.std.specs.Prelude.{◌≡◌, ◌<◌, ◌≤◌, ◌+◌, ◌^◌, ◌<ℤ◌, ⊤, ℕ, not, List, [], ◌∷◌, ◌++◌, length, map, filter, fold}
use Rattle.std.specs.List.{AllByRecursion}
use Rattle.sqlite.specs.Effect.{Database, IsDatabase}
use Rattle.sqlite.specs.Edit.{next_rowid}
use Rattle.sqlite_trees.specs.Tree.{IsAscending}
use Rattle.statements_facts.specs.declared.profile.Profile.{Profile}
use Rattle.statements_facts.specs.declared.scope.Scope.{Scope}
use Rattle.statements_facts.specs.declared.single.Status.{Status}
use Rattle.statements_facts.specs.declared.single.Status.TheVariants.{Good, Revoked, Unknown}
use Rattle.statements_facts.specs.Listed.{ListedSerial, IsAscending as Ascend}
use Rattle.statements_facts.specs.declared.single.Single.{Single}
use Rattle.statements_facts.specs.Single.{SingleFact, seen_single}
use Rattle.statements_facts.specs.Statement.{IssuerIdentity, Window, OcspFact}
use Rattle.store_sql.specs.declared.origin.Origin.{Origin}
use Rattle.store_sql.specs.Tables.{store_schema, crls_tree, entries_tree}
use Rattle.store_rows.specs.Contents.{IssuerRow, CrlRow, SingleRow, Contents, CrlHead, head_of, issuer_row, crl_row, entry_row, single_row, version_row, scope_number, is_crl_of, is_single_of}
use Rattle.store_rows.specs.declared.crl.Head.{Head}
use Rattle.store_rows.specs.declared.entry.ListKey.{ListKey}
use Rattle.store_rows.specs.Places.{ArePlaced, replaced}
use Rattle.store_rows.specs.Seen.{seen_head}

-- the tables are those of a store, these are their rows, and ids rise
pub record HasContents (db : Database) (origin : Origin) (it : Contents) : Type 0 where
  pub schema_is : db.schema ≡ store_schema origin
  pub sound : IsDatabase db
  pub version : db.trees 0 ≡ version_row it.profile ∷ []
  pub issuers : db.trees 1 ≡ map issuer_row it.issuers
  pub singles : db.trees 3 ≡ map single_row it.singles
  pub crls : db.trees (crls_tree origin) ≡ map crl_row it.crls
  pub entries : db.trees (entries_tree origin) ≡ map entry_row it.entries
  pub issuers_rise : IsAscending (λ one other. one.id < other.id) it.issuers
  pub singles_rise : IsAscending (λ one other. one.id <ℤ other.id) it.singles
  pub crls_rise : IsAscending (λ one other. one.id <ℤ other.id) it.crls
  pub entries_rise : IsAscending (λ one other. one.place < other.place) it.entries

-- ---- the form of what is written

abbrev pub HasReason : Status → Type 0
HasReason Good = ⊤
HasReason (Revoked reason) = reason < 256
HasReason Unknown = ⊤

abbrev pub HasByte : ListedSerial → Type 0
HasByte listed = listed.reason < 256

abbrev pub IsSaid : OcspFact → Type 0
IsSaid fact = HasReason fact.status

-- the places of an issuer's entries are below 2^63
abbrev pub HasRoom : ℕ → Type 0
HasRoom id = id < 536870911

-- a CRL number (RFC 5280, 5.2.3)
abbrev pub IsNumbered : CrlHead → Type 0
IsNumbered head = head.number < 2 ^ 160

-- entries that can stand in the places of a list
pub record FitInList (listed : List ListedSerial) : Type 0 where
  pub few : length listed ≤ 4294967296
  pub ascend : Ascend listed
  pub bytes : AllByRecursion HasByte listed

-- ids, numbers and reasons are as the code can have them, and each entry stands in its place
pub record AreInForm (it : Contents) : Type 0 where
  pub ids : AllByRecursion (λ row. HasRoom row.id) it.issuers
  pub numbers : AllByRecursion (λ row. IsNumbered (head_of row)) it.crls
  pub reasons : AllByRecursion (λ row. HasByte row.listed) it.entries
  pub statuses : AllByRecursion (λ row. IsSaid row.fact) it.singles
  pub placed : ArePlaced it.entries

-- ---- changes

-- one more than the last id, or 1
abbrev pub next_id : List IssuerRow → ℕ
next_id = fold (λ id row. row.id + 1) 1

abbrev pub with_issuer : IssuerIdentity → Contents → Contents
with_issuer identity it = record it { issuers = it.issuers ++ record { id = next_id it.issuers; identity = identity } ∷ [] }

-- SQLite gives a row an id behind all others
abbrev pub crls_and : ℕ → Scope → ℕ → Window → List CrlRow → List CrlRow
crls_and issuer scope number window rows = rows ++ record { id = next_rowid (map crl_row rows); issuer = issuer; scope = scope; number = number; window = window } ∷ []

-- a list in the place of that of its issuer and scope, without the entries
abbrev pub with_crl : ℕ → Scope → CrlHead → Contents → Contents
with_crl issuer scope head it = record it { crls = crls_and issuer scope head.number head.window (filter (λ row. not (is_crl_of issuer scope row)) it.crls) }

abbrev pub singles_and : ℕ → List ℕ → List ℕ → OcspFact → List SingleRow → List SingleRow
singles_and issuer name_hash serial fact rows = rows ++ record { id = next_rowid (map single_row rows); issuer = issuer; name_hash = name_hash; serial = serial; fact = fact } ∷ []

-- what is said of a certificate, in the place of what was said of it
abbrev pub with_single : ℕ → SingleFact → Contents → Contents
with_single issuer single it = record it {
  singles = singles_and issuer single.name_hash single.serial single.fact (filter (λ row. not (is_single_of issuer single.name_hash single.serial row)) it.singles);
}

-- the entries of a list, in the place of those that stood there
abbrev pub with_entries : ℕ → ℕ → List ListedSerial → Contents → Contents
with_entries issuer scope listed it = record it { entries = replaced it.entries issuer scope listed }

abbrev pub no_contents : Profile → Contents
no_contents profile = record { profile = profile; issuers = []; crls = []; entries = []; singles = [] }

-- ---- changes by what the code holds

abbrev pub with_head : ℕ → Scope → Head → Contents → Contents
with_head issuer scope head = with_crl issuer scope (seen_head head)

abbrev pub with_said : ℕ → Single → Contents → Contents
with_said issuer single = with_single issuer (seen_single single)

abbrev pub with_listed : ListKey → List ListedSerial → Contents → Contents
with_listed list listed = with_entries list.issuer (scope_number list.scope) listed
