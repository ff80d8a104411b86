-- A statement changes the rows of one table, and the others hold what they held.
use Rattle.std.proofs.Common.{◌≡◌, ◌≢◌, ℕ, ◌<◌, ◌<ℤ◌, List, map, arith, ◌∙◌}
use Rattle.std.specs.List.{AllByRecursion}
use Rattle.sqlite_trees.specs.Tree.{IsAscending, Trees}
use Rattle.sqlite.specs.State.{State}
use Rattle.store_sql.specs.declared.origin.Origin.{Origin}
use Rattle.store_sql.specs.declared.origin.Origin.TheVariants.{Made, Migrated}
use Rattle.store_sql.specs.Tables.{store_schema, crls_tree, entries_tree}
use Rattle.store_sql.proofs.Laws.{Leaves}
use Rattle.store_rows.specs.Contents.{IssuerRow, CrlRow, EntryRow, SingleRow, Contents, issuer_row, crl_row, entry_row, single_row}
use Rattle.store_rows.specs.Holding.{HasContents}

record Others (origin : Origin) (tree : ℕ) (was now : Trees) : Type 0 where
  meta : 0 ≢ tree → now 0 ≡ was 0
  issuers : 1 ≢ tree → now 1 ≡ was 1
  singles : 3 ≢ tree → now 3 ≡ was 3
  crls : crls_tree origin ≢ tree → now (crls_tree origin) ≡ was (crls_tree origin)
  entries : entries_tree origin ≢ tree → now (entries_tree origin) ≡ was (entries_tree origin)

others_of : (origin : Origin) (tree : ℕ) (was now : Trees) → AllByRecursion (λ t. t.tree ≢ tree → now t.tree ≡ was t.tree) (store_schema origin).tables → Others origin tree was now
others_of Made tree was now h = record { meta = h.0; issuers = h.1.0; singles = h.1.1.0; crls = h.1.1.1.0; entries = h.1.1.1.1.0 }
others_of Migrated tree was now h = record { meta = h.0; issuers = h.1.0; singles = h.1.1.0; crls = h.1.1.1.1.1.0; entries = h.1.1.1.1.1.1.0 }

-- the trees of the two tables of version 2 are behind the others
record AreFar (origin : Origin) : Type 0 where
  low : 4 < crls_tree origin
  high : crls_tree origin < entries_tree origin

far : (origin : Origin) → AreFar origin
far Made = record { low = omega arith; high = omega arith }
far Migrated = record { low = omega arith; high = omega arith }

module _ (origin : Origin) (was now : State) (it : Contents) (held : HasContents was.now origin it) where
  pub issuers_change : (rows : List IssuerRow) → IsAscending (λ (one other : IssuerRow). one.id < other.id) rows → Leaves (store_schema origin) 1 was now (map issuer_row rows) → HasContents now.now origin (record it { issuers = rows })
  issuers_change rows rise left =
      let others = others_of origin 1 was.now.trees now.now.trees left.others in
      let low = (far origin).low in
      let high = (far origin).high in
      record {
        schema_is = left.schema_is;
        sound = left.sound;
        version = others.meta (λ e. omega (arith, e)) ∙ held.version;
        issuers = left.rows_are;
        singles = others.singles (λ e. omega (arith, e)) ∙ held.singles;
        crls = others.crls (λ e. omega (arith, e, low)) ∙ held.crls;
        entries = others.entries (λ e. omega (arith, e, low, high)) ∙ held.entries;
        issuers_rise = rise;
        singles_rise = held.singles_rise;
        crls_rise = held.crls_rise;
        entries_rise = held.entries_rise;
      }

  pub singles_change : (rows : List SingleRow) → IsAscending (λ (one other : SingleRow). one.id <ℤ other.id) rows → Leaves (store_schema origin) 3 was now (map single_row rows) → HasContents now.now origin (record it { singles = rows })
  singles_change rows rise left =
      let others = others_of origin 3 was.now.trees now.now.trees left.others in
      let low = (far origin).low in
      let high = (far origin).high in
      record {
        schema_is = left.schema_is;
        sound = left.sound;
        version = others.meta (λ e. omega (arith, e)) ∙ held.version;
        issuers = others.issuers (λ e. omega (arith, e)) ∙ held.issuers;
        singles = left.rows_are;
        crls = others.crls (λ e. omega (arith, e, low)) ∙ held.crls;
        entries = others.entries (λ e. omega (arith, e, low, high)) ∙ held.entries;
        issuers_rise = held.issuers_rise;
        singles_rise = rise;
        crls_rise = held.crls_rise;
        entries_rise = held.entries_rise;
      }

  pub crls_change : (rows : List CrlRow) → IsAscending (λ (one other : CrlRow). one.id <ℤ other.id) rows → Leaves (store_schema origin) (crls_tree origin) was now (map crl_row rows) → HasContents now.now origin (record it { crls = rows })
  crls_change rows rise left =
      let others = others_of origin (crls_tree origin) was.now.trees now.now.trees left.others in
      let low = (far origin).low in
      let high = (far origin).high in
      record {
        schema_is = left.schema_is;
        sound = left.sound;
        version = others.meta (λ e. omega (arith, e, low)) ∙ held.version;
        issuers = others.issuers (λ e. omega (arith, e, low)) ∙ held.issuers;
        singles = others.singles (λ e. omega (arith, e, low)) ∙ held.singles;
        crls = left.rows_are;
        entries = others.entries (λ e. omega (arith, e, high)) ∙ held.entries;
        issuers_rise = held.issuers_rise;
        singles_rise = held.singles_rise;
        crls_rise = rise;
        entries_rise = held.entries_rise;
      }

  pub entries_change : (rows : List EntryRow) → IsAscending (λ (one other : EntryRow). one.place < other.place) rows → Leaves (store_schema origin) (entries_tree origin) was now (map entry_row rows) → HasContents now.now origin (record it { entries = rows })
  entries_change rows rise left =
      let others = others_of origin (entries_tree origin) was.now.trees now.now.trees left.others in
      let low = (far origin).low in
      let high = (far origin).high in
      record {
        schema_is = left.schema_is;
        sound = left.sound;
        version = others.meta (λ e. omega (arith, e, low, high)) ∙ held.version;
        issuers = others.issuers (λ e. omega (arith, e, low, high)) ∙ held.issuers;
        singles = others.singles (λ e. omega (arith, e, low, high)) ∙ held.singles;
        crls = others.crls (λ e. omega (arith, e, high)) ∙ held.crls;
        entries = left.rows_are;
        issuers_rise = held.issuers_rise;
        singles_rise = held.singles_rise;
        crls_rise = held.crls_rise;
        entries_rise = rise;
      }
