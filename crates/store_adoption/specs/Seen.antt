-- What the tests hold.
use Rattle.std.specs.Prelude.{◌≡◌, ℕ, List, map}
use Rattle.sqlite.specs.Order.{Row}
use Rattle.store_rows.specs.Contents.{EntryRow}
use Rattle.store_rows.specs.Seen.{seen_head}
use Rattle.store_adoption.specs.declared.entry_test.Placed.{Placed}
use Rattle.store_adoption.specs.declared.unscoped.UnscopedList.{UnscopedList}
use Rattle.store_adoption.specs.declared.unscoped.OwnEntry.{OwnEntry}
use Rattle.store_adoption.specs.declared.unscoped.UnscopedLists.{UnscopedLists}
use Rattle.store_adoption.specs.Cells.{IsEntryCells, entry_of_row, IsUnscopedCrlCells, unscoped_crl_in, IsUnscopedEntryCells, unscoped_entry_in}
use Rattle.store_adoption.specs.Version1.{UnscopedCrl, UnscopedEntry}

abbrev pub seen_placed : Placed → EntryRow
seen_placed entry = record {
  place = entry.place;
  issuer = entry.issuer;
  scope = entry.scope;
  listed = record { serial = entry.serial.items; reason = entry.reason };
}

abbrev pub seen_unscoped_list : UnscopedList → UnscopedCrl
seen_unscoped_list list = record { issuer = list.issuer; head = seen_head list.head }

abbrev pub seen_own : OwnEntry → UnscopedEntry
seen_own entry = record { issuer = entry.issuer; listed = record { serial = entry.serial.items; reason = entry.reason } }

-- the lists of version 1, and their entries
abbrev pub seen_crls : UnscopedLists → List UnscopedCrl
seen_crls all = map seen_unscoped_list all.lists.items

abbrev pub seen_entries : UnscopedLists → List UnscopedEntry
seen_entries all = map seen_own all.entries.items

-- ---- rows that were read

abbrev pub IsPlacedIn : Row → Placed → Type 0
IsPlacedIn row entry = IsEntryCells row × (seen_placed entry ≡ entry_of_row row)

abbrev pub IsListIn : ℕ → Row → UnscopedList → Type 0
IsListIn next row list = IsUnscopedCrlCells next row × (seen_unscoped_list list ≡ unscoped_crl_in row)

abbrev pub IsOwnIn : ℕ → Row → OwnEntry → Type 0
IsOwnIn next row entry = IsUnscopedEntryCells next row × (seen_own entry ≡ unscoped_entry_in row)
