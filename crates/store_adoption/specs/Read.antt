-- What was read of a database of version 1.
use Rattle.std.specs.Prelude.{map}
use Rattle.std.specs.Global.{Vec}
use Rattle.sqlite.specs.Effect.{Database}
use Rattle.store_adoption.specs.declared.unscoped.UnscopedList.{UnscopedList}
use Rattle.store_adoption.specs.declared.unscoped.OwnEntry.{OwnEntry}
use Rattle.store_adoption.specs.declared.unscoped.UnscopedLists.{UnscopedLists}
use Rattle.store_adoption.specs.Inspects.{ShowsCrls, ShowsEntries, ShowsLists}
use Rattle.store_adoption.specs.Seen.{seen_unscoped_list, seen_own, seen_crls, seen_entries}

abbrev pub ShowsUnscoped : Vec UnscopedList → Database → Type 0
ShowsUnscoped lists db = ShowsCrls (map seen_unscoped_list lists.items) db

abbrev pub ShowsOwn : Vec OwnEntry → Database → Type 0
ShowsOwn entries db = ShowsEntries (map seen_own entries.items) db

abbrev pub ShowsAll : UnscopedLists → Database → Type 0
ShowsAll all db = ShowsLists (seen_crls all) (seen_entries all) db
