-- What the text of version 1 makes.
use Rattle.std.proofs.Common.{refl}
use Rattle.sqlite_tied.specs.Compute.{everything}
use Rattle.sqlite.specs.Listing.{understood}
use Rattle.store_migration.specs.Texts.{AreTablesOfVersion1}

pub are_tables : AreTablesOfVersion1
unfolding understood everything
are_tables = record { meta = refl; issuers = refl; ocsp = refl; crls = refl; entries = refl; schema = refl }
