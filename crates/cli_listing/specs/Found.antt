-- An issuer that was looked for.
use Rattle.std.specs.Prelude.{Option, option_map}
use Rattle.std.specs.Borrow.{Bor}
use Rattle.store_rows.specs.Contents.{IssuerRow}
use Rattle.store_listing.specs.declared.held.HeldIssuer.{HeldIssuer}
use Rattle.store_listing.specs.Listing.{seen_held_issuer}

abbrev pub found_issuer : Option (Bor HeldIssuer) → Option IssuerRow
found_issuer issuer = option_map (λ issuer. seen_held_issuer issuer.now) issuer
