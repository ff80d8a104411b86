use Rattle.std.proofs.Common.{codes, ◌++◌, sym}
use Rattle.hex.specs.Hex.{encode_lower}
use Rattle.cli_listing.specs.Found.{found_issuer}
use Rattle.cli_listing.specs.ListingText.{issuer_text}
use Rattle.cli_listing.proofs.Writing.{three_end}
use Rattle.cli_listing.proofs.line.write_single_head.Goals as goal

pub returns : goal.returns
returns g c =
    let hash = sym c.as_slice.ensures.value in
    let serial = sym c.as_slice-2.ensures.value in
    three_end (g.W.Write.contents c.args.writer.now) (g.W.Write.contents c.write_issuer.new.writer) (g.W.Write.contents c.write_hex_behind.new.writer) (g.W.Write.contents c.write_hex_behind-2.new.writer)
    (codes "ocsp " ++ issuer_text (found_issuer c.args.issuer)) (codes " " ++ encode_lower c.as_slice.result.now) (codes " serial " ++ encode_lower c.as_slice-2.result.now) _ c.write_hex_behind-2.result
    c.in_ok-write_issuer.ensures c.in_ok-write_hex_behind.ensures c.write_hex_behind-2.ensures
    (λ i. (codes "ocsp " ++ issuer_text (found_issuer c.args.issuer)) ++ (codes " " ++ encode_lower (hash i)) ++ (codes " serial " ++ encode_lower (serial i)))
