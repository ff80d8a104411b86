use Rattle.std.proofs.Common.{[], ◌++◌, refl}
use Rattle.hex.specs.Hex.{lower_digits}
use Rattle.cli_printing.proofs.Appending.{appends_none, appends_both}
use Rattle.cli_printing.proofs.Pieces.{encode_with-append, nothing_encoded, chunk_more}
use Rattle.cli_printing.proofs.text.write_hex.Goals as goal

pub loop-rest-init : goal.loop-rest-init
loop-rest-init g c = ([], refl, appends_none _ _ (nothing_encoded lower_digits))

pub loop-rest-preserved : goal.loop-rest-preserved
loop-rest-preserved g c =
    let before = c.loop-rest.invariant in
    let chunk = c.split_at.result.0.now in (
      before.0 ++ chunk,
      chunk_more _ before.0 c.loop-rest.rest.now chunk c.split_at.result.1.now _ before.1 c.split_at.ensures.front c.split_at.ensures.back,
      appends_both _ _ _ _ _ _ before.2 c.in_ok-write_digits.ensures (encode_with-append lower_digits before.0 chunk),
    )
