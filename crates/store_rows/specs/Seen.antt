-- What the code holds, and what it says.
use Rattle.store_rows.specs.declared.crl.Head.{Head}
use Rattle.store_rows.specs.Contents.{CrlHead}

abbrev pub seen_head : Head → CrlHead
seen_head head = record { number = head.number; window = record { from = head.from; until = head.until } }
