use Rattle.std.proofs.Common.{◌≡◌, length}
use Rattle.std.specs.List.{list_any}
use Rattle.cli_printing.specs.OidText.{is_long, numbers_in}
use Rattle.cli_printing.proofs.oid_text.has_long_number.Given as goal

abbrev pub invariant-loop-number : goal.invariant-loop-number
invariant-loop-number l = list_any is_long (numbers_in l.contents) ≡ list_any is_long (numbers_in l.rest)

abbrev pub decreases-loop-number : goal.decreases-loop-number
decreases-loop-number l = length l.rest
