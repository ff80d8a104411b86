use Rattle.std.proofs.Common.{◌∙◌, arith}
use Rattle.jiff_core.proofs.SignedLemmas.{signed_arith}
use Rattle.cli_listing.proofs.calendar.civil_after.Goals as goal

pub returns-clause-value : goal.returns-clause-value
returns-clause-value c = c.civil_on.ensures.value ∙ omega (arith, signed_arith)
