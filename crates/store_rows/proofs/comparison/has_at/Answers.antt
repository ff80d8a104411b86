use Rattle.std.proofs.Common.{slice_get}
use Rattle.statements_facts.specs.Listed.{seen_listed}
use Rattle.store_rows.specs.Contents.{scope_number}
use Rattle.store_rows.specs.Places.{entries_under}
use Rattle.store_rows.proofs.Comparing.{there_is, finds_as}
use Rattle.store_rows.proofs.comparison.has_at.Goals as goal

pub returns-clause-finds : goal.returns-clause-finds
returns-clause-finds g c clean =
    finds_as _ _ _ c.in_ok-beside.beside _ c.is_same.result (c.in_ok-beside.ensures.finds clean)
    (λ it is. there_is c.is_same.result (slice_get (entries_under it.entries c.args.list.now.issuer (scope_number c.args.list.now.scope)) c.args.index) c.in_ok-beside.beside (seen_listed c.args.listed.now) c.is_same.ensures is)
