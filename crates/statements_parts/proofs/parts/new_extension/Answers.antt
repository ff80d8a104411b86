use Rattle.cert.specs.OidSet.{oids_in}
use Rattle.statements_parts.proofs.KnownTypes.{types_kept}
use Rattle.statements_parts.proofs.parts.new_extension.Goals as goal

pub returns-then-not-branch-clause-kept : goal.returns-then-not-branch-clause-kept
returns-then-not-branch-clause-kept c =
    types_kept (oids_in c.args.types.now) (oids_in c.insert.new.self) c.contents.result.now c.in_ok-insert.field-0
    c.in_ok-insert.ensures.added c.in_ok-insert.ensures.new c.if-not-branch.true
