use Rattle.std.proofs.Common.{◌+◌, drop, map, refl, ap}
use Rattle.statements.specs.Statement.{seen_statement}
use Rattle.relying_texts.specs.Texts.{facts_told, facts_under_each}
use Rattle.relying_texts.specs.View.{facts_in_all, issuers_in}
use Rattle.relying_texts.proofs.Folding.{gathered, one_left}
use Rattle.relying_texts.proofs.gathering.genuine_statements.Goals as goal

pub loop-statement-preserved : goal.loop-statement-preserved
loop-statement-preserved g c =
    let accepts = g.V.Verifier.accepts c.args.verifier.now in
    let issuers = issuers_in c.args.links.now in
    let all = c.args.statements.now in
    let i = c.loop-statement.statement-index in
    let read = seen_statement c.statement-item.result in
    gathered (facts_under_each accepts issuers) (facts_under_each accepts issuers read) (facts_in_all c.loop-statement.genuine.items) (facts_in_all c.add_under_each.new.genuine.items)
    read (map seen_statement (drop i all)) (map seen_statement (drop (i + 1) all)) (facts_told accepts issuers (map seen_statement all))
    (ap (map seen_statement) (one_left all i c.statement-item.result c.loop-statement-test.true c.statement-item.is)) refl c.in_ok-add_under_each.ensures c.loop-statement.invariant
