use Rattle.std.proofs.Common.{map}
use Rattle.path_issuers.specs.View.{seen_search}
use Rattle.path_search.specs.Answer.{seen_candidate}
use Rattle.statements.specs.Statement.{seen_statement}
use Rattle.relying_search.proofs.AmongLaws.{asks_let_pass, asks_refused}
use Rattle.relying_texts.specs.Texts.{held_for}
use Rattle.relying_policies.proofs.among.ask_about.Goals as goal

pub returns-then-not-branch : goal.returns-then-not-branch
returns-then-not-branch g c = λ valid.
    let accepts = g.V.Verifier.accepts c.args.verifier.now in
    asks_refused c.search_laws.ensures.ordered c.verdict_laws.ensures.valid c.verdict_laws.ensures.one (g.F.PathFilter.counts c.args.filter.now) accepts
    (held_for accepts (map seen_statement c.args.statements.now)) (seen_search c.args.search.now) c.args.asked.now (seen_candidate c.args.path)
    c.in_ok-passes.field-0 c.in_ok-passes.ensures c.if-not-branch.true valid

pub returns : goal.returns
returns g c = λ valid.
    let accepts = g.V.Verifier.accepts c.args.verifier.now in
    asks_let_pass c.search_laws.ensures.ordered c.verdict_laws.ensures.valid c.verdict_laws.ensures.one (g.F.PathFilter.counts c.args.filter.now) accepts
    (held_for accepts (map seen_statement c.args.statements.now)) (seen_search c.args.search.now) c.args.asked.now c.note.new.self c.args.path
    c.in_ok-passes.field-0 c.in_ok-verdict.verdict c.note.result c.in_ok-passes.ensures c.if-not-branch.false valid (c.in_ok-verdict.ensures valid) c.note.ensures
