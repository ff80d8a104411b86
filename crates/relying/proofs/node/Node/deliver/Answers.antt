use Rattle.sqlite.specs.Files.{file_state}
use Rattle.relying.proofs.Delivered.{taken_for_cause, taken_so}
use Rattle.relying.proofs.node.Node.deliver.Goals as goal

pub returns-clause-caused : goal.returns-clause-caused
returns-clause-caused g c =
    taken_for_cause c.args.self.now.store.profile (g.V.Verifier.accepts c.args.self.now.verifier) c.args.issuer.now c.args.statement.now c.in_ok-facts.facts
    (file_state c.args.self.now.store.conn) (file_state c.take.new.self.store.conn) c.take.result c.map_err.result
    c.in_ok-facts.ensures.says c.take.ensures.caused c.map_err.ensures.cases

pub returns-clause-answered : goal.returns-clause-answered
returns-clause-answered g c clean =
    taken_so c.args.self.now.store.profile (g.V.Verifier.accepts c.args.self.now.verifier) c.args.issuer.now c.args.statement.now c.in_ok-facts.facts
    (file_state c.args.self.now.store.conn) (file_state c.take.new.self.store.conn) c.take.result c.map_err.result
    c.in_ok-facts.ensures.says (c.take.ensures.takes clean) c.map_err.ensures.cases
