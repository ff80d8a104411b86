use Rattle.std.proofs.Common.{◌≡◌, Ok, inl, refl}
use Rattle.std.proofs.lemmas.Result.{err_from_is_err_and}
use Rattle.cert.specs.Certificate.{seen_certificate}
use Rattle.statements.specs.Statement.{genuine_statement_under}
use Rattle.statements_facts.specs.Fact.{facts_in}
use Rattle.cli_failures.specs.Failures.{IsDenied}
use Rattle.cli_steps.proofs.Passed.{passed}
use Rattle.cli_steps.proofs.delivering.deliver_statement.Goals as goal

pub returns-in_err-facts : goal.returns-in_err-facts
returns-in_err-facts g c =
    let p = err_from_is_err_and c.from_residual.result c.from_residual.ensures.1 in
    rw (p.1, p.2) (inl (c.in_err-facts.ensures.denied, refl))

pub returns : goal.returns
returns g c =
    let said = genuine_statement_under c.args.profile (g.V.Verifier.accepts c.args.verifier.now) (seen_certificate c.args.issuer.now) c.args.statement.now in
    passed (λ facts. said ≡ Ok facts) (IsDenied said c.args.file.now) g.R.TakeFacts.takes c.args.receiver.now c.take_facts.new.self
    (facts_in c.in_ok-facts.facts) c.take_facts.result c.in_ok-facts.ensures.says c.take_facts.ensures
