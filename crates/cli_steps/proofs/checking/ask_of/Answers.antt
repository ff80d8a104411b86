use Rattle.std.proofs.Common.{inl, refl}
use Rattle.std.proofs.lemmas.Result.{err_from_is_err_and}
use Rattle.path.specs.Reading.{seen_query}
use Rattle.cli_operands.specs.Operands.{IsQueryOf, IsRefusalIn}
use Rattle.cli_steps.proofs.Passed.{passed}
use Rattle.cli_steps.proofs.checking.ask_of.Goals as goal

pub returns-in_err-query : goal.returns-in_err-query
returns-in_err-query g c =
    let p = err_from_is_err_and c.from_residual.result c.from_residual.ensures.1 in
    rw (p.1, p.2) (inl (c.in_err-query.ensures.fails, refl))

pub returns : goal.returns
returns g c =
    passed (IsQueryOf c.args.operands.now c.args.terms.now) (IsRefusalIn c.args.operands.now)
    (λ old new query result. g.R.AnswerQuery.answers old new (g.V.Verifier.accepts c.args.verifier.now) query result)
    c.args.receiver.now c.answer.new.self (seen_query c.in_ok-query.query) c.answer.result c.in_ok-query.ensures.asks c.answer.ensures
