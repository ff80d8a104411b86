use Rattle.std.proofs.Common.{inl, refl}
use Rattle.std.proofs.lemmas.Result.{err_from_is_err_and}
use Rattle.cli_operands.proofs.Laws.{ask, refuse}
use Rattle.cli_operands.specs.Asked.{Asks, IsFailureOfCertificates}
use Rattle.cli_operands.specs.Operands.{IsQueryOf, IsRefusalIn}
use Rattle.cli_words.specs.QueryTexts.{seen_words}
use Rattle.cli_steps.proofs.Passed.{further}
use Rattle.cli_steps.proofs.checking.ask_on.Goals as goal

pub returns-in_err-operands : goal.returns-in_err-operands
returns-in_err-operands g c = λ named.
    let p = err_from_is_err_and c.from_residual.result c.from_residual.ensures.1 in
    rw (p.1, p.2) (inl (c.in_err-operands.ensures.fails, refl))

pub returns : goal.returns
returns g c = λ named.
    let holds = g.S.Source.holds c.args.source.now in
    let texts = seen_words c.args.words.now in
    let it = c.in_ok-operands.operands in
    further (λ query. query) (IsQueryOf it c.args.terms.now) (Asks holds texts) (IsRefusalIn it) (IsFailureOfCertificates holds texts)
    (λ old new query result. g.R.AnswerQuery.answers old new (g.V.Verifier.accepts c.args.verifier.now) query result)
    c.args.receiver.now c.ask_of.new.receiver c.ask_of.result
    (λ query of. ask holds texts c.args.terms.now it query named c.in_ok-operands.ensures.reads of)
    (λ failure refused. refuse holds texts it failure c.in_ok-operands.ensures.reads refused)
    c.ask_of.ensures
