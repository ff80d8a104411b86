use Rattle.std.proofs.Common.{inl, inr, refl}
use Rattle.std.proofs.lemmas.Result.{err_from_is_err_and}
use Rattle.cli_operands.proofs.Laws.{have_terms}
use Rattle.cli_operands.specs.Asked.{Asks, IsFailureOfCertificates, IsFailureOfQuery}
use Rattle.cli_words.specs.QueryTexts.{seen_words}
use Rattle.cli_steps.proofs.Passed.{further}
use Rattle.cli_steps.proofs.checking.ask.Goals as goal

pub returns-in_err-terms : goal.returns-in_err-terms
returns-in_err-terms g c =
    let p = err_from_is_err_and c.from_residual.result c.from_residual.ensures.1 in
    rw (p.1, p.2) (inl (inl c.in_err-terms.ensures.fails, refl))

pub returns : goal.returns
returns g c =
    let holds = g.S.Source.holds c.args.source.now in
    let texts = seen_words c.args.words.now in
    let named = c.in_ok-terms.ensures.reads in
    further (λ query. query) (Asks holds texts) (Asks holds texts) (IsFailureOfCertificates holds texts) (IsFailureOfQuery holds texts)
    (λ old new query result. g.R.AnswerQuery.answers old new (g.V.Verifier.accepts c.args.verifier.now) query result)
    c.args.receiver.now c.ask_on.new.receiver c.ask_on.result
    (λ query asks. asks) (λ failure fails. inr (have_terms texts c.in_ok-terms.terms named, fails))
    (c.ask_on.ensures named)
