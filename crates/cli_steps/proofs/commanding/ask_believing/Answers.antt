use Rattle.std.proofs.Common.{inl, inr, refl}
use Rattle.std.proofs.lemmas.Result.{err_from_is_err_and}
use Rattle.path.specs.Query.{Accepts, Query}
use Rattle.cli_operands.proofs.Laws.{have_terms}
use Rattle.cli_operands.specs.Asked.{Asks, IsFailureOfCertificates, IsFailureOfQuestion}
use Rattle.cli_words.specs.QueryTexts.{seen_words}
use Rattle.cli_steps.proofs.Passed.{accepted_by, believes_file, further}
use Rattle.cli_steps.specs.Commands.{IsAsked}
use Rattle.cli_steps.proofs.commanding.ask_believing.Goals as goal

pub returns-in_err-terms : goal.returns-in_err-terms
returns-in_err-terms g c =
    let p = err_from_is_err_and c.from_residual.result c.from_residual.ensures.1 in
    rw (p.1, p.2) (inl (inl c.in_err-terms.ensures.fails, refl))

pub returns-in_err-prints : goal.returns-in_err-prints
returns-in_err-prints g c =
    let p = err_from_is_err_and c.from_residual-in_err-prints.result c.from_residual-in_err-prints.ensures.1 in
    rw (p.1, p.2) (inl (inr (have_terms (seen_words c.args.words.now) c.in_ok-terms.terms c.in_ok-terms.ensures.reads, inl c.in_err-prints.ensures.fails), refl))

pub returns : goal.returns
returns g c =
    let holds = g.S.Source.holds c.args.source.now in
    let texts = seen_words c.args.words.now in
    let verifier = c.new-verifier.result in
    let named = c.in_ok-terms.ensures.reads in
    let believes = believes_file holds c.args.verdicts.now verifier c.in_ok-prints.prints.items c.in_ok-prints.ensures.reads c.new-verifier.ensures in
    further (λ (query : Query). (accepted_by verifier, query)) (Asks holds texts) (λ (asked : Accepts × Query). IsAsked holds c.args.verdicts.now texts asked.0 asked.1)
    (IsFailureOfCertificates holds texts) (IsFailureOfQuestion holds c.args.verdicts.now texts)
    (λ old new asked result. g.R.AnswerQuery.answers old new asked.0 asked.1 result)
    c.args.receiver.now c.ask_on.new.receiver c.ask_on.result
    (λ query asks. record { believes = believes; asks = asks })
    (λ failure fails. inr (have_terms texts c.in_ok-terms.terms named, inr ((c.in_ok-prints.prints.items, c.in_ok-prints.ensures.reads), fails)))
    (c.ask_on.ensures named)
