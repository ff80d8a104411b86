use Rattle.std.proofs.Common.{inl}
use Rattle.std.proofs.lemmas.Result.{err_from_is_err_and}
use Rattle.path_issuers.specs.View.{seen_search}
use Rattle.cli_steps.proofs.Searched.{answered}
use Rattle.cli_steps.proofs.finding.find_in.Goals as goal

pub returns-in_err-finding : goal.returns-in_err-finding
returns-in_err-finding g c =
    let p = err_from_is_err_and c.from_residual.result c.from_residual.ensures.1 in
    rw (p.1, p.2) (inl c.in_err-finding.ensures)

pub returns : goal.returns
returns g c =
    answered g.R.AnswerSearch.finds _ c.args.receiver.now c.answer_search.new.self (g.V.Verifier.accepts c.args.verifier.now) (seen_search c.args.search.now)
    c.in_ok-finding.finding c.answer_in.result c.in_ok-finding.ensures c.answer_in.ensures.answers c.answer_in.ensures.fails
