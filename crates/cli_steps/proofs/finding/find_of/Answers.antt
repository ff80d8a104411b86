use Rattle.std.proofs.Common.{inl, option_map, refl}
use Rattle.std.proofs.lemmas.Result.{err_from_is_err_and}
use Rattle.names_identity.specs.Identity.{reference_identity}
use Rattle.path_issuers.specs.Search.{Search}
use Rattle.path_issuers.specs.View.{seen_search}
use Rattle.cli_operands.specs.Searching.{IsRefusalInSearch}
use Rattle.cli_steps.proofs.Passed.{passed}
use Rattle.cli_steps.specs.Finding.{AnswersIn, IsSearchIn}
use Rattle.cli_steps.specs.Found.{FindsThen}
use Rattle.cli_steps.proofs.finding.find_of.Goals as goal

pub returns-in_err-certificates : goal.returns-in_err-certificates
returns-in_err-certificates g c =
    let p = err_from_is_err_and c.from_residual.result c.from_residual.ensures.1 in
    rw (p.1, p.2) (inl (c.in_err-certificates.ensures.fails, refl))

pub returns : goal.returns
returns g c =
    passed (IsSearchIn c.args.operands.now c.args.terms.now) (IsRefusalInSearch c.args.operands.now)
    (λ old new (s : Search). FindsThen g.R.AnswerSearch.finds (AnswersIn c.args.operands.now (option_map reference_identity c.args.name) s.target) old new (g.V.Verifier.accepts c.args.verifier.now) s)
    c.args.receiver.now c.find_in.new.receiver (seen_search c.search-search.result) c.find_in.result
    (c.in_ok-certificates.certificates, c.in_ok-certificates.ensures.reads, c.search-search.ensures) c.find_in.ensures
