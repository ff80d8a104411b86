use Rattle.std.proofs.Common.{inl, option_map, refl}
use Rattle.std.proofs.lemmas.Result.{err_from_is_err_and}
use Rattle.names_identity.specs.Identity.{reference_identity}
use Rattle.cli_words.specs.SearchTexts.{seen_search_words}
use Rattle.cli_steps.specs.Found.{with_name}
use Rattle.cli_steps.proofs.Searched.{search_passed, with_this_name}
use Rattle.cli_steps.proofs.finding.find_on.Goals as goal

pub returns-in_err-operands : goal.returns-in_err-operands
returns-in_err-operands g c = λ said named of.
    let p = err_from_is_err_and c.from_residual.result c.from_residual.ensures.1 in
    rw (p.1, p.2) (inl (c.in_err-operands.ensures.fails, refl))

pub returns : goal.returns
returns g c = λ said named of.
    search_passed g.R.AnswerSearch.finds c.args.receiver.now c.find_of.new.receiver (g.V.Verifier.accepts c.args.verifier.now) (g.S.Source.holds c.args.source.now)
    (with_name said (seen_search_words c.args.words.now)) c.args.terms.now (option_map reference_identity c.args.name) c.in_ok-operands.operands
    (with_this_name said (g.S.Source.holds c.args.source.now) (seen_search_words c.args.words.now) c.in_ok-operands.operands c.in_ok-operands.ensures.reads)
    named of c.find_of.result c.find_of.ensures
