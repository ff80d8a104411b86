use Rattle.std.proofs.Common.{inl, inr, option_map, refl, subst, sym}
use Rattle.std.proofs.lemmas.Result.{err_from_is_err_and}
use Rattle.cli_operands.proofs.Laws.{make_terms}
use Rattle.cli_operands.specs.Name.{IsNameOf, identity_named}
use Rattle.cli_operands.specs.Searching.{IsFailureOfSearched}
use Rattle.cli_words.specs.SearchTexts.{seen_search_words}
use Rattle.cli_steps.proofs.Passed.{further}
use Rattle.cli_steps.specs.Found.{AnswersFinding, FindsThen, IsAskedToFind, IsFailureOfSearch, SearchAsked, with_name}
use Rattle.cli_steps.proofs.finding.find_by_words.Goals as goal

pub returns-in_err-terms : goal.returns-in_err-terms
returns-in_err-terms g c =
    let p = err_from_is_err_and c.from_residual.result c.from_residual.ensures.1 in
    rw (p.1, p.2) (inl (inl c.in_err-terms.ensures.fails, refl))

pub returns-in_err-name : goal.returns-in_err-name
returns-in_err-name g c =
    let p = err_from_is_err_and c.from_residual-in_err-name.result c.from_residual-in_err-name.ensures.1 in
    let texts = with_name (option_map (λ text. text.now) c.args.name) (seen_search_words c.args.words.now) in
    rw (p.1, p.2) (inl (inr (make_terms texts.moment texts.purpose c.in_ok-terms.terms c.in_ok-terms.ensures.reads, inl c.in_err-name.ensures.fails), refl))

pub returns : goal.returns
returns g c =
    let holds = g.S.Source.holds c.args.source.now in
    let texts = with_name (option_map (λ text. text.now) c.args.name) (seen_search_words c.args.words.now) in
    let named = c.in_ok-terms.ensures.reads in
    let of = c.in_ok-name.ensures.reads in
    let of_identity = subst (IsNameOf texts.name) (sym c.identity_of.ensures) of in
    further (λ (asked : SearchAsked). asked) (IsAskedToFind holds texts) (IsAskedToFind holds texts) (IsFailureOfSearched holds texts) (IsFailureOfSearch holds texts)
    (λ old new (asked : SearchAsked). FindsThen g.R.AnswerSearch.finds (AnswersFinding holds texts asked) old new (g.V.Verifier.accepts c.args.verifier.now) asked.search)
    c.args.receiver.now c.find_on.new.receiver c.find_on.result
    (λ asked asks. asks)
    (λ failure fails. inr (make_terms texts.moment texts.purpose c.in_ok-terms.terms named, inr ((option_map identity_named c.in_ok-name.name, of), fails)))
    (c.find_on.ensures texts.name named of_identity)
