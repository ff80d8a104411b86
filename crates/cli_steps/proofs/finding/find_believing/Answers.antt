use Rattle.std.proofs.Common.{inl, inr, option_map, refl, subst, sym}
use Rattle.std.proofs.lemmas.Result.{err_from_is_err_and}
use Rattle.path.specs.Query.{Accepts}
use Rattle.cli_operands.proofs.Laws.{make_terms}
use Rattle.cli_operands.specs.Name.{IsNameOf, identity_named}
use Rattle.cli_operands.specs.Searching.{IsFailureOfSearched}
use Rattle.cli_words.specs.SearchTexts.{seen_search_words}
use Rattle.cli_steps.proofs.Passed.{accepted_by, believes_file, further}
use Rattle.cli_steps.specs.Commands.{BelievesFile}
use Rattle.cli_steps.specs.Found.{AnswersFinding, FindsThen, IsAskedToFind, IsFailureOfFind, SearchAsked}
use Rattle.cli_steps.proofs.finding.find_believing.Goals as goal

pub returns-in_err-terms : goal.returns-in_err-terms
returns-in_err-terms g c =
    let p = err_from_is_err_and c.from_residual.result c.from_residual.ensures.1 in
    rw (p.1, p.2) (inl (inl c.in_err-terms.ensures.fails, refl))

pub returns-in_err-name : goal.returns-in_err-name
returns-in_err-name g c =
    let p = err_from_is_err_and c.from_residual-in_err-name.result c.from_residual-in_err-name.ensures.1 in
    let texts = seen_search_words c.args.words.now in
    rw (p.1, p.2) (inl (inr (make_terms texts.moment texts.purpose c.in_ok-terms.terms c.in_ok-terms.ensures.reads, inl c.in_err-name.ensures.fails), refl))

pub returns-in_err-prints : goal.returns-in_err-prints
returns-in_err-prints g c =
    let p = err_from_is_err_and c.from_residual-in_err-prints.result c.from_residual-in_err-prints.ensures.1 in
    let texts = seen_search_words c.args.words.now in
    rw (p.1, p.2) (inl (
      inr (
        make_terms texts.moment texts.purpose c.in_ok-terms.terms c.in_ok-terms.ensures.reads,
        inr ((option_map identity_named c.in_ok-name.name, c.in_ok-name.ensures.reads), inl c.in_err-prints.ensures.fails),
      ),
      refl,
    ))

pub returns : goal.returns
returns g c =
    let holds = g.S.Source.holds c.args.source.now in
    let texts = seen_search_words c.args.words.now in
    let verifier = c.new-verifier.result in
    let named = c.in_ok-terms.ensures.reads in
    let of = c.in_ok-name.ensures.reads in
    let of_identity = subst (IsNameOf texts.name) (sym c.identity_of.ensures) of in
    let believes = believes_file holds c.args.verdicts.now verifier c.in_ok-prints.prints.items c.in_ok-prints.ensures.reads c.new-verifier.ensures in
    further (λ (asked : SearchAsked). (accepted_by verifier, asked)) (IsAskedToFind holds texts)
    (λ (asked : Accepts × SearchAsked). BelievesFile holds c.args.verdicts.now asked.0 × IsAskedToFind holds texts asked.1)
    (IsFailureOfSearched holds texts) (IsFailureOfFind holds c.args.verdicts.now texts)
    (λ old new (asked : Accepts × SearchAsked). FindsThen g.R.AnswerSearch.finds (AnswersFinding holds texts asked.1) old new asked.0 asked.1.search)
    c.args.receiver.now c.find_on.new.receiver c.find_on.result
    (λ asked asks. (believes, asks))
    (λ failure fails. inr (
      make_terms texts.moment texts.purpose c.in_ok-terms.terms named,
      inr ((option_map identity_named c.in_ok-name.name, of), inr ((c.in_ok-prints.prints.items, c.in_ok-prints.ensures.reads), fails)),
    ))
    (c.find_on.ensures texts.name named of_identity)
