use Rattle.std.proofs.Common.{◌∙◌, inl, inr, refl}
use Rattle.std.proofs.KnownBytes.{Keeps-refl}
use Rattle.std.proofs.lemmas.Result.{err_from_is_err_and}
use Rattle.cli_words.specs.SearchTexts.{seen_search_words}
use Rattle.cli.specs.Host.{host}
use Rattle.cli.proofs.Asked.{without_memory}
use Rattle.cli.proofs.finding.find.Goals as goal

pub returns-in_err-answer-clause-fails : goal.returns-in_err-answer-clause-fails
returns-in_err-answer-clause-fails g c =
    let p = err_from_is_err_and c.from_residual.result c.from_residual.ensures.1 in
    rw (p.1, p.2) (inl (c.in_err-answer.ensures.fails, Keeps-refl (g.O.Write.contents c.args.out.now)))

pub returns-in_err-text-clause-fails : goal.returns-in_err-text-clause-fails
returns-in_err-text-clause-fails g c =
    let p = err_from_is_err_and c.from_residual-in_err-text.result c.from_residual-in_err-text.ensures.1 in
    rw (p.1, p.2) (inl (
      without_memory (host g.S.Source.holds g.S.Stores.places c.args.source.now) c.args.store.now c.args.verdicts.now (seen_search_words c.args.words.now)
          c.in_ok-answer.answer _ c.in_ok-answer.ensures.found c.in_err-text.ensures.fails,
      Keeps-refl (g.O.Write.contents c.args.out.now),
    ))

pub returns-in-Ok-clause-found : goal.returns-in-Ok-clause-found
returns-in-Ok-clause-found g c =
    (c.in_ok-answer.answer, refl, c.in_ok-answer.ensures.found, rw (c.as_slice.ensures.value, c.in_ok-text.ensures.lines) at c.in-Ok.ensures.written)

pub returns-clause-fails : goal.returns-clause-fails
returns-clause-fails g c =
    inr (refl, (_, (c.in_ok-answer.answer, c.in_ok-answer.ensures.found, c.as_slice.ensures.value ∙ c.in_ok-text.ensures.lines), c.in-Err.ensures.front))
