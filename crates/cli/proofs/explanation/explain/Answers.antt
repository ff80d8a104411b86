use Rattle.std.proofs.Common.{◌∙◌, inl, inr, refl, sym, map, rules}
use Rattle.std.proofs.KnownBytes.{Keeps-refl}
use Rattle.cli_failures.specs.Topics.{explanation}
use Rattle.cli.proofs.explanation.explain.Goals as goal

pub returns-then-not-is_known-clause-fails : goal.returns-then-not-is_known-clause-fails
returns-then-not-is_known-clause-fails g c =
    inl ((refl, (c.entries-entries.result.now, sym c.is_known.ensures ∙ c.if-not-is_known.true)), Keeps-refl (g.O.Write.contents c.args.out.now))

pub returns-in-Ok-clause-done : goal.returns-in-Ok-clause-done
returns-in-Ok-clause-done g c =
    let entries = c.entries-entries.result.now in
    let words = map (λ w. w.now) c.args.words.now in
    (explanation entries words, (entries, search rules, refl), c.in-Ok.ensures.written)

pub returns-in-Err-clause-fails : goal.returns-in-Err-clause-fails
returns-in-Err-clause-fails g c =
    let entries = c.entries-entries.result.now in
    let words = map (λ w. w.now) c.args.words.now in
    inr (refl, (explanation entries words, (entries, search rules, refl), c.in-Err.ensures.front))
