use Rattle.std.proofs.Common.{sym, subst}
use Rattle.relying_questions.specs.Places.{HasParts}
use Rattle.relying_questions.specs.Seen.{issuer_of_link}
use Rattle.relying_questions.specs.declared.part.WhichText.TheVariants as source
use Rattle.relying_questions.proofs.asking.issuer_of.Goals as goal

pub returns-clause-places : goal.returns-clause-places
returns-clause-places c =
    λ texts is. subst (λ n. HasParts (texts (source.Certificate n)) (issuer_of_link c.args.link.now)) (sym c.saturating_sub.ensures) is.issuer
