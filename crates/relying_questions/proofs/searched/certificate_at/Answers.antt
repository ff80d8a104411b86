use Rattle.std.proofs.Common.{ℕ, subst, sym}
use Rattle.cert.specs.Certificate.{Certificate, seen_certificate}
use Rattle.path_issuers.specs.View.{seen_search}
use Rattle.relying_questions.specs.Issuers.{text_at}
use Rattle.relying_questions.specs.Places.{HasParts, certificate_text}
use Rattle.relying_questions.proofs.SearchStanding.{place_stands}
use Rattle.relying_questions.proofs.searched.certificate_at.Goals as goal

pub returns-clause-places : goal.returns-clause-places
returns-clause-places c = λ texts stands.
    let s = seen_search c.args.search.now in
    subst (λ (n : ℕ). HasParts (certificate_text texts n) (seen_certificate c.certificate_at.result.now)) (sym c.text_at.ensures)
    (subst (λ (one : Certificate). HasParts (certificate_text texts (text_at s c.args.place)) one) (sym c.certificate_at.ensures)
    (place_stands texts s c.args.place stands))
