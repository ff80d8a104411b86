use Rattle.std.proofs.Common.{ℕ, subst, sym}
use Rattle.cert.specs.Certificate.{Certificate, seen_certificate}
use Rattle.path_issuers.specs.View.{seen_search}
use Rattle.relying_questions.specs.Issuers.{text_of}
use Rattle.relying_questions.specs.Places.{HasParts, certificate_text}
use Rattle.relying_questions.proofs.SearchStanding.{issuer_stands}
use Rattle.relying_questions.proofs.searched.issuer_at.Goals as goal

pub returns-clause-places : goal.returns-clause-places
returns-clause-places c = λ texts stands there.
    let s = seen_search c.args.search.now in
    subst (λ (n : ℕ). HasParts (certificate_text texts n) (seen_certificate c.issuer_at.result.now)) (sym c.text_of.ensures)
    (subst (λ (one : Certificate). HasParts (certificate_text texts (text_of s c.args.issuer)) one) (sym c.issuer_at.ensures)
    (issuer_stands texts s c.args.issuer stands there))
