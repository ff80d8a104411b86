use Rattle.std.proofs.Common.{◌∷◌, sym, ap, ◌∙◌, map, subst}
use Rattle.std.specs.List.{AllByRecursion}
use Rattle.cert.specs.Certificate.{seen_certificate}
use Rattle.path.specs.Reading.{seen_query}
use Rattle.statements.specs.Statement.{seen_statement}
use Rattle.relying_agreement.specs.Link.{links_from}
use Rattle.relying_questions.specs.Agreement.{DecideVerdict}
use Rattle.relying_questions.specs.Places.{AllInTexts, ArePlaced, LinkStands, LinksStand, certificate_octets, placed_certificates, texts_in}
use Rattle.relying_questions.specs.Seen.{seen_all}
use Rattle.relying_questions.proofs.Adding.{all_questions}
use Rattle.relying_questions.proofs.Kept.{all_statements_stand, query_stands}
use Rattle.relying_questions.proofs.SameVerdicts.{questions_decide}
use Rattle.relying_questions.proofs.asking.questions.Goals as goal

pub returns-clause-asked : goal.returns-clause-asked
returns-clause-asked c =
    let query = c.args.query.now in
    let links_are = c.in_ok-links.ensures ∙ ap (λ path. links_from 1 (seen_certificate query.anchor) (map seen_certificate path)) c.as_slice.ensures.value in
    all_questions (seen_query query) (map seen_statement c.args.statements.now) c.in_ok-links.links.items c.as_slice-2.result.now c.as_slice-3.result.now
    (placed_certificates c.in_ok-issuers.issuers.items) (placed_certificates c.as_slice-4.result.now) c.new-asked.result.items
    (seen_all c.ask_path.new.asked.items) (seen_all c.ask_statements.new.asked.items) c.new-asked.ensures.items c.as_slice-2.ensures.value
    c.as_slice-3.ensures.value links_are c.in_ok-issuers.ensures.certificates (ap placed_certificates c.as_slice-4.ensures.value)
    c.in_ok-ask_path.ensures.asked c.in_ok-ask_statements.ensures.asked

pub returns-clause-decide : goal.returns-clause-decide
returns-clause-decide c =
    let query = seen_query c.args.query.now in
    let statements = map seen_statement c.args.statements.now in
    subst (λ asked. DecideVerdict asked query statements) (sym (returns-clause-asked c)) (questions_decide query statements)

pub returns-clause-places : goal.returns-clause-places
returns-clause-places c = λ octets were read.
    let query = seen_query c.args.query.now in
    let texts = texts_in query octets in
    let links_are = c.in_ok-links.ensures ∙ ap (λ path. links_from 1 query.anchor (map seen_certificate path)) c.as_slice.ensures.value in
    let links : LinksStand texts c.in_ok-links.links.items =
    subst (AllByRecursion (LinkStands texts)) (sym links_are) (query_stands query octets were) in
    let path = c.in_ok-ask_path.ensures.places texts (subst (LinksStand texts) (sym c.as_slice-2.ensures.value) links)
    (subst (AllInTexts texts) (sym c.new-asked.ensures.items) tt) in
    let issuers = c.in_ok-issuers.ensures.places texts (subst (LinksStand texts) (sym c.as_slice-3.ensures.value) links) in
    c.in_ok-ask_statements.ensures.places texts (
      subst (ArePlaced texts) (sym c.as_slice-4.ensures.value) issuers,
      all_statements_stand c.statement_profile_laws.ensures.exact (certificate_octets (query.anchor ∷ query.certificates)) octets
          (map seen_statement c.args.statements.now) read,
    ) path
