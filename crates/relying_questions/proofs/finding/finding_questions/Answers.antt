use Rattle.std.proofs.Common.{sym, ap, map, subst}
use Rattle.path_issuers.specs.View.{seen_search}
use Rattle.statements.specs.Statement.{seen_statement}
use Rattle.relying_questions.specs.Issuers.{IssuersAreThere}
use Rattle.relying_questions.specs.Places.{AllInTexts, ArePlaced, certificate_octets, certificates_of, placed_certificates, texts_searched}
use Rattle.relying_questions.specs.Seen.{seen_all}
use Rattle.relying_questions.proofs.Adding.{finding_asked}
use Rattle.relying_questions.proofs.FindingAlike.{finding_questions_decide}
use Rattle.relying_questions.proofs.Kept.{all_statements_stand}
use Rattle.relying_questions.proofs.SearchStanding.{search_stands}
use Rattle.relying_questions.proofs.finding.finding_questions.Goals as goal

pub issuers_of-requires : goal.issuers_of-requires
issuers_of-requires c =
    subst (IssuersAreThere (seen_search c.args.search.now)) (sym c.as_slice.ensures.value)
    (λ pair among. (c.in_ok-pairs.ensures.questions.each pair among).there)

pub returns-clause-asked : goal.returns-clause-asked
returns-clause-asked c =
    finding_asked (seen_search c.args.search.now) (map seen_statement c.args.statements.now) c.in_ok-pairs.pairs.items c.as_slice.result.now
    c.as_slice-2.result.now (placed_certificates c.in_ok-issuers.issuers.items) (placed_certificates c.as_slice-3.result.now) c.new-asked.result.items
    (seen_all c.ask_pairs.new.asked.items) (seen_all c.ask_statements.new.asked.items) c.in_ok-pairs.ensures.questions c.in_ok-pairs.ensures.order
    c.new-asked.ensures.items c.as_slice.ensures.value c.as_slice-2.ensures.value c.in_ok-issuers.ensures.certificates
    (ap placed_certificates c.as_slice-3.ensures.value) c.in_ok-ask_pairs.ensures.asked c.in_ok-ask_statements.ensures.asked

pub returns-clause-decide : goal.returns-clause-decide
returns-clause-decide c = finding_questions_decide (seen_search c.args.search.now) (map seen_statement c.args.statements.now) _ (returns-clause-asked c)

pub returns-clause-places : goal.returns-clause-places
returns-clause-places c = λ octets were read.
    let s = seen_search c.args.search.now in
    let texts = texts_searched s octets in
    let stands = search_stands s octets were in
    let there = subst (IssuersAreThere s) (sym c.as_slice-2.ensures.value) (λ pair among. (c.in_ok-pairs.ensures.questions.each pair among).there) in
    let pairs = c.in_ok-ask_pairs.ensures.places texts (stands, there) (subst (AllInTexts texts) (sym c.new-asked.ensures.items) tt) in
    c.in_ok-ask_statements.ensures.places texts (
      subst (ArePlaced texts) (sym c.as_slice-3.ensures.value) (c.in_ok-issuers.ensures.places texts stands),
      all_statements_stand c.statement_profile_laws.ensures.exact (certificate_octets (certificates_of s)) octets (map seen_statement c.args.statements.now)
          read,
    ) pairs
