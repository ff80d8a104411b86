use Rattle.std.proofs.Common.{◌+◌, ◌++◌, drop, ap₂, ◌∙◌}
use Rattle.relying_search.specs.View.{seen_link}
use Rattle.relying_questions.specs.Places.{LinkStands, LinksStand}
use Rattle.relying_questions.specs.Questions.{of_certificate}
use Rattle.relying_questions.specs.Seen.{asked_of_link, asked_of_links, seen_all, seen_question}
use Rattle.relying_questions.proofs.Adding.{map_push, one_left, one_mapped}
use Rattle.relying_questions.proofs.Kept.{at_index, kept_one}
use Rattle.relying_questions.proofs.asking.ask_path.Goals as goal

pub loop-link-preserved : goal.loop-link-preserved
loop-link-preserved c =
    let links = c.args.links.now in
    let i = c.loop-link.link-index in
    let link = c.link-item.result in
    let old = c.args.asked.now.items in
    let sofar = c.loop-link.asked.items in
    let new = c.push.new.self.items in
    let asked = c.of_certificate.result in
    let items = c.in_ok-push.ensures.items in
    let is = c.of_certificate.ensures.question ∙ ap₂ of_certificate c.issuer_of.ensures.certificate c.certificate_of.ensures.certificate in (
      one_mapped asked_of_link (seen_all sofar) (seen_all new) link (drop i links) (drop (i + 1) links) (seen_all old ++ asked_of_links links)
          (one_left links i link c.loop-link-test.true c.link-item.is) (map_push seen_question sofar new asked (asked_of_link link) items is) c.loop-link.invariant.0,
      kept_one (λ texts. LinksStand texts links) old sofar new asked c.loop-link.invariant.1 items
          (λ texts all.
          let stands = at_index (LinkStands texts) seen_link links i link all c.loop-link-test.true c.link-item.is in
          c.of_certificate.ensures.places texts (c.issuer_of.ensures.places texts stands) (c.certificate_of.ensures.places texts stands)),
    )
