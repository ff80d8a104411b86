use Rattle.std.proofs.Common.{◌+◌, drop, subst, sym}
use Rattle.relying_search.specs.View.{seen_link}
use Rattle.relying_questions.specs.Places.{ArePlaced, IsPlaced, LinkStands, placed_certificate, placed_certificates}
use Rattle.relying_questions.specs.Seen.{issuer_of_link, issuers_of_links}
use Rattle.relying_questions.proofs.Adding.{map_push, one_left, one_mapped}
use Rattle.relying_questions.proofs.Kept.{at_index, pushed}
use Rattle.relying_questions.proofs.asking.issuers_of.Goals as goal

pub loop-link-preserved : goal.loop-link-preserved
loop-link-preserved c =
    let links = c.args.links.now in
    let i = c.loop-link.link-index in
    let link = c.link-item.result in
    let sofar = c.loop-link.issuers.items in
    let new = c.push.new.self.items in
    let items = c.in_ok-push.ensures.items in (
      one_mapped issuer_of_link (placed_certificates sofar) (placed_certificates new) link (drop i links) (drop (i + 1) links) (issuers_of_links links)
          (one_left links i link c.loop-link-test.true c.link-item.is)
          (map_push placed_certificate sofar new c.issuer_of.result (issuer_of_link link) items c.issuer_of.ensures.certificate) c.loop-link.invariant.0,
      λ texts stand. subst (ArePlaced texts) (sym items)
          (pushed (IsPlaced texts) sofar c.issuer_of.result (c.loop-link.invariant.1 texts stand)
          (c.issuer_of.ensures.places texts (at_index (LinkStands texts) seen_link links i link stand c.loop-link-test.true c.link-item.is))),
    )
