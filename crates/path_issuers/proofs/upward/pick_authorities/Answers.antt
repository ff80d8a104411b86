use Rattle.path_issuers.specs.View.{seen_search}
use Rattle.path_issuers.specs.Upward.{IsAuthorityAt}
use Rattle.path_issuers.proofs.Picking.{picked_more}
use Rattle.path_issuers.proofs.upward.pick_authorities.Goals as goal

pub loop-place-preserved : goal.loop-place-preserved
loop-place-preserved c =
    picked_more (IsAuthorityAt (seen_search c.args.search.now)) c.args.places.now c.loop-place.place-index c.loop-place-test.true
    c.loop-place.picked.items c.add_if.new.picked.items c.is_authority_at.result c.is_authority_at.ensures c.in_ok-add_if.ensures c.loop-place.invariant
