use Rattle.std.proofs.Common.{[], List, subst, sym}
use Rattle.path_issuers.specs.View.{seen_search}
use Rattle.path_search.specs.Obstacles.{AreUnmetAt}
use Rattle.path_search.specs.declared.obstacles.Obstacle.{Obstacle}
use Rattle.path_search.proofs.Explaining.{unmet_more, unmet_none}
use Rattle.path_search.proofs.ground.Ground.obstacles_at.Goals as goal

pub loop-place-init : goal.loop-place-init
loop-place-init c =
    let s = seen_search c.args.self.now.search.now in
    subst (λ (l : List Obstacle). AreUnmetAt s c.args.above.now c.args.signers.now [] l) (sym c.new-obstacles.ensures.items)
    (unmet_none s c.args.above.now c.args.signers.now)

pub unmet_at-unmet-requires : goal.unmet_at-unmet-requires
unmet_at-unmet-requires c = c.requires c.loop-place.place-index 0 c.loop-place-test.true

pub loop-place-preserved : goal.loop-place-preserved
loop-place-preserved c =
    unmet_more (seen_search c.args.self.now.search.now) c.args.above.now c.args.signers.now c.args.places.now c.loop-place.place-index c.loop-place-test.true
    c.loop-place.obstacles.items c.add_unmet.new.obstacles.items c.unmet_at-unmet.result c.unmet_at-unmet.ensures
    c.in_ok-add_unmet.ensures c.loop-place.invariant
