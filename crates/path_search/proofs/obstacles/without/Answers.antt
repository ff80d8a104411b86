use Rattle.std.proofs.Common.{ℕ, List, arith, subst}
use Rattle.std.specs.List.{Contains}
use Rattle.std.proofs.lemmas.List.{take_all}
use Rattle.path_issuers.specs.Asking.{ArePicked}
use Rattle.path_search.proofs.Explaining.{not_says}
use Rattle.path_issuers.proofs.Laws.{picked_more}
use Rattle.path_search.proofs.obstacles.without.Goals as goal

pub loop-place-preserved : goal.loop-place-preserved
loop-place-preserved c =
    picked_more (λ place. ¬ Contains c.args.others.now place) c.args.places.now c.loop-place.place-index c.loop-place-test.true
    c.loop-place.left.items c.add_if.new.picked.items _ (not_says c.is_among.result c.is_among.ensures) c.in_ok-add_if.ensures c.loop-place.invariant

pub returns : goal.returns
returns c =
    let places = c.args.places.now in
    subst (λ (xs : List ℕ). ArePicked (λ place. ¬ Contains c.args.others.now place) xs c.loop-place.left.items)
    (take_all c.loop-place.place-index places (omega (arith, c.loop-place-test.false))) c.loop-place.invariant
