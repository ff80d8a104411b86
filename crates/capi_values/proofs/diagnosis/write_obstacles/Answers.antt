use Rattle.std.proofs.Common.{◌+◌, ◌<◌, ◌^◌, ◌∙◌, ℕ, arith, length, map, subst}
use Rattle.std.proofs.lemmas.List.{get_or-map, length-map}
use Rattle.path_search.specs.declared.obstacles.Obstacle.{Obstacle}
use Rattle.capi_values.specs.WhyNot.{obstacle_numbers}
use Rattle.capi_values.proofs.Asking.{get_map, one_written}
use Rattle.capi_values.proofs.Gathering.{have_at}
use Rattle.capi_values.proofs.diagnosis.write_obstacles.Goals as goal

pub of-requires : goal.of-requires
of-requires c =
    let obstacles = c.args.obstacles.now in
    let place : Obstacle → ℕ = λ o. o.place in
    let i = c.loop-index.index in
    let below : i < length obstacles = omega (arith, c.loop-index-test.true, c.min-fitting.ensures) in
    let fits = have_at (λ n. c.args.anchors + 1 + n < 2 ^ 64) (map place obstacles) i 0 c.requires (omega (arith, below, length-map obstacles place)) in
    subst (λ n. c.args.anchors + 1 + n < 2 ^ 64) (get_or-map place obstacles i _ 0 below) fits

pub loop-index-preserved : goal.loop-index-preserved
loop-index-preserved c =
    let obstacles = c.args.obstacles.now in
    let number = obstacle_numbers c.args.anchors in
    let i = c.loop-index.index in
    let below : i < length obstacles = omega (arith, c.loop-index-test.true, c.min-fitting.ensures) in
    let room : i < length c.loop-index.room = omega (arith, c.loop-index-test.true, c.min-fitting.ensures, c.loop-index.invariant.long) in
    let within : i < length (map number obstacles) = omega (arith, below, length-map obstacles number) in
    one_written i (map number obstacles) c.args.room.now c.loop-index.room c.of.result c.loop-index.invariant within room
    (c.of.ensures ∙ get_map number obstacles i _ c.of.result below)
