use Rattle.std.proofs.Common.{◌+◌, ◌<◌, ◌^◌, ℕ, arith, length, map}
use Rattle.std.proofs.lemmas.List.{length-map}
use Rattle.capi_values.proofs.Asking.{get_map, one_written}
use Rattle.capi_values.proofs.Gathering.{have_at}
use Rattle.capi_values.proofs.diagnosis.write_places.Goals as goal

pub overflow_add-room : goal.overflow_add-room
overflow_add-room c =
    let fits = have_at (λ place. c.args.anchors + 1 + place < 2 ^ 64) c.args.places.now c.loop-index.index 0 c.requires (omega (arith, c.loop-index-test.true, c.min-fitting.ensures)) in
    omega (arith, fits)

pub loop-index-preserved : goal.loop-index-preserved
loop-index-preserved c =
    let places = c.args.places.now in
    let number : ℕ → ℕ = λ place. c.args.anchors + 1 + place in
    let i = c.loop-index.index in
    let below : i < length places = omega (arith, c.loop-index-test.true, c.min-fitting.ensures) in
    let room : i < length c.loop-index.room = omega (arith, c.loop-index-test.true, c.min-fitting.ensures, c.loop-index.invariant.long) in
    let within : i < length (map number places) = omega (arith, below, length-map places number) in
    one_written i (map number places) c.args.room.now c.loop-index.room _ c.loop-index.invariant within room (get_map number places i _ _ below)
