use Rattle.std.proofs.Common.{◌+◌, ℕ, List, Vec, Global, ap, arith, length, map, take}
use Rattle.der_stream.specs.Sequence.{joined}
use Rattle.cli_operands.proofs.Certificates.{one_more, part_of, place_more}
use Rattle.cli_operands.proofs.policy_query.front_len.Goals as goal

pub overflow_add-len : goal.overflow_add-len
overflow_add-len c =
    let i = c.loop-value.value-index in
    let values = c.args.values.now in
    let front = take c.args.count values in
    let items = λ (value : Vec ℕ Global). value.items in
    let all = ap (λ (them : List (Vec ℕ Global)). length (joined (map items them))) c.split_at.ensures.front in
    let more = ap length (ap joined (one_more items c.split_at.result.0.now i c.value-item.result c.loop-value-test.true c.value-item.is)) in
    omega (
      arith,
      all,
      more,
      place_more (map items (take i c.split_at.result.0.now)) c.value-item.result.items,
      part_of items c.split_at.result.0.now (i + 1),
      part_of items values c.args.count,
      c.loop-value.invariant,
      c.len-len.ensures,
      c.value-item.result.ok,
      c.requires.fits,
    )
