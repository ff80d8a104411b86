use Rattle.std.proofs.Common.{arith, rules, tests, ◌∙◌, ap, sym}
use Rattle.std.specs.Prelude.{not}
use Rattle.std.proofs.lemmas.List.Sorted.{IsPartitionPoint-from_clause}
use Rattle.names_order.specs.Order.{begins_with}
use Rattle.names_order.specs.Index.{key_octets}
use Rattle.names_order.proofs.KeyLists.{comes_before}
use Rattle.names_order.proofs.KeySearch.{upto_first_key, begins_with_none, last_key_decides}
use Rattle.names_order.proofs.index.begins_with_one.Goals as goal

pub returns-then-place-eq0 : goal.returns-then-place-eq0
returns-then-place-eq0 c =
    let octets = c.args.octets.now in
    let keys = c.args.keys.now in
    let sorted = c.requires.sorted in
    let point = IsPartitionPoint-from_clause (λ key. not (comes_before octets (key_octets key))) keys c.partition_point-place.result c.partition_point-place.ensures.partitioned (upto_first_key key_octets octets keys sorted) (λ a r q k. search (rules, tests)) in
    begins_with_none key_octets octets keys sorted (λ k d within begins. c.requires.apart k d within) c.partition_point-place.result c.partition_point-place.ensures.bound point c.if-place-eq0.true

pub returns : goal.returns
returns c =
    let octets = c.args.octets.now in
    let keys = c.args.keys.now in
    let sorted = c.requires.sorted in
    let point = IsPartitionPoint-from_clause (λ key. not (comes_before octets (key_octets key))) keys c.partition_point-place.result c.partition_point-place.ensures.partitioned (upto_first_key key_octets octets keys sorted) (λ a r q k. search (rules, tests)) in
    c.goes_on.ensures
    ∙ (ap (begins_with octets) c.deref.ensures.value
    ∙ last_key_decides key_octets octets keys sorted (λ k d within begins. c.requires.apart k d within) c.partition_point-place.result c.partition_point-place.ensures.bound point
    c.index-keys-place.result (omega (arith, c.if-place-eq0.false)) (sym c.index-keys-place.is))
