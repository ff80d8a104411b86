use Rattle.std.proofs.Common.{rules, tests, ℕ, List, ap, ◌∙◌, sym, subst}
use Rattle.std.specs.Global.{Vec}
use Rattle.std.specs.List.Sorted.{IsSortedBy}
use Rattle.std.proofs.lemmas.List.Sorted.{IsPartitionPoint-from_clause}
use Rattle.path_issuers.specs.Keys.{comes_before, number_of}
use Rattle.path_issuers.proofs.Numbers.{is_before, before_first, count_to_point}
use Rattle.path_issuers.proofs.keys.Keys.count_before.Goals as goal

pub returns-clause-number : goal.returns-clause-number
returns-clause-number c =
    let key = c.args.key.now in
    let keys = c.deref.result.now in
    let sorted = subst (λ (xs : List (Vec ℕ)). IsSortedBy comes_before xs) (sym c.deref.ensures.value) c.args.self.now.rising in
    let place = c.partition_point.result in
    let point =
    IsPartitionPoint-from_clause (is_before key) keys place c.partition_point.ensures.partitioned (before_first key keys sorted)
    (λ a r q k. search (rules, tests)) in
    count_to_point (is_before key) keys place c.partition_point.ensures.bound point ∙ ap (λ (xs : List (Vec ℕ)). number_of xs key) c.deref.ensures.value
