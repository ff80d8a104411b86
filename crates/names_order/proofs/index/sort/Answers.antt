use Rattle.std.proofs.Common.{◌≡◌, rules}
use Rattle.std.specs.Ordering.{is_lt}
use Rattle.std.proofs.lemmas.Result.{on_ok_weaker}
use Rattle.std.proofs.lemmas.List.Sorted.{answers_always}
use Rattle.names_order.specs.Index.{stands_before}
use Rattle.names_order.proofs.Halving.{subtrees_rank}
use Rattle.names_order.proofs.index.sort.Goals as goal

pub returns-clause-sorted : goal.returns-clause-sorted
returns-clause-sorted c = on_ok_weaker c.sort_by.result
    (λ sorted. sorted stands_before subtrees_rank (answers_always _ (λ a r. is_lt r ≡ stands_before a.0.now a.1.0.now) _ (λ f a r g k. search rules)))
    c.sort_by.ensures.sorted
