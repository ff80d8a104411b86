use Rattle.std.proofs.Common.{◌≡◌, rules}
use Rattle.std.specs.Ordering.{is_lt}
use Rattle.std.proofs.lemmas.Result.{on_ok_weaker}
use Rattle.std.proofs.lemmas.List.Sorted.{answers_always}
use Rattle.names_distinguished.specs.AttributeOrder.{has_lesser_kind}
use Rattle.names_distinguished.proofs.Ordered.{kinds_rank, stable_values}
use Rattle.names_distinguished.proofs.name_key.sort_by_kind.Goals as goal

pub returns-clause-ascending : goal.returns-clause-ascending
returns-clause-ascending c = on_ok_weaker c.sort_by.result
    (λ sorted. sorted has_lesser_kind kinds_rank (answers_always _ (λ a r. is_lt r ≡ has_lesser_kind a.0.now a.1.0.now) _ (λ f a r g k. search rules)))
    c.sort_by.ensures.sorted

pub returns-clause-values : goal.returns-clause-values
returns-clause-values c =
    stable_values _ _ (c.sort_by.ensures.stable has_lesser_kind kinds_rank
    (answers_always _ (λ a r. is_lt r ≡ has_lesser_kind a.0.now a.1.0.now) _ (λ f a r g k. search rules)))
