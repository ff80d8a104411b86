use Rattle.std.proofs.Common.{rules}
use Rattle.std.proofs.lemmas.List.Sorted.{answers_always, IsNonDecreasingBy-from_sort_by_key}
use Rattle.store_migration.proofs.ByIssuer.{same_lists}
use Rattle.store_migration.proofs.grouping.sorted_by_issuer.Goals as goal

pub returns-clause-rise : goal.returns-clause-rise
returns-clause-rise c = IsNonDecreasingBy-from_sort_by_key (λ entry. entry.issuer) _ c.in_ok-sort_by_key.ensures.sorted (λ a r f' called. search rules)

pub returns-clause-same : goal.returns-clause-same
returns-clause-same c = same_lists _ _ (c.sort_by_key.ensures.stable (λ entry. entry.issuer) (answers_always _ _ _ (λ f a r next called. search rules)))
