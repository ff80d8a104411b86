use Rattle.std.proofs.Common.{rules}
use Rattle.std.proofs.lemmas.List.Sorted.{answers_always}
use Rattle.statements_facts.proofs.ByPrefix.{reasons_stay}
use Rattle.statements_facts.proofs.by_prefix.sorted_by_prefix.Goals as goal

pub returns : goal.returns
returns c serial =
    reasons_stay _ _ (c.sort_by_key.ensures.stable (λ entry. entry.prefix) (answers_always _ _ _ (λ f a r next called. search rules))) serial
