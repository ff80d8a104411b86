use Rattle.std.proofs.Common.{rules, map, subst, sym, ap, ◌∙◌}
use Rattle.std.proofs.lemmas.List.Sorted.{answers_always}
use Rattle.std.proofs.lemmas.Fn.{dedup_same}
use Rattle.statements_facts.specs.Listed.{IsAscending, first_reason, seen_listed}
use Rattle.statements_facts.proofs.Sorting.{same_serial, deduped_ascend, reasons_left}
use Rattle.statements_facts.proofs.revoked.first_of_each.Goals as goal

pub returns-clause-ascend : goal.returns-clause-ascend
returns-clause-ascend c =
    let left = dedup_same _ same_serial _ (λ x y b f x' y' compares. (search (rules, compares.first, compares.second, compares.compared), search rules, search (rules, compares.first), search (rules, compares.second))) _ _ c.dedup_by_key.ensures.filtered in
    let sorted = c.in_ok-sort_by_key.ensures.sorted (λ listed. listed.serial) (answers_always _ _ _ (λ f a r next called. search rules)) in
    subst (λ items. IsAscending (map seen_listed items)) (sym left) (deduped_ascend _ sorted)

pub returns-clause-reasons : goal.returns-clause-reasons
returns-clause-reasons c serial =
    let left = dedup_same _ same_serial _ (λ x y b f x' y' compares. (search (rules, compares.first, compares.second, compares.compared), search rules, search (rules, compares.first), search (rules, compares.second))) _ _ c.dedup_by_key.ensures.filtered in
    let stable = c.sort_by_key.ensures.stable (λ listed. listed.serial) (answers_always _ _ _ (λ f a r next called. search rules)) in
    ap (λ items. first_reason (map seen_listed items) serial) left ∙ reasons_left _ _ stable serial
