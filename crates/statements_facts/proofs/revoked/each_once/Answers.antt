use Rattle.std.proofs.Common.{rules, ◌≡◌, map, ap, ◌∙◌}
use Rattle.std.proofs.lemmas.Result.{IfOk-weaker}
use Rattle.statements_facts.specs.Listed.{IsAscending, first_reason, seen_listed}
use Rattle.statements_facts.specs.Prefixed.{seen_prefixed}
use Rattle.statements_facts.proofs.AnyOrder.{same_reason}
use Rattle.statements_facts.proofs.revoked.each_once.Goals as goal

pub returns-then-prefixes_ascend-clause-reasons : goal.returns-then-prefixes_ascend-clause-reasons
returns-then-prefixes_ascend-clause-reasons c =
    let prefixed = c.in_ok-prefixed.prefixed.items in
    let arranged = c.arranged_by_prefix-arranged.result.items in
    let up : IsAscending (map seen_prefixed arranged) = search rules in
    let beside : map seen_prefixed prefixed ≡ map seen_listed c.args.listed.items = search rules in
    IfOk-weaker c.without_prefixes.result (λ left. map seen_listed left.items ≡ map seen_prefixed arranged) _ (λ left same serial.
    ap (λ entries. first_reason entries serial) same
    ∙ same_reason seen_prefixed serial prefixed arranged c.arranged_by_prefix-arranged.ensures up
    ∙ ap (λ entries. first_reason entries serial) beside) (search rules)
