use Rattle.std.proofs.Common.{sym, ap, ◌∙◌, ◌||◌, Bool, rules, tests}
use Rattle.std.specs.List.{list_any}
use Rattle.std.proofs.lemmas.Iterator.{YieldsList-from_slice}
use Rattle.std.proofs.lemmas.Iterator.Search.{any_from_yields_List}
use Rattle.cert.specs.KeyUsage.{has_bit, seen_key_usage}
use Rattle.path_conditions.proofs.conditions.has_one_of.Goals as goal

pub returns-else-is_empty : goal.returns-else-is_empty
returns-else-is_empty c =
    let wanted = c.args.wanted.now in
    let bits = seen_key_usage c.args.usage.now in
    any_from_yields_List (λ index. has_bit bits index) _ _ _ c.any.ensures.ran (YieldsList-from_slice wanted cc) (λ x b q k. search (rules, tests))
    ∙ ap (λ (b : Bool). b || list_any (λ index. has_bit bits index) wanted) (sym c.if-is_empty.false ∙ c.is_empty.ensures)
