use Rattle.std.proofs.Common.{◌∙◌, ap, rules}
use Rattle.std.specs.List.{dedup}
use Rattle.std.proofs.lemmas.Fn.{dedup_same}
use Rattle.names_order.specs.Index.{lies_in_other}
use Rattle.names_order.proofs.index.select_outermost.Goals as goal

pub returns : goal.returns
returns c =
    dedup_same _ lies_in_other _ (λ x y b f x' y' k. search rules) _ _ c.dedup_by.ensures.filtered ∙ ap (dedup lies_in_other) c.in_ok-tops.ensures
