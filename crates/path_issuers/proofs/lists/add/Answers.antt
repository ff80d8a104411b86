use Rattle.std.proofs.Common.{◌∙◌, ◌∷◌, ◌++◌, [], ℕ, List, arith, ap, sym, set}
use Rattle.std.specs.Global.{Vec}
use Rattle.std.proofs.lemmas.List.{get_or-map, map-set}
use Rattle.path_issuers.specs.Lists.{lists_of}
use Rattle.path_issuers.proofs.lists.add.Goals as goal

pub returns : goal.returns
returns c =
    let lists = c.args.lists.now in
    let at = c.args.at in
    let items = λ (list : Vec ℕ). list.items in
    map-set items lists.items at c.push.new.self
    ∙ ap (λ (xs : List ℕ). set (lists_of lists.items) at xs)
    (c.in_ok-push.ensures.items ∙ ap (λ (xs : List ℕ). xs ++ c.args.place ∷ [])
    (ap items c.index_mut.ensures.value ∙ sym (get_or-map items lists.items at c.index_mut.result.now [] (omega (arith, lists.ok.0)))))
