use Rattle.std.proofs.Common.{◌∙◌, ap, map, List}
use Rattle.std.proofs.lemmas.Result.{IfOk-weaker}
use Rattle.std.specs.FinMap.{entries}
use Rattle.names_distinguished.specs.declared.attribute.Attribute.{Attribute}
use Rattle.names_distinguished.specs.DistinguishedName.{RdnMap, rdn_map}
use Rattle.names_distinguished.specs.NameView.{entry_of, entries_of}
use Rattle.names_distinguished.proofs.Ordered.{same_map_of}
use Rattle.names_distinguished.proofs.name_key.ascending.Goals as goal

pub returns : goal.returns
returns c =
    let sorted = c.sort_by_kind.new.attributes.items in
    IfOk-weaker c.first_of_each.result _ _
    (λ list h. h ∙ (ap (λ (l : List Attribute). entries (rdn_map (map entry_of l))) c.deref.ensures.value
    ∙ ap (λ (m : RdnMap). entries m) (same_map_of c.in_ok-attributes.attributes.items sorted (entries_of c.args.rdn.now) c.in_ok-attributes.ensures c.in_ok-sort_by_kind.ensures.values)))
    c.first_of_each.ensures
