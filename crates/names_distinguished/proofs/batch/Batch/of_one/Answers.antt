use Rattle.std.proofs.Common.{List, map, [], ◌∷◌, ◌++◌, length, refl, sym, ap, ◌∙◌, subst, arith, IsTrue}
use Rattle.names_distinguished.specs.declared.attribute.Attribute.{Attribute}
use Rattle.names_distinguished.specs.NameView.{entry_of}
use Rattle.names_distinguished.specs.Batch.{is_ascending, rises_from}
use Rattle.names_distinguished.specs.BatchView.{batched}
use Rattle.names_distinguished.proofs.batch.Batch.of_one.Goals as goal

pub push-requires : goal.push-requires
push-requires c = omega (arith, ap length c.new-attributes.ensures)

pub invariant_of-result : goal.invariant_of-result
unfolding is_ascending rises_from
invariant_of-result c = record {
  ascends = subst (λ (attributes : List Attribute). IsTrue (is_ascending (map entry_of attributes)))
      (sym (c.push.ensures.items ∙ ap (λ (attributes : List Attribute). attributes ++ c.args.attribute ∷ []) c.new-attributes.ensures)) refl;
}

pub returns : goal.returns
unfolding batched
returns c = ap (map entry_of) (c.push.ensures.items ∙ ap (λ (attributes : List Attribute). attributes ++ c.args.attribute ∷ []) c.new-attributes.ensures)
