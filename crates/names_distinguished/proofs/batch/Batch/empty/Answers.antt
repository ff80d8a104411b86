use Rattle.std.proofs.Common.{List, map, refl, sym, ap, subst, IsTrue}
use Rattle.names_distinguished.specs.declared.attribute.Attribute.{Attribute}
use Rattle.names_distinguished.specs.NameView.{entry_of}
use Rattle.names_distinguished.specs.Batch.{is_ascending}
use Rattle.names_distinguished.specs.BatchView.{batched}
use Rattle.names_distinguished.proofs.batch.Batch.empty.Goals as goal

pub invariant_of-result : goal.invariant_of-result
unfolding is_ascending
invariant_of-result c = record { ascends = subst (λ (attributes : List Attribute). IsTrue (is_ascending (map entry_of attributes))) (sym c.new.ensures) refl }

pub returns : goal.returns
unfolding batched
returns c = ap (map entry_of) c.new.ensures
