use Rattle.std.proofs.Common.{List, map, ap, ◌∙◌}
use Rattle.names_distinguished.specs.declared.attribute.Attribute.{Attribute}
use Rattle.names_distinguished.specs.NameView.{entry_of}
use Rattle.names_distinguished.specs.Agreement.{entries_in, run_of}
use Rattle.names_distinguished.specs.BatchView.{batched}
use Rattle.names_distinguished.proofs.Sorting.{run_is_all}
use Rattle.names_distinguished.proofs.batch.Batch.run.Goals as goal

pub returns : goal.returns
unfolding entries_in batched
returns c =
    c.first.ensures ∙ (ap (λ (attributes : List Attribute). run_of (map entry_of attributes)) c.as_slice.ensures.value
    ∙ run_is_all (map entry_of c.args.self.now.attributes.items) c.args.self.now.ascends)
