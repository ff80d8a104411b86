use Rattle.std.proofs.Common.{List, sym, subst}
use Rattle.names_distinguished.specs.DistinguishedName.{ComparedAttribute}
use Rattle.names_distinguished.specs.NameView.{entries_of}
use Rattle.names_distinguished.specs.Agreement.{run_left}
use Rattle.names_distinguished.specs.Batch.{IsBatchOfSet}
use Rattle.names_distinguished.specs.BatchView.{batched}
use Rattle.names_distinguished.proofs.Fronts.{batch_counted, batch_differs}
use Rattle.names_distinguished.proofs.rdn.Rdn.count_batch.Goals as goal

pub returns-in-Some-count_in : goal.returns-in-Some-count_in
returns-in-Some-count_in c =
    let behind = entries_of c.of_set-batch.result.1 in
    let batch = batched c.of_set-batch.result.0 in
    batch_counted (entries_of c.args.self.now) (entries_of c.args.other.now) behind batch (run_left c.run.result) c.in-Some-count_in.count
    (subst (λ (set : List ComparedAttribute). IsBatchOfSet set behind batch) (sym c.in-Some.ensures) c.of_set-batch.ensures) c.run.ensures c.in-Some-count_in.ensures

pub returns-in-None : goal.returns-in-None
returns-in-None c =
    let behind = entries_of c.of_set-batch.result.1 in
    let batch = batched c.of_set-batch.result.0 in
    batch_differs (entries_of c.args.self.now) (entries_of c.args.other.now) behind batch (run_left c.run.result)
    (subst (λ (set : List ComparedAttribute). IsBatchOfSet set behind batch) (sym c.in-Some.ensures) c.of_set-batch.ensures) c.run.ensures c.in-None.ensures
