use Rattle.statements_facts.specs.Fact.{seen_issuer}
use Rattle.store_taking.proofs.Issuing.{is_id_of}
use Rattle.store_taking.proofs.Causing.{id_not_found, id_not_read}
use Rattle.store_taking.proofs.known.id_of_added.Goals as goal

pub returns-in-Ok-Some-clause-known : goal.returns-in-Ok-Some-clause-known
returns-in-Ok-Some-clause-known g c clean =
    is_id_of _ _ (seen_issuer c.args.issuer.now) c.in-Ok-Some.field-0 c.in-Ok-Some.id c.in-Ok-Some.field-0-is (c.in-Ok-Some.ensures.finds clean) (c.in-Ok-Some.ensures.known clean)

pub returns-in-Ok-None-clause-caused : goal.returns-in-Ok-None-clause-caused
returns-in-Ok-None-clause-caused g c clean e there all = id_not_found _ _ (seen_issuer c.args.issuer.now) c.in-Ok-None.field-0 c.in-Ok-None.field-0-is (c.in-Ok-None.ensures.finds clean) there

pub returns-in-Err-clause-caused : goal.returns-in-Err-clause-caused
returns-in-Err-clause-caused g c clean e there all =
    id_not_read _ _ (seen_issuer c.args.issuer.now) c.in-Err.fault c.fault_of_added.result c.fault_of_added.ensures.memory (c.in-Err.ensures.finds clean) (c.in-Err.ensures.caused clean) e there
