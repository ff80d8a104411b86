use Rattle.statements_facts.specs.Single.{seen_single}
use Rattle.store_taking.proofs.Chains.{found_as}
use Rattle.store_taking.proofs.Outcomes.{no_single_comes, single_comes}
use Rattle.store_taking.proofs.responses.outcome_of_single.Goals as goal

pub returns-in-Some-clause-finds : goal.returns-in-Some-clause-finds
returns-in-Some-clause-finds g c clean =
    let single = seen_single c.args.single.now in
    found_as _ _ _ c.in_ok-held.field-0 _ _ (c.in_ok-held.ensures.finds clean)
    (λ it form is. single_comes it single.name_hash single.serial c.args.id c.in_ok-held.field-0 c.in-Some.held single.fact c.outcome_beside.result c.in-Some.is c.outcome_beside.ensures is)

pub returns-in-None-clause-finds : goal.returns-in-None-clause-finds
returns-in-None-clause-finds g c clean =
    let single = seen_single c.args.single.now in
    found_as _ _ _ c.in_ok-held.field-0 _ _ (c.in_ok-held.ensures.finds clean)
    (λ it form is. no_single_comes it single.name_hash single.serial c.args.id c.in_ok-held.field-0 single.fact c.in-None.is is)
