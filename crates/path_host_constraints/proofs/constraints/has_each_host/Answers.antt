use Rattle.path_host_constraints.proofs.constraints.has_each_host.Goals as goal

pub returns-else-not-asked : goal.returns-else-not-asked
returns-else-not-asked c =
    let has = rw c.deref.ensures.value at c.lacks_no_host.ensures in
    ((λ t asked. has.0 t), (λ each. has.1 (each c.if-not-asked.false)))
