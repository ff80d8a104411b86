use Rattle.store_sql.proofs.creation.create_issuers.Goals as goal

pub returns-clause-runs : goal.returns-clause-runs
returns-clause-runs g c clean inside = c.execute.ensures.runs clean inside
