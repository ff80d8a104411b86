use Rattle.store_sql.proofs.Refusing.{versions_caused, if_err_then}
use Rattle.store_sql.proofs.Keeping.{keeps_on_error}
use Rattle.store_sql.proofs.version.version_rows.Goals as goal

pub returns-clause-cause : goal.returns-clause-cause
returns-clause-cause g c clean of2 =
    if_err_then _ _ _ (c.query_all.ensures.err clean) (versions_caused _ _ of2.0 of2.1)

pub returns-clause-kept : goal.returns-clause-kept
returns-clause-kept g c clean = keeps_on_error _ _ _ _ _ (c.query_all.ensures.err clean)

pub returns-clause-shows : goal.returns-clause-shows
returns-clause-shows g c clean = c.query_all.ensures.ok clean
