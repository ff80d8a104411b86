use Rattle.std.proofs.Common.{to_z, of_z, w64, rules, ◌≡◌}
use Rattle.store_sql.proofs.Refusing.{single_caused, if_err_then}
use Rattle.store_sql.proofs.Keeping.{keeps_on_error}
use Rattle.store_sql.proofs.single.single_rows.Goals as goal

pub returns-clause-cause : goal.returns-clause-cause
returns-clause-cause g c clean of2 =
    let e0 : to_z w64 (of_z w64 c.args.key.now.issuer) ≡ c.args.key.now.issuer = search rules in
    if_err_then _ _ _ (rw e0 at (c.query_all.ensures.err clean)) (single_caused _ _ of2.0 of2.1 c.args.key.now.issuer c.args.key.now.name_hash.now c.args.key.now.serial.now)

pub returns-clause-kept : goal.returns-clause-kept
returns-clause-kept g c clean = keeps_on_error _ _ _ _ _ (c.query_all.ensures.err clean)

pub returns-clause-shows : goal.returns-clause-shows
returns-clause-shows g c clean =
    let e0 : to_z w64 (of_z w64 c.args.key.now.issuer) ≡ c.args.key.now.issuer = search rules in
    rw e0 at (c.query_all.ensures.ok clean)
