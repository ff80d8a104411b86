use Rattle.std.proofs.Common.{to_z, of_z, w64, rules, ◌≡◌}
use Rattle.store_sql.proofs.Refusing.{crl_caused, if_err_then}
use Rattle.store_sql.proofs.Keeping.{keeps_on_error}
use Rattle.store_sql.proofs.crl.crl_rows.Goals as goal

pub returns-clause-cause : goal.returns-clause-cause
returns-clause-cause g c clean of2 =
    let e0 : to_z w64 (of_z w64 c.args.key.now.issuer) ≡ c.args.key.now.issuer = search rules in
    let e1 : to_z w64 (of_z w64 c.args.key.now.scope) ≡ c.args.key.now.scope = search rules in
    if_err_then _ _ _ (rw (e0, e1) at (c.query_all.ensures.err clean)) (crl_caused _ _ of2.0 of2.1 c.args.key.now.issuer c.args.key.now.scope)

pub returns-clause-kept : goal.returns-clause-kept
returns-clause-kept g c clean = keeps_on_error _ _ _ _ _ (c.query_all.ensures.err clean)

pub returns-clause-shows : goal.returns-clause-shows
returns-clause-shows g c clean =
    let e0 : to_z w64 (of_z w64 c.args.key.now.issuer) ≡ c.args.key.now.issuer = search rules in
    let e1 : to_z w64 (of_z w64 c.args.key.now.scope) ≡ c.args.key.now.scope = search rules in
    rw (e0, e1) at (c.query_all.ensures.ok clean)
