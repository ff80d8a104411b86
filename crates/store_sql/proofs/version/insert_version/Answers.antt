use Rattle.std.proofs.Common.{to_z, of_z, w64, rules, ◌≡◌}
use Rattle.store_sql.proofs.version.insert_version.Goals as goal

pub returns-clause-runs : goal.returns-clause-runs
returns-clause-runs g c clean inside =
    let e0 : to_z w64 (of_z w64 c.args.version) ≡ c.args.version = search rules in
    rw e0 at (c.execute.ensures.runs clean inside)
