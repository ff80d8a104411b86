use Rattle.std.proofs.Common.{arith}
use Rattle.sqlite.specs.Held.{state}
use Rattle.sqlite.specs.State.{HasCleanDisk}
use Rattle.statements_facts.specs.Fact.{seen_issuer}
use Rattle.store_rows.proofs.Issuers.{issuer_found, issuer_known}
use Rattle.store_rows.proofs.issuer.find_issuer.Goals as goal

pub returns-clause-finds : goal.returns-clause-finds
returns-clause-finds g c clean =
    let first : HasCleanDisk (state g.S.Store c.args.tx.now.conn.now) = omega (arith, clean, c.issuer_rows.ensures.survives.clean) in
    issuer_found _ _ (seen_issuer c.args.issuer.now) c.in_ok-rows.rows.items c.read_ids.result
    (rw (← c.as_slice-2.ensures.value) c.read_ids.ensures.ok) (rw (← c.as_slice-2.ensures.value) c.read_ids.ensures.schema) (c.requires.inside first) (rw c.as_slice.ensures at (c.in_ok-rows.ensures.shows clean))

pub returns-clause-known : goal.returns-clause-known
returns-clause-known g c clean =
    issuer_known _ _ (seen_issuer c.args.issuer.now) c.in_ok-rows.rows.items c.read_ids.result
    (rw (← c.as_slice-2.ensures.value) c.read_ids.ensures.ok) (rw c.as_slice.ensures at (c.in_ok-rows.ensures.shows clean))
