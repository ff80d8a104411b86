use Rattle.std.proofs.Common.{arith, option_map}
use Rattle.sqlite.specs.Held.{state}
use Rattle.sqlite.specs.State.{HasCleanDisk}
use Rattle.statements_facts.specs.Answer.{seen_ocsp}
use Rattle.store_rows.proofs.Singles.{single_found}
use Rattle.store_rows.proofs.single.find_single.Goals as goal

pub returns-clause-finds : goal.returns-clause-finds
returns-clause-finds g c clean =
    let first : HasCleanDisk (state g.S.Store c.args.tx.now.conn.now) = omega (arith, clean, c.single_rows.ensures.survives.clean) in
    single_found _ _ c.args.issuer c.args.name_hash.now c.args.serial.now c.in_ok-rows.rows.items c.read_all.result (option_map seen_ocsp)
    (rw (← c.as_slice.ensures.value) c.read_all.ensures.ok) (rw (← c.as_slice.ensures.value) c.read_all.ensures.schema) (c.requires.inside first) (rw (c.key_of-key.ensures.issuer, c.key_of-key.ensures.name_hash, c.key_of-key.ensures.serial) at (c.in_ok-rows.ensures.shows clean))
