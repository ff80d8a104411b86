use Rattle.std.proofs.Common.{arith, option_map}
use Rattle.sqlite.specs.Held.{state}
use Rattle.sqlite.specs.State.{HasCleanDisk}
use Rattle.store_rows.specs.Seen.{seen_head}
use Rattle.store_rows.proofs.Crls.{crl_found}
use Rattle.store_rows.proofs.crl.find_crl.Goals as goal

pub returns-clause-finds : goal.returns-clause-finds
returns-clause-finds g c clean =
    let first : HasCleanDisk (state g.S.Store c.args.tx.now.conn.now) = omega (arith, clean, c.crl_rows.ensures.survives.clean) in
    crl_found _ _ c.args.issuer c.args.scope c.in_ok-rows.rows.items c.read_heads.result (option_map seen_head)
    (rw (← c.as_slice.ensures.value) c.read_heads.ensures.ok) (rw (← c.as_slice.ensures.value) c.read_heads.ensures.schema) (c.requires.inside first) (rw (c.key_of-key.ensures.issuer, c.key_of-key.ensures.scope) at (c.in_ok-rows.ensures.shows clean))
