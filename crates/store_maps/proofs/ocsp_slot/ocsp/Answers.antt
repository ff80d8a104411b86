use Rattle.std.proofs.Common.{arith, option_map, sym}
use Rattle.statements_facts.specs.Fact.{seen_issuer}
use Rattle.statements_facts.specs.Answer.{seen_ocsp}
use Rattle.store_maps.specs.Held.{ocsp_under}
use Rattle.sqlite.specs.State.{HasCleanDisk}
use Rattle.store_sql.specs.Inside.{inside}
use Rattle.store_sql.proofs.Laws.{if_err_then}
use Rattle.store_maps.proofs.Chains.{answered_as, found_in, caused_then, caused_held}
use Rattle.store_maps.proofs.Looking.{none_held, on_ok, looks_same, looks_up}
use Rattle.store_maps.proofs.ocsp_slot.ocsp.Goals as goal

pub returns-in_default-clause-looks_up : goal.returns-in_default-clause-looks_up
returns-in_default-clause-looks_up g c clean =
    found_in _ _ _ _ (answered_as _ _ _ c.in_ok-id.field-0 _ _ (c.in_ok-id.ensures.finds clean)
    (λ it is. sym (none_held _ c.in_ok-id.field-0 (ocsp_under it c.args.name_hash.now c.args.serial.now) c.in_default.is is)))

pub returns-clause-looks_up : goal.returns-clause-looks_up
returns-clause-looks_up g c clean =
    looks_up _ _ c.find_single.result (option_map seen_ocsp) (λ held. held.ocsp (record { issuer = seen_issuer c.args.issuer.now; name_hash = c.args.name_hash.now; serial = c.args.serial.now }))
    (looks_same _ _ _ (seen_issuer c.args.issuer.now) c.in_ok-id.field-0 c.in-Some.id c.find_single.result (option_map seen_ocsp) (λ it. ocsp_under it c.args.name_hash.now c.args.serial.now) c.in-Some.is
    (c.in_ok-id.ensures.finds (omega (arith, clean, c.find_single.ensures.survives.clean))) (c.find_single.ensures.finds clean))

pub returns-in_default-clause-open : goal.returns-in_default-clause-open
returns-in_default-clause-open g c clean = (c.in_ok-id.ensures.known clean).was_open

pub returns-clause-open : goal.returns-clause-open
returns-clause-open g c clean = on_ok c.find_single.result (c.in_ok-id.ensures.known (omega (arith, clean, c.find_single.ensures.survives.clean))).was_open

pub returns-clause-caused : goal.returns-clause-caused
returns-clause-caused g c clean =
    let old = inside g.S.Store c.args.tx.now in
    let mid = inside g.S.Store c.find_issuer.new.tx in
    let new = inside g.S.Store c.find_single.new.tx in
    let before : HasCleanDisk mid = omega (arith, clean, c.find_single.ensures.survives.clean) in
    if_err_then c.find_single.result _ _ (c.find_single.ensures.caused clean) (λ fault two. caused_held old new fault (caused_then old mid new _ c.in_ok-id.field-0 fault c.find_issuer.ensures.survives c.find_single.ensures.survives before (c.in_ok-id.ensures.finds before) two))
