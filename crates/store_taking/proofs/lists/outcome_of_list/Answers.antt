use Rattle.std.proofs.Common.{arith, subst, sym, ap, Some, ◌∙◌, inl, inr}
use Rattle.statements_facts.specs.Fact.{crl_fact}
use Rattle.statements_facts.specs.Listed.{first_reason}
use Rattle.store_rows.specs.Contents.{CrlHead, scope_number}
use Rattle.store_rows.specs.Places.{entries_under}
use Rattle.store_rows.proofs.Laws.{ascends}
use Rattle.statements_facts.specs.Coming.{CrlIsTakenAs}
use Rattle.store_maps.specs.Laws.{fact_of_rows}
use Rattle.store_taking.specs.Lists.{crl_head}
use Rattle.store_taking.proofs.Chains.{found_as, finds_then, still_holds}
use Rattle.store_taking.proofs.Outcomes.{no_list_comes, list_is, entries_tell}
use Rattle.sqlite.specs.Held.{state}
use Rattle.sqlite.specs.State.{HasCleanDisk}
use Rattle.store_sql.proofs.Laws.{later_refuses, if_err_then}
use Rattle.store_taking.proofs.lists.outcome_of_list.Goals as goal

pub returns-in_default-clause-finds : goal.returns-in_default-clause-finds
returns-in_default-clause-finds g c clean =
    found_as _ _ _ c.in_ok-held.field-0 _ _ (c.in_ok-held.ensures.finds clean)
    (λ it form is. no_list_comes it c.args.key.now.scope c.args.key.now.issuer c.in_ok-held.field-0 (crl_fact c.args.list.now) c.in_default.is is)

pub returns-in-Some-outcome_by_head-clause-finds : goal.returns-in-Some-outcome_by_head-clause-finds
returns-in-Some-outcome_by_head-clause-finds g c clean =
    let scope = c.args.key.now.scope in
    let id = c.args.key.now.issuer in
    found_as _ _ _ c.in_ok-held.field-0 _ _ (c.in_ok-held.ensures.finds clean)
    (λ it form is. subst (λ held. CrlIsTakenAs held (crl_fact c.args.list.now) c.in-Some-outcome_by_head.outcome) (sym (list_is it scope id c.in_ok-held.field-0 c.in-Some.held c.in-Some.is is))
    (c.in-Some-outcome_by_head.ensures.some (first_reason (entries_under it.entries id (scope_number scope)))))

pub returns-in-None-clause-finds : goal.returns-in-None-clause-finds
returns-in-None-clause-finds g c clean =
    let scope = c.args.key.now.scope in
    let id = c.args.key.now.issuer in
    finds_then _ _ _ _ c.in_ok-held.field-0 _ _ c.outcome_by_entries.result
    (c.in_ok-held.ensures.finds (omega (arith, clean, c.outcome_by_entries.ensures.survives.clean))) (c.outcome_by_entries.ensures.finds clean)
    (λ it outcome form is tells.
    let entries = entries_under it.entries id (scope_number scope) in
    let held = list_is it scope id c.in_ok-held.field-0 c.in-Some.held c.in-Some.is is ∙ ap (λ (h : CrlHead). Some (fact_of_rows h entries)) c.in-None.ensures.none in
    subst (λ held. CrlIsTakenAs held (crl_fact c.args.list.now) outcome) (sym held)
    (entries_tell entries c.args.list.now.revoked (crl_head c.args.list.now) outcome (form.placed.serials id (scope_number scope)) (ascends c.args.list.now.revoked c.outcome_by_entries.ensures.ascend) tells))

pub returns-in-None-clause-caused : goal.returns-in-None-clause-caused
returns-in-None-clause-caused g c clean =
    let middle : HasCleanDisk (state g.S.Store c.find_crl.new.tx.conn.now) = omega (arith, clean, c.outcome_by_entries.ensures.survives.clean) in
    if_err_then c.outcome_by_entries.result _ _ (c.outcome_by_entries.ensures.caused clean) (λ fault caused e origin it held form.
    elim (caused e origin it (still_holds _ _ origin it ((c.in_ok-held.ensures.finds middle).rows origin it held form).0 held) form) [
      | inl limit ↦ inl limit
      | inr cause ↦ inr (later_refuses _ _ _ (λ _. ⊥) (λ _. ⊥) c.find_crl.ensures.survives c.outcome_by_entries.ensures.survives middle cause)
    ])
