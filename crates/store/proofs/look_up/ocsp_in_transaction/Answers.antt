use Rattle.std.proofs.Common.{◌≡◌, Option, IfErr, OnOk, IsTrue, option_map, rules, subst, arith}
use Rattle.sqlite.specs.Held.{state}
use Rattle.sqlite.specs.State.{HasCleanDisk, KeepsCommit}
use Rattle.statements_facts.specs.Statement.{Holdings}
use Rattle.statements_facts.specs.Fact.{seen_issuer}
use Rattle.statements_facts.specs.declared.answer.OcspAnswer.{OcspAnswer}
use Rattle.statements_facts.specs.Answer.{seen_ocsp}
use Rattle.store_maps.specs.LooksUp.{IsCausedOverStore}
use Rattle.store_sql.proofs.Laws.{if_err_then}
use Rattle.store.specs.Adopts.{FindsOrFails}
use Rattle.store.proofs.Looking.{caused_at, looked_at, open_at}
use Rattle.store.proofs.look_up.ocsp_in_transaction.Goals as goal

pub returns-clause-looks_at : goal.returns-clause-looks_at
returns-clause-looks_at g c =
    let old = c.args.conn.now in
    let Is = λ (held : Holdings) (it : Option OcspAnswer). option_map seen_ocsp it ≡ held.ocsp (record { issuer = seen_issuer c.args.issuer.now; name_hash = c.args.name_hash.now; serial = c.args.serial.now }) in
    let same : c.drop-tx.new.self.0 ≡ c.conn-1.given.0 = search rules in
    subst (λ h. HasCleanDisk (state g.S.Store h) → FindsOrFails (KeepsCommit (state g.S.Store old) (state g.S.Store h)) (state g.S.Store old).now Is c.ocsp.result) same
    (λ clean.
    let step = c.drop-tx.ensures.survives.clean in
    looked_at g.S.Store old c.transaction-tx.result.conn.now (state g.S.Store c.ocsp.new.tx.conn.now) (state g.S.Store c.drop-tx.new.self.0) Is c.ocsp.result c.transaction-tx.ensures.begun (c.ocsp.ensures.looks_up (omega (arith, step, clean))) (c.drop-tx.ensures.undone clean))

pub returns-clause-caused : goal.returns-clause-caused
returns-clause-caused g c =
    let old = c.args.conn.now in
    let same : c.drop-tx.new.self.0 ≡ c.conn-1.given.0 = search rules in
    subst (λ h. HasCleanDisk (state g.S.Store h) → IfErr c.ocsp.result (IsCausedOverStore (state g.S.Store old) (state g.S.Store h))) same
    (λ clean.
    let step = c.drop-tx.ensures.survives.clean in
    if_err_then c.ocsp.result _ _ (c.ocsp.ensures.caused (omega (arith, step, clean))) (λ fault caused.
    caused_at g.S.Store old c.transaction-tx.result.conn.now (state g.S.Store c.ocsp.new.tx.conn.now) (state g.S.Store c.drop-tx.new.self.0) fault c.transaction-tx.ensures.begun caused c.drop-tx.ensures.survives))

pub returns-clause-open : goal.returns-clause-open
returns-clause-open g c =
    let old = c.args.conn.now in
    let same : c.drop-tx.new.self.0 ≡ c.conn-1.given.0 = search rules in
    subst (λ h. HasCleanDisk (state g.S.Store h) → OnOk c.ocsp.result (IsTrue (state g.S.Store old).is_open)) same
    (λ clean.
    let step = c.drop-tx.ensures.survives.clean in
    open_at g.S.Store old c.transaction-tx.result.conn.now c.ocsp.result c.transaction-tx.ensures.begun (c.ocsp.ensures.open (omega (arith, step, clean))))
