use Rattle.std.proofs.lemmas.Result.{err_from_is_err_and}
use Rattle.std.proofs.Common.{arith, rules, subst, ◌≡◌}
use Rattle.sqlite.specs.Held.{state}
use Rattle.sqlite.specs.State.{HasCleanDisk, Survives}
use Rattle.sqlite.proofs.Callers.{survives_begin}
use Rattle.sqlite.proofs.StateLemmas.{survives_then}
use Rattle.statements_facts.specs.Fact.{facts_in}
use Rattle.store_taking.specs.Delivery.{CommitsWhole, Undoes}
use Rattle.store_taking.proofs.Deliveries.{leaves_all, undoes_all}
use Rattle.store_taking.proofs.delivery.deliver.Goals as goal

pub returns-in_err-counts-clause-ends : goal.returns-in_err-counts-clause-ends
returns-in_err-counts-clause-ends g c =
    let p = err_from_is_err_and c.from_residual.result c.from_residual.ensures.1 in
    let old = c.args.conn.now in
    let last = c.take_all.new.tx.conn.now in
    let same : c.drop-tx.new.self.0 ≡ c.conn-1.given.0 = search rules in
    rw (p.1, p.2) (subst (λ h. HasCleanDisk (state g.S.Store h) → Undoes (state g.S.Store old) (state g.S.Store h) c.in_err-counts.field-0.0) same
    (λ clean. undoes_all g.S.Store old c.transaction-tx.result.conn.now c.transaction-tx.ensures.begun (state g.S.Store last) (state g.S.Store c.drop-tx.new.self.0) _
    (c.in_err-counts.ensures.takes (omega (arith, clean, c.drop-tx.ensures.survives.clean))) (c.drop-tx.ensures.undone clean)))

pub returns-clause-survives : goal.returns-clause-survives
returns-clause-survives g c =
    let old = c.args.conn.now in
    let last = c.take_all.new.tx.conn.now in
    let begun = c.transaction-tx.ensures.begun in
    let facts = facts_in c.args.facts.now in
    let whole = survives_then (state g.S.Store old) (state g.S.Store last) (state g.S.Store c.commit.new.self.0) (λ _. ⊥) (λ db. db ≡ (state g.S.Store last).now.trees) (CommitsWhole (state g.S.Store old) facts) (λ _ db none. absurd none)
    (λ clean db is.
    let early : HasCleanDisk (state g.S.Store last) = omega (arith, clean, c.commit.ensures.survives.clean) in
    leaves_all g.S.Store old c.transaction-tx.result.conn.now begun (state g.S.Store last) facts c.in_ok-counts.counts db (c.in_ok-counts.ensures.takes early) (c.in_ok-counts.ensures.open early) is)
    (survives_begin g.S.Store old (state g.S.Store last) _ (rw begun at c.take_all.ensures.survives)) c.commit.ensures.survives in
    let same : c.commit.new.self.0 ≡ c.conn-2-1.given.0 = search rules in
    subst (λ h. Survives (state g.S.Store old) (state g.S.Store h) (CommitsWhole (state g.S.Store old) facts)) same whole

pub returns-in_err-commit-clause-survives : goal.returns-in_err-commit-clause-survives
returns-in_err-commit-clause-survives g c =
    let old = c.args.conn.now in
    let last = c.take_all.new.tx.conn.now in
    let begun = c.transaction-tx.ensures.begun in
    let facts = facts_in c.args.facts.now in
    let whole = survives_then (state g.S.Store old) (state g.S.Store last) (state g.S.Store c.commit.new.self.0) (λ _. ⊥) (λ db. db ≡ (state g.S.Store last).now.trees) (CommitsWhole (state g.S.Store old) facts) (λ _ db none. absurd none)
    (λ clean db is.
    let early : HasCleanDisk (state g.S.Store last) = omega (arith, clean, c.commit.ensures.survives.clean) in
    leaves_all g.S.Store old c.transaction-tx.result.conn.now begun (state g.S.Store last) facts c.in_ok-counts.counts db (c.in_ok-counts.ensures.takes early) (c.in_ok-counts.ensures.open early) is)
    (survives_begin g.S.Store old (state g.S.Store last) _ (rw begun at c.take_all.ensures.survives)) c.commit.ensures.survives in
    let same : c.commit.new.self.0 ≡ c.conn-2-1.given.0 = search rules in
    subst (λ h. Survives (state g.S.Store old) (state g.S.Store h) (CommitsWhole (state g.S.Store old) facts)) same whole
