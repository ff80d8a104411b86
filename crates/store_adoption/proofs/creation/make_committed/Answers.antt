use Rattle.std.proofs.Common.{rules, ◌≡◌, arith, subst}
use Rattle.sqlite.specs.State.{Survives}
use Rattle.sqlite.specs.Held.{state}
use Rattle.sqlite.proofs.StateLemmas.{survives_then}
use Rattle.sqlite.proofs.Callers.{survives_begin}
use Rattle.statements_facts.specs.Statement.{empty_under}
use Rattle.store_maps.specs.Held.{AreTreesOf}
use Rattle.store_maps.proofs.HeldLaws.{trees_of}
use Rattle.store_adoption.proofs.Stores.{empty_with}
use Rattle.store_adoption.proofs.creation.make_committed.Goals as goal

pub returns-clause-crash : goal.returns-clause-crash
returns-clause-crash g c =
    let old = c.args.conn.now in
    let last = c.make.new.tx.conn.now in
    let begun = c.transaction-tx.ensures.begun in
    let P = AreTreesOf (empty_under c.args.profile) in
    let whole = survives_then (state g.S.Store old) (state g.S.Store last) (state g.S.Store c.commit.new.self.0) (λ _. ⊥) (λ db. db ≡ (state g.S.Store last).now.trees) P (λ _ db none. absurd none)
    (λ clean db is. trees_of (empty_under c.args.profile) (state g.S.Store last).now db is ((c.in_ok-make.ensures.makes (let later = c.commit.ensures.survives.clean in omega (arith, later, clean))).1 (empty_with (state g.S.Store c.transaction-tx.result.conn.now).now (search rules))))
    (survives_begin g.S.Store old (state g.S.Store last) _ (rw begun at c.make.ensures.survives)) c.commit.ensures.survives in
    let same : c.commit.new.self.0 ≡ c.conn-2-1.given.0 = search rules in
    subst (λ h. Survives (state g.S.Store old) (state g.S.Store h) P) same whole

pub returns-in_err-commit-clause-crash : goal.returns-in_err-commit-clause-crash
returns-in_err-commit-clause-crash g c =
    let old = c.args.conn.now in
    let last = c.make.new.tx.conn.now in
    let begun = c.transaction-tx.ensures.begun in
    let P = AreTreesOf (empty_under c.args.profile) in
    let whole = survives_then (state g.S.Store old) (state g.S.Store last) (state g.S.Store c.commit.new.self.0) (λ _. ⊥) (λ db. db ≡ (state g.S.Store last).now.trees) P (λ _ db none. absurd none)
    (λ clean db is. trees_of (empty_under c.args.profile) (state g.S.Store last).now db is ((c.in_ok-make.ensures.makes (let later = c.commit.ensures.survives.clean in omega (arith, later, clean))).1 (empty_with (state g.S.Store c.transaction-tx.result.conn.now).now (search rules))))
    (survives_begin g.S.Store old (state g.S.Store last) _ (rw begun at c.make.ensures.survives)) c.commit.ensures.survives in
    let same : c.commit.new.self.0 ≡ c.conn-2-1.given.0 = search rules in
    subst (λ h. Survives (state g.S.Store old) (state g.S.Store h) P) same whole
