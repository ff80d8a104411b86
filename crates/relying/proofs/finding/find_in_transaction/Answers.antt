use Rattle.std.proofs.Common.{◌≡◌, rules, subst, arith}
use Rattle.std.proofs.lemmas.Result.{IfOk-weaker, MatchResult-weaker}
use Rattle.sqlite.specs.Held.{state}
use Rattle.path_issuers.specs.View.{seen_search}
use Rattle.relying_search.specs.Finding.{FindsHolding, seen_finding}
use Rattle.relying_verdicts.specs.Asking.{AskIsCaused}
use Rattle.relying_verdicts.specs.Looking.{IsFoundOnlyIfOpen}
use Rattle.relying.specs.Asking.{FindsOnlyIfOpen, LooksForCause, LooksInside}
use Rattle.relying.proofs.Looking.{asked_at, found_open, looked}
use Rattle.relying.proofs.finding.find_in_transaction.Goals as goal

pub returns-clause-looks : goal.returns-clause-looks
returns-clause-looks g c =
    let same : c.drop-tx.new.self.0 ≡ c.conn-1.given.0 = search rules in
    let Is = FindsHolding (g.V.Verifier.accepts c.args.verifier.now) (seen_search c.args.search.now) c.args.budget in
    subst (λ h. LooksInside (state g.S.Store c.args.conn.now) (state g.S.Store h) Is c.find.result) same
    (λ clean. let step = c.drop-tx.ensures.survives.clean in
    looked g.S.Store c.args.conn.now c.transaction-tx.result.conn.now (state g.S.Store c.find.new.tx.conn.now) (state g.S.Store c.drop-tx.new.self.0) c.transaction-tx.ensures.begun (c.drop-tx.ensures.undone clean)
    Is c.find.result (c.find.ensures.asks (omega (arith, step, clean))))

pub returns-clause-open : goal.returns-clause-open
returns-clause-open g c =
    let same : c.drop-tx.new.self.0 ≡ c.conn-1.given.0 = search rules in
    let accepts = g.V.Verifier.accepts c.args.verifier.now in
    let s = seen_search c.args.search.now in
    subst (λ h. FindsOnlyIfOpen accepts s c.args.budget (state g.S.Store c.args.conn.now) (state g.S.Store h) c.find.result) same
    (λ clean. let step = c.drop-tx.ensures.survives.clean in
    IfOk-weaker c.find.result (λ f. IsFoundOnlyIfOpen accepts s c.args.budget (state g.S.Store c.transaction-tx.result.conn.now).is_open (seen_finding f)) (λ f. IsFoundOnlyIfOpen accepts s c.args.budget (state g.S.Store c.args.conn.now).is_open (seen_finding f))
    (λ f. found_open accepts s c.args.budget g.S.Store c.args.conn.now c.transaction-tx.result.conn.now (seen_finding f) c.transaction-tx.ensures.begun) (c.find.ensures.open (omega (arith, step, clean))))

pub returns-clause-caused : goal.returns-clause-caused
returns-clause-caused g c =
    let same : c.drop-tx.new.self.0 ≡ c.conn-1.given.0 = search rules in
    subst (λ h. LooksForCause (state g.S.Store c.args.conn.now) (state g.S.Store h) c.find.result) same
    (λ clean. let step = c.drop-tx.ensures.survives.clean in
    MatchResult-weaker c.find.result {Q = AskIsCaused (state g.S.Store c.transaction-tx.result.conn.now) (state g.S.Store c.find.new.tx.conn.now)} {Q' = AskIsCaused (state g.S.Store c.args.conn.now) (state g.S.Store c.drop-tx.new.self.0)}
    (c.find.ensures.caused (omega (arith, step, clean))) (λ _ t. t)
    (λ fault it. asked_at g.S.Store c.args.conn.now c.transaction-tx.result.conn.now (state g.S.Store c.find.new.tx.conn.now) (state g.S.Store c.drop-tx.new.self.0) fault c.transaction-tx.ensures.begun it c.drop-tx.ensures.survives))
