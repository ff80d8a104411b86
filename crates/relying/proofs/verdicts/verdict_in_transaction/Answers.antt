use Rattle.std.proofs.Common.{◌≡◌, rules, subst, arith}
use Rattle.std.proofs.lemmas.Result.{IfOk-weaker, MatchResult-weaker}
use Rattle.sqlite.specs.Held.{state}
use Rattle.relying_agreement.specs.Verdict.{IsVerdict}
use Rattle.path.specs.Reading.{seen_query}
use Rattle.relying_verdicts.specs.Asking.{AskIsCaused, IsInvalidOrOpen}
use Rattle.relying.specs.Asking.{AnswersOnlyIfOpen, LooksForCause, LooksInside}
use Rattle.relying.proofs.Looking.{asked_at, looked, opened}
use Rattle.relying.proofs.verdicts.verdict_in_transaction.Goals as goal

pub returns-clause-looks : goal.returns-clause-looks
returns-clause-looks g c =
    let same : c.drop-tx.new.self.0 ≡ c.conn-1.given.0 = search rules in
    let Is = IsVerdict (g.V.Verifier.accepts c.args.verifier.now) (seen_query c.args.query.now) in
    subst (λ h. LooksInside (state g.S.Store c.args.conn.now) (state g.S.Store h) Is c.verdict.result) same
    (λ clean. let step = c.drop-tx.ensures.survives.clean in
    looked g.S.Store c.args.conn.now c.transaction-tx.result.conn.now (state g.S.Store c.verdict.new.tx.conn.now) (state g.S.Store c.drop-tx.new.self.0) c.transaction-tx.ensures.begun (c.drop-tx.ensures.undone clean)
    Is c.verdict.result (c.verdict.ensures.asks (omega (arith, step, clean))))

pub returns-clause-open : goal.returns-clause-open
returns-clause-open g c =
    let same : c.drop-tx.new.self.0 ≡ c.conn-1.given.0 = search rules in
    let accepts = g.V.Verifier.accepts c.args.verifier.now in
    let query = seen_query c.args.query.now in
    subst (λ h. AnswersOnlyIfOpen accepts query (state g.S.Store c.args.conn.now) (state g.S.Store h) c.verdict.result) same
    (λ clean. let step = c.drop-tx.ensures.survives.clean in
    IfOk-weaker c.verdict.result (IsInvalidOrOpen accepts query (state g.S.Store c.transaction-tx.result.conn.now).is_open) (IsInvalidOrOpen accepts query (state g.S.Store c.args.conn.now).is_open)
    (λ v. opened accepts query g.S.Store c.args.conn.now c.transaction-tx.result.conn.now v c.transaction-tx.ensures.begun) (c.verdict.ensures.open (omega (arith, step, clean))))

pub returns-clause-caused : goal.returns-clause-caused
returns-clause-caused g c =
    let same : c.drop-tx.new.self.0 ≡ c.conn-1.given.0 = search rules in
    subst (λ h. LooksForCause (state g.S.Store c.args.conn.now) (state g.S.Store h) c.verdict.result) same
    (λ clean. let step = c.drop-tx.ensures.survives.clean in
    MatchResult-weaker c.verdict.result {Q = AskIsCaused (state g.S.Store c.transaction-tx.result.conn.now) (state g.S.Store c.verdict.new.tx.conn.now)} {Q' = AskIsCaused (state g.S.Store c.args.conn.now) (state g.S.Store c.drop-tx.new.self.0)}
    (c.verdict.ensures.caused (omega (arith, step, clean))) (λ _ t. t)
    (λ fault it. asked_at g.S.Store c.args.conn.now c.transaction-tx.result.conn.now (state g.S.Store c.verdict.new.tx.conn.now) (state g.S.Store c.drop-tx.new.self.0) fault c.transaction-tx.ensures.begun it c.drop-tx.ensures.survives))
