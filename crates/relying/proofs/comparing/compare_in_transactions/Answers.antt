use Rattle.std.proofs.Common.{◌≡◌, rules, subst, arith}
use Rattle.std.proofs.lemmas.Result.{IfOk-weaker, MatchResult-weaker}
use Rattle.sqlite.specs.Held.{state}
use Rattle.relying_agreement.specs.Comparison.{IsComparison}
use Rattle.relying_verdicts.specs.Asking.{AreInvalidOrOpen, AskOfBothIsCaused}
use Rattle.path.specs.Reading.{seen_query}
use Rattle.relying.specs.Asking.{BothAnswerOnlyIfOpen, LooksAtBothForCause, LooksInsideBoth}
use Rattle.relying.proofs.Looking.{asked_both_at, looked_both, opened_both}
use Rattle.relying.proofs.comparing.compare_in_transactions.Goals as goal

pub returns-clause-looks : goal.returns-clause-looks
returns-clause-looks g c =
    let same : c.drop-first.new.self.0 ≡ c.one-1.given.0 = search rules in
    let other_same : c.drop-second.new.self.0 ≡ c.other-1.given.0 = search rules in
    let Is = IsComparison (g.V.Verifier.accepts c.args.verifier.now) (seen_query c.args.query.now) in
    subst (λ h. LooksInsideBoth (state g.S.Store c.args.one.now) (state g.S.Store h) (state g.D.Store c.args.other.now) (state g.D.Store c.other-1.given.0) Is c.compare.result) same
    (subst (λ k. LooksInsideBoth (state g.S.Store c.args.one.now) (state g.S.Store c.drop-first.new.self.0) (state g.D.Store c.args.other.now) (state g.D.Store k) Is c.compare.result) other_same
    (λ clean other_clean. let step = c.drop-first.ensures.survives.clean in let other_step = c.drop-second.ensures.survives.clean in
    looked_both g.S.Store g.D.Store c.args.one.now c.transaction-first.result.conn.now c.args.other.now c.transaction-second.result.conn.now (state g.S.Store c.compare.new.one.conn.now) (state g.S.Store c.drop-first.new.self.0)
    (state g.D.Store c.compare.new.other.conn.now) (state g.D.Store c.drop-second.new.self.0) c.transaction-first.ensures.begun c.transaction-second.ensures.begun (c.drop-first.ensures.undone clean) (c.drop-second.ensures.undone other_clean)
    Is c.compare.result (c.compare.ensures.asks (omega (arith, step, clean)) (omega (arith, other_step, other_clean)))))

pub returns-clause-open : goal.returns-clause-open
returns-clause-open g c =
    let same : c.drop-first.new.self.0 ≡ c.one-1.given.0 = search rules in
    let other_same : c.drop-second.new.self.0 ≡ c.other-1.given.0 = search rules in
    let accepts = g.V.Verifier.accepts c.args.verifier.now in
    let query = seen_query c.args.query.now in
    subst (λ h. BothAnswerOnlyIfOpen accepts query (state g.S.Store c.args.one.now) (state g.S.Store h) (state g.D.Store c.args.other.now) (state g.D.Store c.other-1.given.0) c.compare.result) same
    (subst (λ k. BothAnswerOnlyIfOpen accepts query (state g.S.Store c.args.one.now) (state g.S.Store c.drop-first.new.self.0) (state g.D.Store c.args.other.now) (state g.D.Store k) c.compare.result) other_same
    (λ clean other_clean. let step = c.drop-first.ensures.survives.clean in let other_step = c.drop-second.ensures.survives.clean in
    IfOk-weaker c.compare.result (AreInvalidOrOpen accepts query (state g.S.Store c.transaction-first.result.conn.now).is_open (state g.D.Store c.transaction-second.result.conn.now).is_open)
    (AreInvalidOrOpen accepts query (state g.S.Store c.args.one.now).is_open (state g.D.Store c.args.other.now).is_open)
    (λ comparison. opened_both accepts query g.S.Store g.D.Store c.args.one.now c.transaction-first.result.conn.now c.args.other.now c.transaction-second.result.conn.now comparison c.transaction-first.ensures.begun c.transaction-second.ensures.begun)
    (c.compare.ensures.open (omega (arith, step, clean)) (omega (arith, other_step, other_clean)))))

pub returns-clause-caused : goal.returns-clause-caused
returns-clause-caused g c =
    let same : c.drop-first.new.self.0 ≡ c.one-1.given.0 = search rules in
    let other_same : c.drop-second.new.self.0 ≡ c.other-1.given.0 = search rules in
    subst (λ h. LooksAtBothForCause (state g.S.Store c.args.one.now) (state g.S.Store h) (state g.D.Store c.args.other.now) (state g.D.Store c.other-1.given.0) c.compare.result) same
    (subst (λ k. LooksAtBothForCause (state g.S.Store c.args.one.now) (state g.S.Store c.drop-first.new.self.0) (state g.D.Store c.args.other.now) (state g.D.Store k) c.compare.result) other_same
    (λ clean other_clean. let step = c.drop-first.ensures.survives.clean in let other_step = c.drop-second.ensures.survives.clean in
    MatchResult-weaker c.compare.result
    {Q = AskOfBothIsCaused (state g.S.Store c.transaction-first.result.conn.now) (state g.S.Store c.compare.new.one.conn.now) (state g.D.Store c.transaction-second.result.conn.now) (state g.D.Store c.compare.new.other.conn.now)}
    {Q' = AskOfBothIsCaused (state g.S.Store c.args.one.now) (state g.S.Store c.drop-first.new.self.0) (state g.D.Store c.args.other.now) (state g.D.Store c.drop-second.new.self.0)}
    (c.compare.ensures.caused (omega (arith, step, clean)) (omega (arith, other_step, other_clean))) (λ _ t. t)
    (λ fault it. asked_both_at g.S.Store g.D.Store c.args.one.now c.transaction-first.result.conn.now c.args.other.now c.transaction-second.result.conn.now (state g.S.Store c.compare.new.one.conn.now) (state g.S.Store c.drop-first.new.self.0)
    (state g.D.Store c.compare.new.other.conn.now) (state g.D.Store c.drop-second.new.self.0) fault c.transaction-first.ensures.begun c.transaction-second.ensures.begun it c.drop-first.ensures.survives c.drop-second.ensures.survives)))
