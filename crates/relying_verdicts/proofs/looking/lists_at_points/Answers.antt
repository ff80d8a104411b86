use Rattle.std.proofs.Common.{arith, ◌≡◌, List, ℕ, map, ap, subst}
use Rattle.std.proofs.lemmas.Result.{err_from_is_err_and}
use Rattle.std.specs.Borrow.{Bor}
use Rattle.cert.specs.Certificate.{seen_certificate}
use Rattle.sqlite.specs.State.{HasCleanDisk}
use Rattle.statements_facts.specs.Fact.{seen_issuer}
use Rattle.store_sql.specs.Inside.{inside}
use Rattle.relying_verdicts.proofs.Chains.{asked_then, found_then, gives_up_then}
use Rattle.relying_verdicts.specs.Found.{AreListsAt}
use Rattle.relying_verdicts.proofs.looking.lists_at_points.Goals as goal

pub returns-in_err-limited-clause-asks : goal.returns-in_err-limited-clause-asks
returns-in_err-limited-clause-asks g c clean =
    let p = err_from_is_err_and c.from_residual-in_err-limited.result c.from_residual-in_err-limited.ensures.1 in
    rw (p.1, p.2) (gives_up_then _ _ _ _ c.in_ok-complete.complete _ (c.in_ok-complete.ensures.asks (omega (arith, clean, c.lists_at-2.ensures.survives.clean))) (c.in_err-limited.ensures.asks clean))

pub returns-in_err-limited-clause-caused : goal.returns-in_err-limited-clause-caused
returns-in_err-limited-clause-caused g c clean =
    let p = err_from_is_err_and c.from_residual-in_err-limited.result c.from_residual-in_err-limited.ensures.1 in
    let before : HasCleanDisk (inside g.S.Store c.lists_at.new.tx) = omega (arith, clean, c.lists_at-2.ensures.survives.clean) in
    rw (p.1, p.2) (asked_then (inside g.S.Store c.args.tx.now) (inside g.S.Store c.lists_at.new.tx) (inside g.S.Store c.lists_at-2.new.tx) _ c.in_ok-complete.complete _ c.lists_at.ensures.survives c.lists_at-2.ensures.survives before (c.in_ok-complete.ensures.asks before) (c.in_err-limited.ensures.caused clean))

pub returns-clause-asks : goal.returns-clause-asks
returns-clause-asks g c clean =
    let issuer = seen_issuer c.args.issuer.now in
    let certificate = seen_certificate c.args.certificate.now in
    let before : HasCleanDisk (inside g.S.Store c.lists_at.new.tx) = omega (arith, clean, c.lists_at-2.ensures.survives.clean) in
    let complete_are : map (λ (point : Bor (List ℕ)). point.now) c.as_slice.result.now ≡ certificate.points.complete = ap (map (λ (point : Bor (List ℕ)). point.now)) c.as_slice.ensures.value in
    let limited_are : map (λ (point : Bor (List ℕ)). point.now) c.as_slice-2.result.now ≡ certificate.points.limited = ap (map (λ (point : Bor (List ℕ)). point.now)) c.as_slice-2.ensures.value in
    found_then _ _ _ _ c.in_ok-complete.complete _ c.in_ok-limited.limited _ _ (c.in_ok-complete.ensures.asks before) (c.in_ok-limited.ensures.asks clean)
    (λ held here there. record {
      complete = subst (λ points. AreListsAt issuer certificate points held c.in_ok-complete.complete.items) complete_are here;
      limited = subst (λ points. AreListsAt issuer certificate points held c.in_ok-limited.limited.items) limited_are there;
    })
