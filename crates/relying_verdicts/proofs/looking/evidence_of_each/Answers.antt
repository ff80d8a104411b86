use Rattle.std.proofs.Common.{arith, ◌≡◌, ◌+◌, ◌++◌, [], ◌∷◌, sym, subst, ◌∙◌}
use Rattle.std.proofs.lemmas.Result.{err_from_is_err_and}
use Rattle.sqlite.specs.State.{HasCleanDisk}
use Rattle.store_sql.specs.Inside.{inside}
use Rattle.relying_verdicts.proofs.Chains.{gives_up_then, both_commit_nothing, found_as, found_then, asked_then}
use Rattle.relying_verdicts.proofs.Links.{IsSoFar, ends, goes_on}
use Rattle.relying_verdicts.proofs.looking.evidence_of_each.Goals as goal

pub returns-in_err-it-clause-asks : goal.returns-in_err-it-clause-asks
returns-in_err-it-clause-asks g c clean =
    let p = err_from_is_err_and c.from_residual.result c.from_residual.ensures.1 in
    rw (p.1, p.2) (gives_up_then _ _ _ _ c.loop-link.all.items _ (c.loop-link.invariant.3 (omega (arith, clean, c.evidence_of.ensures.survives.clean))) (c.in_err-it.ensures.asks clean))

pub loop-link-preserved : goal.loop-link-preserved
loop-link-preserved g c =
    let l = c.loop-link.invariant in
    let links = c.args.links.now in
    let grown : c.push.new.self.items ≡ c.loop-link.all.items ++ c.in_ok-it.it ∷ [] = c.in_ok-push.ensures.items in (
      c.evidence_of.ensures.same_reference ∙ l.0,
      both_commit_nothing _ _ _ l.1 c.evidence_of.ensures.survives,
      omega (arith, c.in_ok-push.ensures.len, l.2),
      λ clean. found_then _ _ _ _ c.loop-link.all.items _ c.in_ok-it.it _ _ (l.3 (omega (arith, clean, c.evidence_of.ensures.survives.clean))) (c.in_ok-it.ensures.asks clean)
          (λ held so_far it_is. subst (IsSoFar links (c.loop-link.link-index + 1) held) (sym grown)
          (goes_on links c.loop-link.link-index c.link-item.result held c.loop-link.all.items c.in_ok-it.it c.loop-link-test.true c.link-item.is it_is so_far)),
      λ clean some. (l.3 (omega (arith, clean, c.evidence_of.ensures.survives.clean))).keeps.was_open (c.in_ok-it.ensures.open clean),
    )

pub returns-clause-asks : goal.returns-clause-asks
returns-clause-asks g c clean =
    found_as _ _ _ c.loop-link.all.items _ c.loop-link.all (c.loop-link.invariant.3 clean)
    (λ held so_far. ends c.args.links.now c.loop-link.link-index held c.loop-link.all.items (omega (arith, c.loop-link-test.false)) so_far)

pub returns-clause-open : goal.returns-clause-open
returns-clause-open g c clean = c.loop-link.invariant.4 clean

pub returns-in_err-it-clause-caused : goal.returns-in_err-it-clause-caused
returns-in_err-it-clause-caused g c clean =
    let p = err_from_is_err_and c.from_residual.result c.from_residual.ensures.1 in
    let before : HasCleanDisk (inside g.S.Store c.loop-link.tx) = omega (arith, clean, c.evidence_of.ensures.survives.clean) in
    rw (p.1, p.2) (asked_then (inside g.S.Store c.args.tx.now) (inside g.S.Store c.loop-link.tx) (inside g.S.Store c.evidence_of.new.tx) _ c.loop-link.all.items _ c.loop-link.invariant.1 c.evidence_of.ensures.survives before (c.loop-link.invariant.3 before) (c.in_err-it.ensures.caused clean))
