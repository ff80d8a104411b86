use Rattle.std.proofs.Common.{◌↔◌, IsTrue, arith, subst}
use Rattle.path_issuers.specs.Asking.{IsSought}
use Rattle.path_issuers.specs.Questions.{IsAnsweredYes}
use Rattle.path_issuers.specs.View.{seen_search}
use Rattle.path_issuers.specs.declared.question.SearchQuestion.{SearchQuestion}
use Rattle.path_issuers.proofs.Picking.{picked_more}
use Rattle.path_issuers.proofs.asking.pick.Goals as goal

pub loop-place-preserved : goal.loop-place-preserved
loop-place-preserved g c =
    let accepts = g.V.Verifier.accepts c.args.verifier.now in
    let s = seen_search c.args.search.now in
    let answer = c.in-Some.ensures in (
      picked_more (IsSought accepts s c.args.sought) c.args.places.now c.loop-place.place-index c.loop-place-test.true
          c.loop-place.picked.items c.add_if.new.picked.items c.in-Some.issued
          (subst (λ (question : SearchQuestion). IsTrue c.in-Some.issued ↔ IsAnsweredYes accepts s question) c.question.ensures answer.answer)
          c.in_ok-add_if.ensures c.loop-place.invariant.0,
      omega (arith, answer.spent, c.loop-place.invariant.1),
    )
