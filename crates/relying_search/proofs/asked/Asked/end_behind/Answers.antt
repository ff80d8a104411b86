use Rattle.std.proofs.Common.{IfOk, subst, sym}
use Rattle.relying_search.specs.Asked.{EndsBehind, FoundBehind}
use Rattle.relying_search.proofs.Standing.{ends_before, ends_early, ends_with, found_behind}
use Rattle.relying_search.proofs.asked.Asked.end_behind.Goals as goal
use Rattle.relying_search.proofs.asked.Asked.end_behind.Goals.{in-NotFound, in-Found, in-GaveUp}

pub returns-clause-ends : goal.returns-clause-ends
returns-clause-ends c = elim c.match-branch-2.branch [
  | in-NotFound w ↦ subst (λ r. IfOk r (EndsBehind c.args.paths.now c.args.self.now)) (sym w.result-is)
      (ends_with c.args.paths.now _ c.args.self.now w.end.result c.in_ok-next.field-0 c.in_ok-next.ensures.answers w.in-NotFound.is w.end.ensures.ends)
  | in-Found w ↦ subst (λ r. IfOk r (EndsBehind c.args.paths.now c.args.self.now)) (sym w.result-is)
      (ends_before c.args.paths.now _ c.args.self.now w.in-Found.field-0 c.in_ok-next.field-0 c.in_ok-next.ensures.answers w.in-Found.is)
  | in-GaveUp w ↦ subst (λ r. IfOk r (EndsBehind c.args.paths.now c.args.self.now)) (sym w.result-is)
      (ends_early c.args.paths.now _ c.args.self.now c.in_ok-next.field-0 c.in_ok-next.ensures.answers w.in-GaveUp.is)
]

pub returns-clause-asked : goal.returns-clause-asked
returns-clause-asked c = elim c.match-branch-2.branch [
  | in-NotFound w ↦ subst (λ r. IfOk r (FoundBehind c.args.paths.now c.args.self.now)) (sym w.result-is)
      (found_behind c.args.paths.now _ c.args.self.now w.end.result c.in_ok-next.field-0 c.in_ok-next.ensures.answers w.in-NotFound.is w.end.ensures.asked)
  | in-Found w ↦ subst (λ r. IfOk r (FoundBehind c.args.paths.now c.args.self.now)) (sym w.result-is) tt
  | in-GaveUp w ↦ subst (λ r. IfOk r (FoundBehind c.args.paths.now c.args.self.now)) (sym w.result-is) tt
]
