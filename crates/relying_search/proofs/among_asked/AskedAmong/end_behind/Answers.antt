use Rattle.std.proofs.Common.{IfOk, subst, sym}
use Rattle.relying_search.specs.AskedAmong.{EndsAfter}
use Rattle.relying_search.proofs.Ending.{none_left, one_left, used_up}
use Rattle.relying_search.proofs.among_asked.AskedAmong.end_behind.Goals as goal
use Rattle.relying_search.proofs.among_asked.AskedAmong.end_behind.Goals.{in-NotFound, in-Found, in-GaveUp}

pub returns : goal.returns
returns c = elim c.match-branch-2.branch [
  | in-NotFound w ↦ subst (λ r. IfOk r (EndsAfter c.args.paths.now c.args.self.now)) (sym w.result-is)
      (none_left c.args.paths.now _ c.args.self.now c.in_ok-next.field-0 c.in_ok-next.ensures.answers w.end.result w.in-NotFound.is w.end.ensures)
  | in-Found w ↦ subst (λ r. IfOk r (EndsAfter c.args.paths.now c.args.self.now)) (sym w.result-is)
      (one_left c.args.paths.now _ c.args.self.now c.in_ok-next.field-0 c.in_ok-next.ensures.answers w.in-Found.field-0 w.in-Found.is)
  | in-GaveUp w ↦ subst (λ r. IfOk r (EndsAfter c.args.paths.now c.args.self.now)) (sym w.result-is)
      (used_up c.args.paths.now _ c.args.self.now c.in_ok-next.field-0 c.in_ok-next.ensures.answers w.in-GaveUp.is)
]
